-- A file comes to one verdict alone.
use Rattle.std.proofs.Common.{◌≡◌, ℕ, ◌+◌, ◌<◌, true, List, [], length, sym, refl, ap, ◌∙◌, subst, arith}
use Rattle.std.proofs.lemmas.Bool.{lt-ltb, true≢false}
use Rattle.stages.specs.declared.particulars.Particulars.{Particulars}
use Rattle.stages.specs.declared.terms.Buyer.{Buyer}
use Rattle.stages.specs.declared.terms.Terms.{Terms}
use Rattle.stages.specs.Filing.{AsFiled}
use Rattle.stages.specs.Steps.{closing_code, opening_code}
use Rattle.book.specs.declared.call.Call.TheVariants.{Enter, Change, Cancel}
use Rattle.messages.specs.declared.message.Message.{Message}
use Rattle.messages.specs.Messages.{message_bytes, message_code, tag_of}
use Rattle.messages.proofs.Unique.{message_alone, message_whole}
use Rattle.replay.specs.Files.{OneVerdict, Reads, Stands, Verdict}
use Rattle.replay.specs.Files.ComesTo.{read, too_long}
use Rattle.replay.specs.Files.Reads.{broken, done, ended, out_of_order, refused, taken}
use Rattle.faults.specs.declared.layer.Layer.TheVariants.{Rule}
use Rattle.replay.specs.Files.Verdict.{Faulty}
use Rattle.replay.specs.Stages.{RefusedBy, Stage, Step, in_order}
use Rattle.replay.specs.Stages.RefusedBy.{closing, draw, filing, opening}
use Rattle.replay.specs.Stages.Step.{buyer, call, closes, files, opens, terms}

-- two particulars that were filed on one set of terms are of one kind and have one previous close
same_kind : (t : Terms) (bs : List Buyer) (p q : Particulars) → AsFiled t bs p → AsFiled t bs q → p.kind ≡ q.kind
same_kind t bs p q f g = let a = f.kind in let b = g.kind in cc

same_opening : (t : Terms) (bs : List Buyer) (p q : Particulars) (base : ℕ) → AsFiled t bs p → AsFiled t bs q → opening_code p base ≡ opening_code q base
same_opening t bs p q base f g = rw (same_kind t bs p q f g, f.previous_close ∙ sym g.previous_close) refl

same_closing : (t : Terms) (bs : List Buyer) (p q : Particulars) (time : ℕ) → AsFiled t bs p → AsFiled t bs q → closing_code p time ≡ closing_code q time
same_closing t bs p q time f g = rw (same_kind t bs p q f g) refl

-- nothing stands in no bytes
nothing_there : {m : Message} {behind : List ℕ} → Stands [] m behind → ⊥
nothing_there {m} {behind} h = let e = ap length h.bytes in absurd (omega (arith, e))

-- a frame that holds a message can be read
readable : {rest behind : List ℕ} {m : Message} → Stands rest m behind → 0 < message_code rest → ⊥
readable {rest} {behind} {m} h some =
    let whole : message_code rest ≡ 0 = ap message_code h.bytes ∙ message_whole m behind h.fits in
    absurd (omega (arith, whole, some))

-- the bytes begin with one message alone
one_message : {rest behind others : List ℕ} {m n : Message} → Stands rest m behind → Stands rest n others → (m ≡ n) × (behind ≡ others)
one_message {rest} {behind} {others} {m} {n} h k = message_alone m n behind others h.fits k.fits (sym h.bytes ∙ k.bytes)

-- what is taken, or refused by its number, is in its order
taken_in_order : {s s' : Stage} {m : Message} → Step s m s' → in_order s (tag_of m) ≡ true
taken_in_order terms = refl
taken_in_order (buyer {bs = bs} few) = rw (lt-ltb (length bs) 8 few) refl
taken_in_order (files a b) = refl
taken_in_order (opens a b) = refl
taken_in_order (call {c = Enter e}) = refl
taken_in_order (call {c = Change e}) = refl
taken_in_order (call {c = Cancel e}) = refl
taken_in_order (closes a b) = refl

refused_in_order : {s : Stage} {m : Message} {n : ℕ} → RefusedBy s m n → in_order s (tag_of m) ≡ true
refused_in_order (filing a) = refl
refused_in_order (draw a b) = refl
refused_in_order (opening a b) = refl
refused_in_order (closing a b) = refl

-- what is taken is not refused
not_both : {s s' : Stage} {m : Message} {n : ℕ} → Step s m s' → RefusedBy s m n → ⊥
not_both terms k = elim k [ ]
not_both (buyer few) k = elim k [ ]
not_both call k = elim k [ ]
not_both (files a b) (filing c) = absurd (omega (arith, a, c))
not_both (files a b) (draw c d) = absurd (omega (arith, b, d))
not_both (opens {t} {bs} {p = p} {base = base} a b) (opening {p = q} c d) = absurd (omega (arith, same_opening t bs p q base a c, b, d))
not_both (closes {t} {bs} {p = p} {time = time} a b) (closing {p = q} c d) = absurd (omega (arith, same_closing t bs p q time a c, b, d))

-- one number alone
one_number : {s : Stage} {m : Message} {n k : ℕ} → RefusedBy s m n → RefusedBy s m k → n ≡ k
one_number (filing a) (filing b) = refl
one_number (filing a) (draw b c) = absurd (omega (arith, a, b))
one_number (draw a b) (filing c) = absurd (omega (arith, a, c))
one_number (draw a b) (draw c d) = refl
one_number (opening {t} {bs} {p = p} {base = base} a b) (opening {p = q} c d) = same_opening t bs p q base a c
one_number (closing {t} {bs} {p = p} {time = time} a b) (closing {p = q} c d) = same_closing t bs p q time a c

-- one stage alone
one_stage : {s x y : Stage} {m : Message} → Step s m x → Step s m y → x ≡ y
one_stage terms terms = refl
one_stage (buyer a) (buyer b) = refl
one_stage (files a b) (files c d) = refl
one_stage (opens a b) (opens c d) = refl
one_stage call call = refl
one_stage (closes a b) (closes c d) = refl

-- The reading goes one way alone.
pub one_way : {rest : List ℕ} {at : ℕ} {s : Stage} {v w : Verdict} → Reads rest at s v → Reads rest at s w → v ≡ w
one_way done done = refl
one_way done (ended h) = absurd (true≢false h)
one_way done (broken h k) = absurd (omega (arith, h))
one_way done (out_of_order h k) = absurd (nothing_there h)
one_way done (refused h k) = absurd (nothing_there h)
one_way done (taken h k r) = absurd (nothing_there h)
one_way (ended h) done = absurd (true≢false h)
one_way (ended h) (ended k) = refl
one_way (ended h) (broken k l) = absurd (omega (arith, k))
one_way (ended h) (out_of_order k l) = absurd (nothing_there k)
one_way (ended h) (refused k l) = absurd (nothing_there k)
one_way (ended h) (taken k l r) = absurd (nothing_there k)
one_way (broken h k) done = absurd (omega (arith, h))
one_way (broken h k) (ended l) = absurd (omega (arith, h))
one_way (broken h k) (broken l m) = refl
one_way (broken h k) (out_of_order l m) = absurd (readable l k)
one_way (broken h k) (refused l m) = absurd (readable l k)
one_way (broken h k) (taken l m r) = absurd (readable l k)
one_way (out_of_order h k) done = absurd (nothing_there h)
one_way (out_of_order h k) (ended l) = absurd (nothing_there h)
one_way (out_of_order h k) (broken l m) = absurd (readable h m)
one_way (out_of_order h k) (out_of_order l m) = refl
one_way (out_of_order {s = s} h k) (refused {m = m} l r) =
    absurd (true≢false (sym (ap (λ m. in_order s (tag_of m)) (one_message h l).0 ∙ refused_in_order r) ∙ k))
one_way (out_of_order {s = s} h k) (taken {m = m} l step r) =
    absurd (true≢false (sym (ap (λ m. in_order s (tag_of m)) (one_message h l).0 ∙ taken_in_order step) ∙ k))
one_way (refused h r) done = absurd (nothing_there h)
one_way (refused h r) (ended l) = absurd (nothing_there h)
one_way (refused h r) (broken l m) = absurd (readable h m)
one_way (refused {s = s} h r) (out_of_order l k) =
    absurd (true≢false (sym (ap (λ m. in_order s (tag_of m)) (one_message l h).0 ∙ refused_in_order r) ∙ k))
one_way (refused {at = at} {n = n} {s = s} h r) (refused {n = k} l q) =
    ap (λ n. Faulty Rule n at) (one_number (subst (λ m. RefusedBy s m n) (one_message h l).0 r) q)
one_way (refused {n = n} {s = s} h r) (taken l step q) = absurd (not_both step (subst (λ m. RefusedBy s m n) (one_message h l).0 r))
one_way (taken h step r) done = absurd (nothing_there h)
one_way (taken h step r) (ended l) = absurd (nothing_there h)
one_way (taken h step r) (broken l m) = absurd (readable h m)
one_way (taken {s = s} h step r) (out_of_order l k) =
    absurd (true≢false (sym (ap (λ m. in_order s (tag_of m)) (one_message l h).0 ∙ taken_in_order step) ∙ k))
one_way (taken {s = s} h step r) (refused {n = n} l q) = absurd (not_both step (subst (λ m. RefusedBy s m n) (one_message l h).0 q))
one_way (taken {behind = behind} {at = at} {s = s} {s' = x} {m = m} {v = v} h step r) (taken {behind = others} {s' = y} {m = n} l step' q) =
    let same = one_message h l in
    let stages : x ≡ y = one_stage (subst (λ k. Step s k x) same.0 step) step' in
    let moved : Reads others (at + length (message_bytes n)) y v =
    subst (λ z. Reads others (at + length (message_bytes n)) z v) stages
    (subst (λ k. Reads others (at + length (message_bytes k)) x v) same.0 (subst (λ b. Reads b (at + length (message_bytes m)) x v) same.1 r)) in
    one_way moved q

pub one_verdict : (file : List ℕ) → OneVerdict file
one_verdict file v w (too_long a) (too_long b) = refl
one_verdict file v w (too_long a) (read b r) = absurd (omega (arith, a, b))
one_verdict file v w (read a r) (too_long b) = absurd (omega (arith, a, b))
one_verdict file v w (read a r) (read b q) = one_way r q
