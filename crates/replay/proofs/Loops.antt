-- One turn of the loops over buyers and over calls.
use Rattle.std.proofs.Common.{◌≡◌, ℕ, ◌+◌, ◌*◌, ◌<◌, ◌≤◌, false, List, [], ◌∷◌, ◌++◌, length, take, drop, set, sym, refl, subst, arith}
use Rattle.std.proofs.lemmas.List.{length-append, take_more_set}
use Rattle.stages.specs.declared.terms.Buyer.{Buyer}
use Rattle.stages.specs.declared.terms.Terms.{Terms}
use Rattle.book.specs.declared.call.Call.{Call}
use Rattle.book.specs.declared.call.Call.TheVariants.{Enter, Change, Cancel}
use Rattle.values.specs.declared.draw.DrawNumbers.{DrawNumbers}
use Rattle.messages.specs.declared.message.Message.{Message}
use Rattle.messages.specs.declared.message.Message.TheVariants as says
use Rattle.messages.specs.declared.reader.Placed.{Placed}
use Rattle.messages.specs.Messages.{CallFits, Fits, message_bytes, tag_of}
use Rattle.values.specs.Fields.{four_bytes, two_bytes}
use Rattle.messages.specs.Reading.{MessageStands}
use Rattle.faults.specs.declared.fault.OrderFault.TheVariants.{OutOfOrder}
use Rattle.replay.specs.Files.{Leads, Reads}
use Rattle.replay.specs.Reading.{Stops}
use Rattle.replay.specs.Stages.{Stage, Step, in_order}
use Rattle.replay.specs.Stages.Stage.{Filing, Running}
use Rattle.replay.specs.Stages.Step.{buyer, call}
use Rattle.replay.proofs.Walk.{misplaced, past}

-- a message is found in the file that the loop reads
same : (ys file : List ℕ) (at then : ℕ) (p : Placed) → ys ≡ file → MessageStands ys at p then → MessageStands file at p then
same ys file at then p e f = subst (λ z. MessageStands z at p then) e f

-- one buyer more
pub one_buyer : (ys file : List ℕ) (from at then : ℕ) (p : Placed) (t : Terms) (bs : List Buyer) (b : Buyer) →
    ys ≡ file → MessageStands ys at p then → p.message ≡ says.Buyer b → length bs < 8 →
    Leads file from (Filing t []) at (Filing t bs) → Leads file from (Filing t []) then (Filing t (bs ++ b ∷ []))
one_buyer ys file from at then p t bs b e f is few before v rest =
    let step : Step (Filing t bs) p.message (Filing t (bs ++ b ∷ [])) =
    subst (λ m. Step (Filing t bs) m (Filing t (bs ++ b ∷ []))) (sym is) (buyer few) in
    before v (past file at then p _ _ (same ys file at then p e f) step v rest)

-- one call more
pub one_call : (ys file : List ℕ) (from at then : ℕ) (p : Placed) (t : Terms) (bs : List Buyer) (d : DrawNumbers) (base : ℕ) (cs : List Call) (i : ℕ) (c : Call) →
    ys ≡ file → MessageStands ys at p then → p.message ≡ says.Call c → i < length cs →
    Leads file from (Running t bs d base []) at (Running t bs d base (take i cs)) → Leads file from (Running t bs d base []) then (Running t bs d base (take (i + 1) (set cs i c)))
one_call ys file from at then p t bs d base cs i c e f is lt before v rest =
    let step : Step (Running t bs d base (take i cs)) p.message (Running t bs d base (take i cs ++ c ∷ [])) =
    subst (λ m. Step (Running t bs d base (take i cs)) m (Running t bs d base (take i cs ++ c ∷ []))) (sym is) call in
    before v (past file at then p _ _ (same ys file at then p e f) step v (subst (λ zs. Reads (drop then file) then (Running t bs d base zs) v) (take_more_set cs i c lt) rest))

-- a message out of order behind others that were taken
pub stopped : (ys file : List ℕ) (from at then : ℕ) (p : Placed) (s s' : Stage) →
    ys ≡ file → MessageStands ys at p then → in_order s' (tag_of p.message) ≡ false → Leads file from s at s' → Stops file from s (OutOfOrder p.place)
stopped ys file from at then p s s' e f wrong before = before _ (misplaced file at then p s' (same ys file at then p e f) wrong)

-- a ninth buyer is out of order
pub ninth : (t : Terms) (bs : List Buyer) (m : Message) (b : Buyer) → m ≡ says.Buyer b → length bs ≡ 8 → in_order (Filing t bs) (tag_of m) ≡ false
ninth t bs m b is full = subst (λ m. in_order (Filing t bs) (tag_of m) ≡ false) (sym is) (rw full refl)

-- the shortest call has 13 bytes
pub call_long : (c : Call) → CallFits c → 13 ≤ length (message_bytes (says.Call c))
call_long (Enter e) f = omega (arith, f.member.0, length-append e.member (four_bytes e.account ++ (four_bytes e.price ++ four_bytes e.lots)))
call_long (Change e) f = omega (arith, f.member.0, length-append e.member (two_bytes e.number ++ (four_bytes e.price ++ four_bytes e.lots)))
call_long (Cancel e) f = omega (arith, f.member.0, length-append e.member (two_bytes e.number))

-- so many calls as were read are 13 bytes each, at least
pub far : (file : List ℕ) (at then i : ℕ) (p : Placed) (c : Call) → MessageStands file at p then → p.message ≡ says.Call c → 13 * i ≤ at → 13 * (i + 1) ≤ then
far file at then i p c f is h =
    let long : 13 ≤ length (message_bytes p.message) =
    subst (λ m. 13 ≤ length (message_bytes m)) (sym is) (call_long c (subst (λ m. Fits m) is f.fits)) in
    omega (arith, long, f.goes, h)
