-- Bytes begin with at most one message, and those that do are accepted.
use Rattle.std.proofs.Common.{◌≡◌, ℕ, List, ◌++◌, length, get_or, take, drop, Some, sym, refl, ap, ◌∙◌, arith}
use Rattle.std.proofs.lemmas.List.{length-append, take_at, drop_at}
use Rattle.book.specs.declared.call.Call.TheVariants as calls
use Rattle.frames.specs.Layouts.{length_in}
use Rattle.frames.proofs.Accepting.{whole_frame}
use Rattle.messages.specs.declared.message.Message.{Message}
use Rattle.messages.specs.declared.message.Message.TheVariants as messages
use Rattle.messages.specs.Messages.{tag_of, value_bytes, message_bytes, message_code, message_of, said, tender_layouts, Fits}
use Rattle.values.specs.Spelling.{four_there}
use Rattle.values.specs.Encoding.{terms_there, buyer_there, draw_there, entry_there, change_there, cancellation_there}

-- a message has the length of its tag
known : (m : Message) → Fits m → length_in tender_layouts (tag_of m) ≡ Some (length (value_bytes m))
known (messages.Terms t) fits = refl
known (messages.Buyer b) fits = refl
known (messages.Draw d) fits = refl
known (messages.Open price) fits = refl
known (messages.Close time) fits = refl
known (messages.Call (calls.Enter e)) fits = ap (λ (n : ℕ). Some n) (simp length-append (omega (arith, fits.member.0)))
known (messages.Call (calls.Change c)) fits = ap (λ (n : ℕ). Some n) (simp length-append (omega (arith, fits.member.0)))
known (messages.Call (calls.Cancel c)) fits = ap (λ (n : ℕ). Some n) (simp length-append (omega (arith, fits.member.0)))

-- bytes that begin with a message are accepted
pub message_whole : (m : Message) (rest : List ℕ) → Fits m → message_code (message_bytes m ++ rest) ≡ 0
message_whole m rest fits = whole_frame tender_layouts (tag_of m) (length (value_bytes m)) (value_bytes m) rest refl (known m fits)

-- a message is read back from its tag and value
message_there : (m : Message) → Fits m → message_of (tag_of m) (value_bytes m) ≡ Some m
message_there (messages.Terms t) fits = ap (said messages.Terms) (terms_there t fits.unit fits.previous_close fits.bank_closing)
message_there (messages.Buyer b) fits = ap (said messages.Buyer) (buyer_there b fits.account fits.lots)
message_there (messages.Draw d) fits = ap (said messages.Draw) (draw_there d fits.stride fits.shift)
message_there (messages.Open price) fits = ap (λ (n : ℕ). Some (messages.Open n)) (four_there price fits)
message_there (messages.Close time) fits = ap (λ (n : ℕ). Some (messages.Close n)) (four_there time fits)
message_there (messages.Call (calls.Enter e)) fits =
    ap (said (λ x. messages.Call (calls.Enter x))) (entry_there e fits.member.0 fits.time fits.account fits.price fits.lots)
message_there (messages.Call (calls.Change c)) fits =
    ap (said (λ x. messages.Call (calls.Change x))) (change_there c fits.member.0 fits.time fits.number fits.price fits.lots)
message_there (messages.Call (calls.Cancel c)) fits =
    ap (said (λ x. messages.Call (calls.Cancel x))) (cancellation_there c fits.member.0 fits.time fits.number)

-- bytes that begin with two messages begin with one, and go on alike
pub message_alone :
    (m n : Message) (rest others : List ℕ) →
    Fits m →
    Fits n →
    message_bytes m ++ rest ≡ message_bytes n ++ others →
    (m ≡ n) × (rest ≡ others)
message_alone m n rest others fits fits' e =
    let tags : tag_of m ≡ tag_of n = ap (λ (bs : List ℕ). get_or bs 0 0) e in
    let values : value_bytes m ++ rest ≡ value_bytes n ++ others = ap (λ (bs : List ℕ). drop 3 bs) e in
    let long = known m fits in
    let long' = known n fits' in
    let lengths = ap (length_in tender_layouts) tags in
    let same_length : length (value_bytes m) ≡ length (value_bytes n) = cc in
    let same : value_bytes m ≡ value_bytes n =
    sym (take_at (value_bytes m) rest (length (value_bytes m)) refl)
    ∙ ap (λ (bs : List ℕ). take (length (value_bytes m)) bs) values
    ∙ take_at (value_bytes n) others (length (value_bytes m)) (sym same_length) in
    let behind : rest ≡ others =
    sym (drop_at (value_bytes m) rest (length (value_bytes m)) refl)
    ∙ ap (λ (bs : List ℕ). drop (length (value_bytes m)) bs) values
    ∙ drop_at (value_bytes n) others (length (value_bytes m)) (sym same_length) in
    let there = message_there m fits in
    let there' = message_there n fits' in
    let read = ap (λ (t : ℕ). message_of t (value_bytes m)) tags ∙ ap (message_of (tag_of n)) same in
    (cc, behind)
