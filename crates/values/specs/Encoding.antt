-- Each value is read back from its bytes.
use Rattle.std.proofs.Common.{◌≡◌, ℕ, List, ◌++◌, length, Some, sym, ap, ◌∙◌}
use Rattle.stages.specs.declared.terms.Buyer.{Buyer}
use Rattle.stages.specs.declared.terms.Terms.{Terms}
use Rattle.book.specs.declared.cancel.Cancellation.{Cancellation}
use Rattle.book.specs.declared.change.Change.{Change}
use Rattle.book.specs.declared.entry.Entry.{Entry}
use Rattle.values.specs.declared.draw.DrawNumbers.{DrawNumbers}
use Rattle.values.specs.Fields.{two_bytes, four_bytes, Half, Word}
use Rattle.values.specs.Values.{terms_bytes, buyer_bytes, draw_bytes, terms_in, buyer_in, draw_in, amount_in, entry_bytes, change_bytes, cancellation_bytes, entry_in, change_in, cancellation_in}
use Rattle.values.specs.Spelling.{two_there, four_there, code_spelt}

abbrev terms : ℕ → ℕ → ℕ → ℕ → ℕ → ℕ → Terms
terms k m s u c b = record { kind = k; method = m; shortfall = s; unit = u; previous_close = c; bank_closing = b }

abbrev buyer : ℕ → ℕ → Buyer
buyer a l = record { account = a; lots = l }

abbrev draw : ℕ → ℕ → DrawNumbers
draw s h = record { stride = s; shift = h }

abbrev entry : ℕ → List ℕ → ℕ → ℕ → ℕ → Entry
entry t m a p l = record { time = t; member = m; account = a; price = p; lots = l }

abbrev change : ℕ → List ℕ → ℕ → ℕ → ℕ → Change
change t m n p l = record { time = t; member = m; number = n; price = p; lots = l }

abbrev cancellation : ℕ → List ℕ → ℕ → Cancellation
cancellation t m n = record { time = t; member = m; number = n }

five : {A B C D E X : Type 0} (f : A → B → C → D → E → X) {a a' : A} {b b' : B} {c c' : C} {d d' : D} {e e' : E} → a ≡ a' → b ≡ b' → c ≡ c' → d ≡ d' → e ≡ e' → f a b c d e ≡ f a' b' c' d' e'
five f p q r s t = cc

two : {A B X : Type 0} (f : A → B → X) {a a' : A} {b b' : B} → a ≡ a' → b ≡ b' → f a b ≡ f a' b'
two f p q = cc

three : {A B C X : Type 0} (f : A → B → C → X) {a a' : A} {b b' : B} {c c' : C} → a ≡ a' → b ≡ b' → c ≡ c' → f a b c ≡ f a' b' c'
three f p q r = cc

pub terms_there : (t : Terms) → Half t.unit → Word t.previous_close → Word t.bank_closing → terms_in (terms_bytes t) ≡ Some t
terms_there t fu fc fb =
    ap (λ (x : Terms). Some x)
    (three (terms t.kind t.method t.shortfall) (two_there t.unit fu) (four_there t.previous_close fc) (four_there t.bank_closing fb))

pub buyer_there : (b : Buyer) → Word b.account → Word b.lots → buyer_in (buyer_bytes b) ≡ Some b
buyer_there b fa fl = ap (λ (x : Buyer). Some x) (two buyer (four_there b.account fa) (four_there b.lots fl))

pub draw_there : (d : DrawNumbers) → Half d.stride → Half d.shift → draw_in (draw_bytes d) ≡ Some d
draw_there d fs fh = ap (λ (x : DrawNumbers). Some x) (two draw (two_there d.stride fs) (two_there d.shift fh))

pub entry_there : (e : Entry) → length e.member ≡ 4 → Word e.time → Word e.account → Word e.price → Word e.lots → entry_in (entry_bytes e) ≡ Some e
entry_there e long ft fa fp fl =
    let member = code_spelt e.member long in
    let time = four_there e.time ft in
    let account = four_there e.account fa in
    let price = four_there e.price fp in
    let lots = four_there e.lots fl in
    ap (λ (m : List ℕ). entry_in (four_bytes e.time ++ (m ++ (four_bytes e.account ++ (four_bytes e.price ++ four_bytes e.lots))))) (sym member)
    ∙ ap (λ (x : Entry). Some x) (five entry time member account price lots)

pub change_there : (c : Change) → length c.member ≡ 4 → Word c.time → Half c.number → Word c.price → Word c.lots → change_in (change_bytes c) ≡ Some c
change_there c long ft fn fp fl =
    let member = code_spelt c.member long in
    let time = four_there c.time ft in
    let number = two_there c.number fn in
    let price = four_there c.price fp in
    let lots = four_there c.lots fl in
    ap (λ (m : List ℕ). change_in (four_bytes c.time ++ (m ++ (two_bytes c.number ++ (four_bytes c.price ++ four_bytes c.lots))))) (sym member)
    ∙ ap (λ (x : Change). Some x) (five change time member number price lots)

pub cancellation_there : (c : Cancellation) → length c.member ≡ 4 → Word c.time → Half c.number → cancellation_in (cancellation_bytes c) ≡ Some c
cancellation_there c long ft fn =
    let member = code_spelt c.member long in
    let time = four_there c.time ft in
    let number = two_there c.number fn in
    ap (λ (m : List ℕ). cancellation_in (four_bytes c.time ++ (m ++ two_bytes c.number))) (sym member)
    ∙ ap (λ (x : Cancellation). Some x) (three cancellation time member number)

pub amount_there : (n : ℕ) → Word n → amount_in (four_bytes n) ≡ Some n
amount_there n small = ap (λ (k : ℕ). Some k) (four_there n small)
