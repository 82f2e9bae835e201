-- What is billed of the rows of an allotment.
use Rattle.std.proofs.Common.{◌≡◌, ℕ, zero, suc, ◌+◌, ◌-◌, ◌<◌, ◌≤◌, Bool, true, false, cond, not, ◌&&◌, ltb, List, [], ◌∷◌, length, get_or, replicate, sum, sym, refl, ap, ◌∙◌, subst, ⊎_elim, arith}
use Rattle.std.proofs.lemmas.List.{get_or-drop}
use Rattle.std.proofs.lemmas.List.Sums.{sum_by-cons}
use Rattle.std.proofs.lemmas.Bool.{and_left, cases_lt, lt-ltb}
use Rattle.stages.specs.declared.kind.Kind.{Kind}
use Rattle.stages.specs.declared.kind.Kind.TheVariants.{General, Financing}
use Rattle.allotment_theory.specs.Receipts.{Near, Nearby}
use Rattle.allotment.specs.declared.pay.BuyerRow.{BuyerRow}
use Rattle.allotment.specs.Rows.{no_row, lots_in, payments_in, billed_of}
use Rattle.settlement.specs.Allotments.{RowsOf}
use Rattle.settlement.specs.Bills.{billable, owed, row_at, bill_of, unbilled}
use Rattle.settlement.proofs.Marks.{open_at, owes_nothing}
use Rattle.settlement.proofs.Totals.{none_left}

nobody_at : (n i : ℕ) → get_or (replicate n no_row) i no_row ≡ no_row
nobody_at zero i = refl
nobody_at (suc n) zero = refl
nobody_at (suc n) (suc i) = nobody_at n i

-- past the buyers stand rows of no buyer
past_buyers : {kind : Kind} (receipts : ℕ) (rows : List BuyerRow) (of : RowsOf kind receipts rows) (i : ℕ) → length of.filed ≤ i → row_at rows i ≡ no_row
past_buyers receipts rows of i le =
    let n = length of.filed in
    let at : n + (i - n) ≡ i = omega arith in
    ap (row_at rows) (sym at)
    ∙ sym (get_or-drop n rows (i - n) no_row)
    ∙ ap (λ (l : List BuyerRow). row_at l (i - n)) of.promise.beyond
    ∙ nobody_at (8 - n) (i - n)

-- a general tender's rows owe nothing
pub general_at : (receipts : ℕ) (rows : List BuyerRow) → RowsOf General receipts rows → (i : ℕ) → open_at rows i ≡ false
general_at receipts rows of i =
    ⊎_elim
    (λ (lt : i < length of.filed).
    let mark : (row_at rows i).billed ≡ true = of.promise.billed i lt ∙ ap billed_of of.of_kind in
    and_left (not (row_at rows i).billed) _ (ap not mark))
    (λ (le : length of.filed ≤ i). ap billable (past_buyers receipts rows of i le))
    (cases_lt i (length of.filed))

pub general_bill : (receipts : ℕ) (rows : List BuyerRow) (i : ℕ) → RowsOf General receipts rows → bill_of rows i ≡ 0
general_bill receipts rows i of = owes_nothing (row_at rows i) (general_at receipts rows of i)

pub general_none : (receipts : ℕ) (rows : List BuyerRow) → RowsOf General receipts rows → unbilled rows ≡ 0
general_none receipts rows of = none_left rows (λ i _. general_at receipts rows of i)

-- a financing tender's rows are not marked
not_marked : (receipts : ℕ) (rows : List BuyerRow) → RowsOf Financing receipts rows → (i : ℕ) → (row_at rows i).billed ≡ false
not_marked receipts rows of i =
    ⊎_elim
    (λ (lt : i < length of.filed). of.promise.billed i lt ∙ ap billed_of of.of_kind)
    (λ (le : length of.filed ≤ i). ap (λ (row : BuyerRow). row.billed) (past_buyers receipts rows of i le))
    (cases_lt i (length of.filed))

pick_le : (b : Bool) (n : ℕ) → cond b n 0 ≤ n
pick_le true n = omega arith
pick_le false n = omega arith

owed_le : (row : BuyerRow) → owed row ≤ row.payment
owed_le row = pick_le (billable row) row.payment

-- without lots nothing is paid
without_lots : (receipts due payment : ℕ) → Near receipts due 0 payment → payment ≡ 0
without_lots receipts due zero near = refl
without_lots receipts due (suc p) near = absurd (omega (arith, near.beneath))

owes_payment : (row : BuyerRow) → row.billed ≡ false → (row.lots ≡ 0 → row.payment ≡ 0) → owed row ≡ row.payment
owes_payment row unmarked none =
    ⊎_elim
    (λ (lots : 0 < row.lots).
    ⊎_elim
    (λ (some : 0 < row.payment).
    ap (λ (b : Bool). cond (not b && (ltb 0 row.lots && ltb 0 row.payment)) row.payment 0) unmarked
    ∙ ap (λ (b : Bool). cond (b && ltb 0 row.payment) row.payment 0) (lt-ltb 0 row.lots lots)
    ∙ ap (λ (b : Bool). cond b row.payment 0) (lt-ltb 0 row.payment some))
    (λ (le : row.payment ≤ 0). omega (arith, owed_le row))
    (cases_lt 0 row.payment))
    (λ (le : row.lots ≤ 0).
    let zero_lots : row.lots ≡ 0 = omega arith in
    omega (arith, owed_le row, none zero_lots))
    (cases_lt 0 row.lots)

owes_payments : (receipts due : ℕ) (rows : List BuyerRow) → ((i : ℕ) → (row_at rows i).billed ≡ false) → Nearby receipts due (lots_in rows) (payments_in rows) → unbilled rows ≡ sum (payments_in rows)
owes_payments receipts due [] unmarked near = refl
owes_payments receipts due (row ∷ rows) unmarked near =
    let here = owes_payment row (unmarked 0) (λ none. without_lots receipts due row.payment (subst (λ (l : ℕ). Near receipts due l row.payment) none near.0)) in
    let rest = owes_payments receipts due rows (λ i. unmarked (suc i)) near.1 in
    omega (arith, here, rest, sum_by-cons owed row rows, sum_by-cons (λ (n : ℕ). n) row.payment (payments_in rows))

-- no row owes more than its payment
owed_below : (rows : List BuyerRow) → unbilled rows ≤ sum (payments_in rows)
owed_below [] = omega arith
owed_below (row ∷ rows) =
    omega (arith, owed_le row, owed_below rows, sum_by-cons owed row rows, sum_by-cons (λ (n : ℕ). n) row.payment (payments_in rows))

-- the bills of a financing tender's rows come to the receipts
pub financing_total : (receipts : ℕ) (rows : List BuyerRow) → RowsOf Financing receipts rows → unbilled rows ≡ receipts
financing_total receipts rows of =
    let a = of.allotted in
    ⊎_elim
    (λ (some : 0 < a.due). owes_payments a.receipts a.due rows (not_marked receipts rows of) (of.promise.payments_near some) ∙ of.promise.all_paid ∙ of.received)
    (λ (le : a.due ≤ 0).
    let none : a.due ≡ 0 = omega arith in
    let nothing : a.receipts ≡ 0 = (of.promise.nothing_paid none).0 in
    omega (arith, nothing, of.received, of.promise.all_paid, owed_below rows))
    (cases_lt 0 a.due)
