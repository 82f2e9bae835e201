-- What the bills come to.
use Rattle.std.proofs.Common.{◌≡◌, ℕ, suc, ◌+◌, ◌<◌, false, List, [], ◌∷◌, length, set, sum, refl, ap, ◌∙◌, ⊎_elim, arith}
use Rattle.std.proofs.lemmas.List.Sums.{sum_by-cons, sum_by-set}
use Rattle.std.proofs.lemmas.Bool.{cases_Bool}
use Rattle.allotment.specs.declared.pay.BuyerRow.{BuyerRow}
use Rattle.allotment.specs.Rows.{no_row}
use Rattle.settlement.specs.Bills.{owed, marked, row_at, bill_of, after_bill, bills_of, after_bills, SlipsTotal, unbilled}
use Rattle.settlement.proofs.Marks.{open_at, owes_nothing, among, did, did_not, length_after, visited}

-- what is billed, and what is still to be billed then, is what was to be billed before
conserved : (rows : List BuyerRow) (i : ℕ) → bill_of rows i + unbilled (after_bill rows i) ≡ unbilled rows
conserved rows i =
    ⊎_elim
    (λ so.
    let left : unbilled (after_bill rows i) ≡ unbilled (set rows i (marked (row_at rows i))) = ap unbilled (did rows i so) in
    let moved : unbilled (set rows i (marked (row_at rows i))) + bill_of rows i ≡ unbilled rows + 0 = sum_by-set owed rows i (marked (row_at rows i)) no_row (among rows i so) in
    omega (arith, left, moved))
    (λ not_so.
    let none : bill_of rows i ≡ 0 = owes_nothing (row_at rows i) not_so in
    let left : unbilled (after_bill rows i) ≡ unbilled rows = ap unbilled (did_not rows i not_so) in
    omega (arith, none, left))
    (cases_Bool (open_at rows i))

conserved_all : (rows : List BuyerRow) (is : List ℕ) → sum (bills_of rows is) + unbilled (after_bills rows is) ≡ unbilled rows
conserved_all rows [] = omega arith
conserved_all rows (i ∷ is) =
    omega (arith, sum_by-cons (λ (n : ℕ). n) (bill_of rows i) (bills_of (after_bill rows i) is), conserved_all (after_bill rows i) is, conserved rows i)

length_after_all : (rows : List BuyerRow) (is : List ℕ) → length (after_bills rows is) ≡ length rows
length_after_all rows [] = refl
length_after_all rows (i ∷ is) = length_after_all (after_bill rows i) is ∙ length_after rows i

-- rows that owe nothing have nothing to be billed
pub none_left : (rows : List BuyerRow) → ((i : ℕ) → i < length rows → open_at rows i ≡ false) → unbilled rows ≡ 0
none_left [] not_so = refl
none_left (row ∷ rows) not_so =
    omega (arith, sum_by-cons owed row rows, owes_nothing row (not_so 0 (omega arith)), none_left rows (λ i lt. not_so (suc i) (omega arith)))

-- the bills of all rows, in whatever order, come to what is to be billed
pub all_billed : (rows : List BuyerRow) → SlipsTotal rows (unbilled rows)
all_billed rows order each =
    let none = none_left (after_bills rows order) (λ i lt. visited rows order i (each i (omega (arith, length_after_all rows order)))) in
    omega (arith, conserved_all rows order, none)
