-- A row that was billed owes nothing any more.
use Rattle.std.proofs.Common.{◌≡◌, ℕ, zero, suc, ◌<◌, ◌≤◌, Bool, true, false, cond, List, [], ◌∷◌, length, set, sym, ap, ◌∙◌, ⊎_elim, arith}
use Rattle.std.specs.List.{ContainsAt as Has}
use Rattle.std.proofs.lemmas.List.{get_or_past, get_or-set_same, get_or-set_other, length-set}
use Rattle.std.proofs.lemmas.Bool.{cases_Bool, cases_eq, cases_lt, true≢false}
use Rattle.allotment.specs.declared.pay.BuyerRow.{BuyerRow}
use Rattle.allotment.specs.Rows.{no_row}
use Rattle.settlement.specs.Bills.{billable, owed, marked, row_at, after_bill, after_bills, NothingAgain, OthersStay}

-- there is something to bill at the index
abbrev pub open_at : List BuyerRow → ℕ → Bool
open_at rows i = billable (row_at rows i)

pub owes_nothing : (row : BuyerRow) → billable row ≡ false → owed row ≡ 0
owes_nothing row not_so = ap (λ (b : Bool). cond b row.payment 0) not_so

-- only rows that are there can be billed
pub among : (rows : List BuyerRow) (i : ℕ) → open_at rows i ≡ true → i < length rows
among rows i so =
    ⊎_elim
    (λ (lt : i < length rows). lt)
    (λ (le : length rows ≤ i). absurd (true≢false (sym so ∙ ap billable (get_or_past rows i no_row le))))
    (cases_lt i (length rows))

pub did : (rows : List BuyerRow) (i : ℕ) → open_at rows i ≡ true → after_bill rows i ≡ set rows i (marked (row_at rows i))
did rows i so = ap (λ (b : Bool). cond b (set rows i (marked (row_at rows i))) rows) so

pub did_not : (rows : List BuyerRow) (i : ℕ) → open_at rows i ≡ false → after_bill rows i ≡ rows
did_not rows i not_so = ap (λ (b : Bool). cond b (set rows i (marked (row_at rows i))) rows) not_so

pub length_after : (rows : List BuyerRow) (i : ℕ) → length (after_bill rows i) ≡ length rows
length_after rows i =
    ⊎_elim
    (λ so. ap length (did rows i so) ∙ length-set rows i (marked (row_at rows i)))
    (λ not_so. ap length (did_not rows i not_so))
    (cases_Bool (open_at rows i))

-- a row that was billed is not billed again
pub once : (rows : List BuyerRow) (i : ℕ) → open_at (after_bill rows i) i ≡ false
once rows i =
    ⊎_elim
    (λ so. ap (λ (l : List BuyerRow). open_at l i) (did rows i so) ∙ ap billable (get_or-set_same rows i (marked (row_at rows i)) no_row (among rows i so)))
    (λ not_so. ap (λ (l : List BuyerRow). open_at l i) (did_not rows i not_so) ∙ not_so)
    (cases_Bool (open_at rows i))

pub others : (rows : List BuyerRow) (i : ℕ) → OthersStay i rows (after_bill rows i)
others rows i j apart =
    ⊎_elim
    (λ so. ap (λ (l : List BuyerRow). row_at l j) (did rows i so) ∙ get_or-set_other rows i j (marked (row_at rows i)) no_row apart)
    (λ not_so. ap (λ (l : List BuyerRow). row_at l j) (did_not rows i not_so))
    (cases_Bool (open_at rows i))

-- and the billing of others leaves it so
stays : (rows : List BuyerRow) (i j : ℕ) → open_at rows j ≡ false → open_at (after_bill rows i) j ≡ false
stays rows i j not_so =
    ⊎_elim
    (λ (e : j ≡ i). ap (λ (k : ℕ). open_at (after_bill rows i) k) e ∙ once rows i)
    (λ apart. ap billable (others rows i j apart) ∙ not_so)
    (cases_eq j i)

pub stays_all : (rows : List BuyerRow) (is : List ℕ) (j : ℕ) → open_at rows j ≡ false → open_at (after_bills rows is) j ≡ false
stays_all rows [] j not_so = not_so
stays_all rows (i ∷ is) j not_so = stays_all (after_bill rows i) is j (stays rows i j not_so)

pub again : (rows : List BuyerRow) (i : ℕ) → NothingAgain i (after_bill rows i)
again rows i between = owes_nothing (row_at (after_bills (after_bill rows i) between) i) (stays_all (after_bill rows i) between i (once rows i))

-- a row whose index was among those billed is not billed again
pub visited : (rows : List BuyerRow) (is : List ℕ) (j : ℕ) → Has is j → open_at (after_bills rows is) j ≡ false
visited rows [] j (k, lt, at) = absurd (omega arith)
visited rows (i ∷ is) j (zero, lt, at) =
    stays_all (after_bill rows i) is j (ap (λ (k : ℕ). open_at (after_bill rows i) k) (sym (at 0)) ∙ once rows i)
visited rows (i ∷ is) j (suc k, lt, at) = visited (after_bill rows i) is j (k, omega arith, at)
