-- The billing of buyer rows.
use Rattle.std.specs.Prelude.{◌≡◌, ℕ, ◌<◌, ◌≤◌, Bool, true, cond, not, ◌&&◌, ◌⊎◌, List, [], ◌∷◌, length, sum_by, sum, ◌≢◌, nat_lt, slice_index_or, slice_set}
use Rattle.std.specs.List.{ContainsAt as Has}
use Rattle.allotment.specs.declared.pay.BuyerRow.{BuyerRow}
use Rattle.allotment.specs.Rows.{no_row}

-- there is something to bill: the row is not marked, and has lots and a payment
abbrev pub billable : BuyerRow → Bool
billable row = not row.billed && (nat_lt 0 row.lots && nat_lt 0 row.payment)

-- what a row is billed
abbrev pub owed : BuyerRow → ℕ
owed row = cond (billable row) row.payment 0

abbrev pub marked : BuyerRow → BuyerRow
marked row = record { lots = row.lots; payment = row.payment; billed = true }

-- the row at an index; past the rows stands the row of no buyer, which owes nothing
abbrev pub row_at : List BuyerRow → ℕ → BuyerRow
row_at rows i = slice_index_or rows i no_row

-- what billing the row at an index asks for
abbrev pub bill_of : List BuyerRow → ℕ → ℕ
bill_of rows i = owed (row_at rows i)

-- the rows after it: the row is marked, if something is billed, and all others stay as they are
abbrev pub after_bill : List BuyerRow → ℕ → List BuyerRow
after_bill rows i = cond (billable (row_at rows i)) (slice_set rows i (marked (row_at rows i))) rows

-- the rows after the rows at these indices were billed in turn, and what each was billed
abbrev pub after_bills : List BuyerRow → List ℕ → List BuyerRow
after_bills rows [] = rows
after_bills rows (i ∷ is) = after_bills (after_bill rows i) is

abbrev pub bills_of : List BuyerRow → List ℕ → List ℕ
bills_of rows [] = []
bills_of rows (i ∷ is) = bill_of rows i ∷ bills_of (after_bill rows i) is

-- each index below n is among these, once or more, in whatever order
abbrev pub EachOf : ℕ → List ℕ → Type 0
EachOf n order = (i : ℕ) → i < n → Has order i

-- what is still to be billed
abbrev pub unbilled : List BuyerRow → ℕ
unbilled rows = sum_by owed rows

-- however all rows are billed, the slips come to the total
abbrev pub SlipsTotal : List BuyerRow → ℕ → Type 0
SlipsTotal rows total = (order : List ℕ) → EachOf (length rows) order → sum (bills_of rows order) ≡ total

-- The row at the index is not among the rows, is marked already, or is without lots or payment.
abbrev pub NothingToBill : List BuyerRow → ℕ → Type 0
NothingToBill rows i =
    (length rows ≤ i) ⊎ (((row_at rows i).billed ≡ true) ⊎ (((row_at rows i).lots ≡ 0) ⊎ ((row_at rows i).payment ≡ 0)))

-- all rows but the one at the index stay as they are
abbrev pub OthersStay : ℕ → List BuyerRow → List BuyerRow → Type 0
OthersStay i before after = (j : ℕ) → (j ≢ i) → row_at after j ≡ row_at before j

-- once the row at the index was billed, billing it again asks for nothing, whatever was billed between
abbrev pub NothingAgain : ℕ → List BuyerRow → Type 0
NothingAgain i after = (between : List ℕ) → bill_of (after_bills after between) i ≡ 0
