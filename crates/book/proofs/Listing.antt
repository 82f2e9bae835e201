-- What the answers of the ordered list tell.
use Rattle.std.proofs.Common.{◌≡◌, ℕ, zero, suc, ◌<◌, ◌≤◌, List, [], ◌∷◌, length, get_or, Some, None, arith}
use Rattle.std.specs.List.{slice_get}
use Rattle.std.proofs.lemmas.List.{length-take}
use Rattle.std.proofs.lemmas.Option.{slice_get-get_or}
use Rattle.ordered.specs.declared.list.OrderedList.{OrderedList}
use Rattle.ordered.specs.Listed.{listed, capacity}

-- no more are listed than there are records
pub listed_within : {X : Type 0} (l : OrderedList X) → length (listed l) ≤ capacity l
listed_within l = let e = length-take l.len l.items.now in omega arith

-- there is a record at each index within the list
pub nth_within : {X : Type 0} (xs : List X) (i : ℕ) → i < length xs → None ≡ slice_get xs i → ⊥
nth_within [] i lt e = omega arith
nth_within (x ∷ xs) zero lt e = let z : ◌≡◌ {A = ℕ} 0 1 = cc in omega arith
nth_within (x ∷ xs) (suc i) lt e = nth_within xs i (omega arith) e

-- what is read at an index stands there
pub read_at : {X : Type 0} (xs : List X) (i : ℕ) (x : X) → i < length xs → Some x ≡ slice_get xs i → get_or xs i x ≡ x
read_at xs i x lt got = let e = slice_get-get_or xs i x lt in cc
