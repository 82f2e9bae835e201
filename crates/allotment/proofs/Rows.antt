-- What rows hold.
use Rattle.std.proofs.Common.{◌≡◌, ℕ, zero, suc, ◌+◌, ◌-◌, ◌<◌, Bool, List, [], ◌∷◌, ◌++◌, map, length, get_or, take, drop, replicate, sum, sym, refl, ap, ◌∙◌, arith}
use Rattle.std.proofs.lemmas.List.{map-append, take-append-drop}
use Rattle.std.proofs.lemmas.List.Folds.{sum_by-replicate}
use Rattle.std.proofs.lemmas.List.Sums.{sum_by-append}
use Rattle.allotment_theory.specs.Receipts.{part, payments, Nearby}
use Rattle.allotment.specs.declared.pay.BuyerRow.{BuyerRow}
use Rattle.allotment.specs.Rows.{no_row, rows_from, lots_in, payments_in}

pub lots_held : (r due : ℕ) (billed : Bool) (before : ℕ) (ls : List ℕ) → lots_in (rows_from r due billed before ls) ≡ ls
lots_held r due billed before [] = refl
lots_held r due billed before (l ∷ ls) = ap (λ (k : List ℕ). l ∷ k) (lots_held r due billed (before + l) ls)

pub payments_held : (r due : ℕ) (billed : Bool) (before : ℕ) (ls : List ℕ) → payments_in (rows_from r due billed before ls) ≡ payments r due before ls
payments_held r due billed before [] = refl
payments_held r due billed before (l ∷ ls) =
    ap (λ (k : List ℕ). (part r due (before + l) - part r due before) ∷ k) (payments_held r due billed (before + l) ls)

pub marks_held : (r due : ℕ) (billed : Bool) (before : ℕ) (ls : List ℕ) (i : ℕ) → i < length ls → (get_or (rows_from r due billed before ls) i no_row).billed ≡ billed
marks_held r due billed before [] i lt = absurd (omega arith)
marks_held r due billed before (l ∷ ls) zero lt = refl
marks_held r due billed before (l ∷ ls) (suc i) lt = marks_held r due billed (before + l) ls i (omega arith)

pub get_or_in : (rows : List BuyerRow) (i : ℕ) → get_or (lots_in rows) i 0 ≡ (get_or rows i no_row).lots
get_or_in [] zero = refl
get_or_in [] (suc i) = refl
get_or_in (b ∷ bs) zero = refl
get_or_in (b ∷ bs) (suc i) = get_or_in bs i

-- rows of no buyer have no lots and pay nothing
map_replicate : {X : Type 0} (f : X → ℕ) (n : ℕ) (x : X) → map f (replicate n x) ≡ replicate n (f x)
map_replicate f zero x = refl
map_replicate f (suc n) x = ap (λ (l : List ℕ). f x ∷ l) (map_replicate f n x)

-- a column of rows, of which those past n are of no buyer
module _ (f : BuyerRow → ℕ) (none : f no_row ≡ 0) (n k : ℕ) (rows : List BuyerRow) (beyond : drop n rows ≡ replicate k no_row) where
  pub column : map f rows ≡ map f (take n rows) ++ replicate k 0
  column =
      ap (map f) (sym (take-append-drop n rows))
      ∙ map-append f (take n rows) (drop n rows)
      ∙ ap (λ (l : List BuyerRow). map f (take n rows) ++ map f l) beyond
      ∙ ap (λ (l : List ℕ). map f (take n rows) ++ l) (map_replicate f k no_row ∙ ap (replicate k) none)

  pub column_sum : sum (map f rows) ≡ sum (map f (take n rows))
  column_sum = ap sum column ∙ sum_by-append (λ (x : ℕ). x) (map f (take n rows)) (replicate k 0) ∙ omega (arith, sum_by-replicate (λ (x : ℕ). x) k 0)

-- no lots and no payment are near
pub nearby_more : (r due : ℕ) → 0 < due → (ls ps : List ℕ) (k : ℕ) → Nearby r due ls ps → Nearby r due (ls ++ replicate k 0) (ps ++ replicate k 0)
nearby_more r due pos [] [] zero h = tt
nearby_more r due pos [] [] (suc k) h = (record { above = omega arith; beneath = omega arith }, nearby_more r due pos [] [] k tt)
nearby_more r due pos [] (p ∷ ps) k h = absurd h
nearby_more r due pos (l ∷ ls) [] k h = absurd h
nearby_more r due pos (l ∷ ls) (p ∷ ps) k h = (h.0, nearby_more r due pos ls ps k h.1)

pub map_zero : {X : Type 0} (xs : List X) → map {B = ℕ} (λ _. 0) xs ≡ replicate (length xs) 0
map_zero [] = refl
map_zero (x ∷ xs) = ap (λ (l : List ℕ). 0 ∷ l) (map_zero xs)
