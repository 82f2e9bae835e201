-- What was read from a list.
use Rattle.std.proofs.Common.{◌≡◌, ℕ, zero, suc, ◌<◌, ◌≤◌, List, [], ◌∷◌, length, get_or, Some, None, suc-le-suc, arith}
use Rattle.std.specs.List.{slice_get}

module _ {X : Type 0} where
  -- what stands at a place of a list, as it was read
  pub nth_some : (xs : List X) (i : ℕ) (x : X) → slice_get xs i ≡ Some x → (i < length xs) × (get_or xs i x ≡ x)
  nth_some [] i x e = let z : ◌≡◌ {A = ℕ} 0 1 = cc in absurd (omega arith)
  nth_some (y ∷ ys) zero x e = (omega arith, cc)
  nth_some (y ∷ ys) (suc i) x e = let rest = nth_some ys i x e in (suc-le-suc rest.0, rest.1)

  pub nth_none : (xs : List X) (i : ℕ) → slice_get xs i ≡ None → length xs ≤ i
  nth_none [] i e = omega arith
  nth_none (y ∷ ys) zero e = let z : ◌≡◌ {A = ℕ} 0 1 = cc in absurd (omega arith)
  nth_none (y ∷ ys) (suc i) e = suc-le-suc (nth_none ys i e)
