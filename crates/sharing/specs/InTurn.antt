-- Shares in listed order are fair.
use Rattle.std.specs.Prelude.{◌≡◌, ℕ, zero, suc, ◌-◌, ◌<◌, ◌≤◌, min, List, [], ◌∷◌, length, sum, slice_index, slice_index_or, refl}
use Rattle.std.proofs.Common.{ap, le_of_suc-le-suc, not-suc-le-zero, arith}
use Rattle.std.proofs.lemmas.List.Sums.{sum_by-cons}
use Rattle.sharing.specs.declared.claim.Claim.{Claim}
use Rattle.sharing.specs.Claims.{Fair, claimed, nobody}
use Rattle.sharing.specs.TimeOrder.{in_turn}

long : (cs : List Claim) (left : ℕ) → length (in_turn cs left) ≡ length cs
long [] left = refl
long (c ∷ cs) left = ap suc (long cs (left - c.lots))

within : (cs : List Claim) (left i : ℕ) → i < length cs → slice_index (in_turn cs left) i ≤ (slice_index_or cs i nobody).lots
within [] left i h = absurd (not-suc-le-zero h)
within (c ∷ cs) left zero h = omega arith
within (c ∷ cs) left (suc i) h = within cs (left - c.lots) i (le_of_suc-le-suc h)

whole : (cs : List Claim) (left : ℕ) → sum (in_turn cs left) ≡ min left (claimed cs)
whole [] left = omega arith
whole (c ∷ cs) left =
    let rest = whole cs (left - c.lots) in
    let here = sum_by-cons (λ x. x) (min c.lots left) (in_turn cs (left - c.lots)) in
    let all = sum_by-cons (λ (x : Claim). x.lots) c cs in
    omega arith

pub in_turn_fair : (cs : List Claim) (amount : ℕ) → Fair cs amount (in_turn cs amount)
in_turn_fair cs amount = record { one_each = long cs amount; within = within cs amount; whole = whole cs amount }
