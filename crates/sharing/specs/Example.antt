-- Worked examples of the rules.
use Rattle.std.specs.Prelude.{◌≡◌, ℕ, [], ◌∷◌}
use Rattle.sharing.specs.declared.claim.Claim.{Claim}
use Rattle.sharing.specs.Draws.{stridden}
use Rattle.sharing.specs.Shares.{proportional, largest_remainder}

abbrev claim : ℕ → ℕ → Claim
claim number lots = record { number = number; lots = lots }

-- Claims of 5, 3 and 2 lots with 7 to share get 4, 2 and 1 by largest remainder, whatever the draw and the claims' numbers.
abbrev pub RemainderExample : Type 0
RemainderExample =
    (rank : ℕ → ℕ) (i j k : ℕ) →
    largest_remainder rank (claim i 5 ∷ claim j 3 ∷ claim k 2 ∷ []) 7 ≡ 4 ∷ 2 ∷ 1 ∷ []

-- Claims of 4, 1 and 1 lots with 3 to share: the one odd lot goes to the smallest rank, also where that claim has no
-- fraction to make up.
abbrev pub ProportionalExample : Type 0
ProportionalExample =
    let claims = claim 1 4 ∷ claim 2 1 ∷ claim 3 1 ∷ [] in
    (proportional (stridden 3 510) claims 3 ≡ 3 ∷ 0 ∷ 0 ∷ []) × (proportional (stridden 509 0) claims 3 ≡ 2 ∷ 0 ∷ 1 ∷ [])
