-- Shares in time order.
use Rattle.std.specs.Prelude.{ℕ, ◌-◌, min, List, [], ◌∷◌}
use Rattle.sharing.specs.declared.claim.Claim.{Claim}

-- in listed order each claim gets the lesser of its lots and what is left
abbrev pub in_turn : List Claim → ℕ → List ℕ
in_turn [] left = []
in_turn (c ∷ cs) left = min c.lots left ∷ in_turn cs (left - c.lots)
