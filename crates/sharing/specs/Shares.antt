-- Shares in proportion to the claims. With `a` to share among claims of `k` lots together, each claim has its part of the
-- division a × lots ÷ k with the fraction dropped, and the lots left over go one each to the claims that come ahead.
use Rattle.std.specs.Prelude.{ℕ, ◌+◌, ◌-◌, ◌*◌, ◌/◌, ◌%◌, min, Bool, cond, ◌&&◌, ◌||◌, List, map, sum_by, count_by, ◌==◌, nat_lt}
use Rattle.sharing.specs.declared.claim.Claim.{Claim}
use Rattle.sharing.specs.declared.leftover.Leftover.{Leftover}
use Rattle.sharing.specs.declared.leftover.Leftover.TheVariants.{ByRank, ByRemainder}
use Rattle.sharing.specs.Claims.{claimed}

-- a claim's part, its fraction dropped
abbrev pub part : ℕ → ℕ → Claim → ℕ
part a k c = a * c.lots / k

-- the remainder of that division
abbrev pub remainder : ℕ → ℕ → Claim → ℕ
remainder a k c = a * c.lots % k

-- d comes ahead of c by its smaller rank
abbrev pub smaller_rank : (ℕ → ℕ) → Claim → Claim → Bool
smaller_rank rank d c = nat_lt (rank d.number) (rank c.number)

-- d comes ahead of c by its larger remainder, or by an equal one and its smaller rank
abbrev pub larger_remainder : (ℕ → ℕ) → ℕ → ℕ → Claim → Claim → Bool
larger_remainder rank a k d c =
    nat_lt (remainder a k c) (remainder a k d) || (remainder a k c == remainder a k d && smaller_rank rank d c)

-- d comes ahead of c for a leftover lot
abbrev pub ahead : Leftover → (ℕ → ℕ) → ℕ → ℕ → Claim → Claim → Bool
ahead ByRank rank a k = smaller_rank rank
ahead ByRemainder rank a k = larger_remainder rank a k

-- the lots left over once each claim has its part
abbrev pub left_over : ℕ → List Claim → ℕ
left_over a cs = a - sum_by (part a (claimed cs)) cs

-- how many of the claims come ahead of c
abbrev pub ahead_of : (Claim → Claim → Bool) → List Claim → Claim → ℕ
ahead_of first cs c = count_by (λ d. first d c) cs

-- a claim's part, and one lot more where fewer claims come ahead of it than lots are left over
abbrev pub share_of : (Claim → Claim → Bool) → List Claim → ℕ → Claim → ℕ
share_of first cs a c = part a (claimed cs) c + cond (nat_lt (ahead_of first cs c) (left_over a cs)) 1 0

-- what can be shared out: the lesser of the amount and all claims
abbrev pub shareable : List Claim → ℕ → ℕ
shareable cs amount = min amount (claimed cs)

-- the share of each claim
abbrev pub divided : Leftover → (ℕ → ℕ) → List Claim → ℕ → List ℕ
divided by rank cs amount =
    let a = shareable cs amount in
    map (share_of (ahead by rank a (claimed cs)) cs a) cs

-- Proportional: leftover lots go to the claims of the smallest ranks.
abbrev pub proportional : (ℕ → ℕ) → List Claim → ℕ → List ℕ
proportional = divided ByRank

-- Largest remainder: leftover lots go by larger remainder, equal remainders by smaller rank.
abbrev pub largest_remainder : (ℕ → ℕ) → List Claim → ℕ → List ℕ
largest_remainder = divided ByRemainder
