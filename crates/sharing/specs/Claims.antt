-- Claims, when an amount may be shared among them, and what every sharing of it owes them.
use Rattle.std.specs.Prelude.{◌≡◌, ℕ, ◌<◌, ◌≤◌, min, Bool, cond, ◌&&◌, List, map, length, sum_by, sum, ◌==◌, nat_le, slice_index, slice_index_or}
use Rattle.std.specs.List.{list_all}
use Rattle.sharing.specs.declared.claim.Claim.{Claim}
use Rattle.sharing.specs.Distinct.{distinct}

-- what stands past the end of a list of claims
abbrev pub nobody : Claim
nobody = record { number = 0; lots = 0 }

-- a number of at most 511, and 1 to 1,000,000 lots
abbrev pub within_limits : Claim → Bool
within_limits c = nat_le c.number 511 && (nat_le 1 c.lots && nat_le c.lots 1000000)

abbrev pub all_within_limits : List Claim → Bool
all_within_limits cs = list_all within_limits cs

-- At most 512 claims, each within its limits, no number twice.
abbrev pub admissible : List Claim → Bool
admissible cs = nat_le (length cs) 512 && (all_within_limits cs && distinct (map (λ c. c.number) cs))

-- 0 where an amount can be shared among the claims, with room for so many shares, and 16 otherwise
abbrev pub share_code : List Claim → ℕ → ℕ
share_code cs room = cond (admissible cs && room == length cs) 0 16

-- the lots that are claimed together
abbrev pub claimed : List Claim → ℕ
claimed cs = sum_by (λ c. c.lots) cs

-- The law of a sharing rule: one share for each claim, none above it, and the shares total the lesser of the amount and
-- what is claimed.
pub record Fair (cs : List Claim) (amount : ℕ) (shares : List ℕ) : Type 0 where
  pub one_each : length shares ≡ length cs
  pub within : (i : ℕ) → i < length cs → slice_index shares i ≤ (slice_index_or cs i nobody).lots
  pub whole : sum shares ≡ min amount (claimed cs)
