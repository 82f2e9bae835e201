-- What is known of claims that an amount may be shared among.
use Rattle.std.specs.Prelude.{◌≡◌, ℕ, zero, suc, ◌<◌, ◌≤◌, true, ◌&&◌, List, [], ◌∷◌, map, length, nat_le, slice_index_or}
use Rattle.std.proofs.Common.{le_of_suc-le-suc, not-suc-le-zero, arith}
use Rattle.std.proofs.ByRecursion.{All-from_get_or, sum_by_le}
use Rattle.std.proofs.lemmas.List.Sums.{get_or-le-sum_by}
use Rattle.std.proofs.lemmas.Bool.{and_parts, leb-true}
use Rattle.sharing.specs.declared.claim.Claim.{Claim}
use Rattle.sharing.specs.Claims.{within_limits, all_within_limits, admissible, claimed, nobody}
use Rattle.sharing.specs.Distinct.{distinct}
use Rattle.sharing.specs.Totals.{capped}

-- a claim within its limits
pub record Limits (c : Claim) : Type 0 where
  pub number : c.number ≤ 511
  pub some : 1 ≤ c.lots
  pub most : c.lots ≤ 1000000

pub limits : (c : Claim) → within_limits c ≡ true → Limits c
limits c t =
    let all = and_parts (nat_le c.number 511) (nat_le 1 c.lots && nat_le c.lots 1000000) t in
    let lots = and_parts (nat_le 1 c.lots) (nat_le c.lots 1000000) all.1 in
    record { number = leb-true c.number 511 all.0; some = leb-true 1 c.lots lots.0; most = leb-true c.lots 1000000 lots.1 }

pub first_limits : (c : Claim) (cs : List Claim) → all_within_limits (c ∷ cs) ≡ true → Limits c × (all_within_limits cs ≡ true)
first_limits c cs t = let both = and_parts (within_limits c) (all_within_limits cs) t in (limits c both.0, both.1)

pub limits_at : (cs : List Claim) → all_within_limits cs ≡ true → (i : ℕ) → i < length cs → Limits (slice_index_or cs i nobody)
limits_at [] t i h = absurd (not-suc-le-zero h)
limits_at (c ∷ cs) t zero h = (first_limits c cs t).0
limits_at (c ∷ cs) t (suc i) h = limits_at cs (first_limits c cs t).1 i (le_of_suc-le-suc h)

-- the three parts of what makes claims admissible
pub record Admitted (cs : List Claim) : Type 0 where
  pub few : length cs ≤ 512
  pub each : all_within_limits cs ≡ true
  pub apart : distinct (map (λ c. c.number) cs) ≡ true

pub admitted : (cs : List Claim) → admissible cs ≡ true → Admitted cs
admitted cs t =
    let numbers = distinct (map (λ (c : Claim). c.number) cs) in
    let all = and_parts (nat_le (length cs) 512) (all_within_limits cs && numbers) t in
    let both = and_parts (all_within_limits cs) numbers all.1 in
    record { few = leb-true (length cs) 512 all.0; each = both.0; apart = both.1 }

-- where there is a claim, something is claimed
pub claimed_pos : (cs : List Claim) → admissible cs ≡ true → (i : ℕ) → i < length cs → 0 < claimed cs
claimed_pos cs ok i h = omega (arith, (limits_at cs (admitted cs ok).each i h).some, get_or-le-sum_by (λ (x : Claim). x.lots) cs i nobody h)

-- no more than 512 claims of a million lots each
pub claimed_most : (cs : List Claim) → admissible cs ≡ true → claimed cs ≤ 512000000
claimed_most cs ok =
    let each = All-from_get_or (λ (x : Claim). x.lots ≤ 1000000) cs nobody (λ i h. (limits_at cs (admitted cs ok).each i h).most) in
    omega (arith, (admitted cs ok).few, sum_by_le (λ (x : Claim). x.lots) 1000000 cs each)

-- what is claimed fits 64 bits
pub claimed_exact : (cs : List Claim) → admissible cs ≡ true → capped (claimed cs) ≡ claimed cs
claimed_exact cs ok = omega (arith, claimed_most cs ok)
