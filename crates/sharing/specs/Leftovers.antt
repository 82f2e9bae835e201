-- Who gets the lots that are left over.
use Rattle.std.specs.Prelude.{◌≡◌, ℕ, suc, ◌<◌, ◌≤◌, min, Bool, true, false, cond, not, ◌&&◌, ◌||◌, ltb, List, [], ◌∷◌, map, length, get_or, take, count_by, ◌==◌, ◌≢◌, nat_eq, nat_le, nat_lt, slice_index_or, refl}
use Rattle.std.proofs.Common.{sym, ap, ◌∙◌, arith}
use Rattle.ordered.specs.Arranged.{arranged, Untied}
use Rattle.ordered.specs.Ranks.{Total, Transitive}
use Rattle.ordered.proofs.Places.{first_served, served_count}
use Rattle.std.specs.List.{AllByRecursion}
use Rattle.std.proofs.lemmas.Bool.{and_parts, or_parts, eqb-false, not-true}
use Rattle.std.proofs.lemmas.Bool.Decides.{nat_tests}
use Rattle.sharing.specs.declared.candidate.Candidate.{Candidate}
use Rattle.sharing.specs.declared.claim.Claim.{Claim}
use Rattle.sharing.specs.declared.leftover.Leftover.{Leftover}
use Rattle.sharing.specs.declared.leftover.Leftover.TheVariants.{ByRank, ByRemainder}
use Rattle.sharing.specs.Candidates.{candidate, lined, may_precede}
use Rattle.sharing.specs.Claims.{all_within_limits, admissible, nobody}
use Rattle.sharing.specs.Distinct.{among, distinct}
use Rattle.sharing.specs.Draws.{Lawful}
use Rattle.sharing.specs.Shares.{remainder, ahead, ahead_of}
use Rattle.sharing.specs.Admitted.{admitted, first_limits}
use Rattle.sharing.specs.Lines.{length_lined, lined_count, once, only}

-- the order of candidates
total : Total may_precede
total x y f = grind (arith, nat_tests)

transitive : Transitive may_precede
transitive x y z p q = grind (arith, nat_tests)

tied : (x y : Candidate) → may_precede x y ≡ true → may_precede y x ≡ true → x.rank ≡ y.rank
tied x y p q = grind (arith, nat_tests)

-- who may not stand behind comes ahead
by_rank : (r s : ℕ) → not (nat_le r s) ≡ nat_lt s r
by_rank r s = grind (arith, nat_tests)

by_remainder : (a b r s : ℕ) → not (nat_lt b a || (a == b && nat_le r s)) ≡ (nat_lt a b || (a == b && nat_lt s r))
by_remainder a b r s = grind (arith, nat_tests)

module _ (by : Leftover) (rank : ℕ → ℕ) (a k : ℕ) where
  abbrev made : ℕ → Claim → Candidate
  made = candidate by rank a k

  module _ (lawful : Lawful rank) where
    apart_from : (i : ℕ) (c : Claim) → c.number ≤ 511 → (j : ℕ) (cs : List Claim) → all_within_limits cs ≡ true → among c.number (map (λ d. d.number) cs) ≡ false → AllByRecursion (λ y. may_precede (made i c) y ≡ true → may_precede y (made i c) ≢ true) (lined made j cs)
    apart_from i c small j [] within none = tt
    apart_from i c small j (d ∷ ds) within none =
        let limits = first_limits d ds within in
        let other = or_parts (c.number == d.number) (among c.number (map (λ (x : Claim). x.number) ds)) none in (
          λ p q. eqb-false c.number d.number other.0 (lawful.apart c.number d.number small limits.0.number (tied (made i c) (made j d) p q)),
          apart_from i c small (suc j) ds limits.1 other.1,
        )

    untied_from : (i : ℕ) (cs : List Claim) → all_within_limits cs ≡ true → distinct (map (λ c. c.number) cs) ≡ true → Untied may_precede (lined made i cs)
    untied_from i [] within differ = tt
    untied_from i (c ∷ cs) within differ =
        let limits = first_limits c cs within in
        let parts = and_parts (not (among c.number (map (λ (x : Claim). x.number) cs))) (distinct (map (λ (x : Claim). x.number) cs)) differ in
        (apart_from i c limits.0.number (suc i) cs limits.1 (not-true _ parts.0), untied_from (suc i) cs limits.1 parts.1)

-- a candidate that may not stand before another has that one's claim ahead of its own
opposite : (by : Leftover) (rank : ℕ → ℕ) (a k i j : ℕ) (c d : Claim) → not (may_precede (candidate by rank a k i c) (candidate by rank a k j d)) ≡ ahead by rank a k d c
opposite ByRank rank a k i j c d = by_rank (rank c.number) (rank d.number)
opposite ByRemainder rank a k i j c d = by_remainder (remainder a k c) (remainder a k d) (rank c.number) (rank d.number)

module _ (by : Leftover) (rank : ℕ → ℕ) (a k : ℕ) (lawful : Lawful rank) (cs : List Claim) (ok : admissible cs ≡ true) where
  abbrev line : List Candidate
  line = lined (candidate by rank a k) 0 cs

  -- y comes ahead of x
  abbrev leads : Candidate → Candidate → Bool
  leads y x = not (may_precede x y)

  untied : Untied may_precede line
  untied = untied_from by rank a k lawful 0 cs (admitted cs ok).each (admitted cs ok).apart

  leaders : (i : ℕ) (c : Claim) → count_by (λ y. leads y (candidate by rank a k i c)) line ≡ ahead_of (ahead by rank a k) cs c
  leaders i c =
      lined_count (candidate by rank a k) (λ y. leads y (candidate by rank a k i c)) (λ d. ahead by rank a k d c)
      (λ j d. opposite by rank a k i j c d) 0 cs

  -- the claim at i is among the first m of the queue exactly if fewer than m claims come ahead of it
  pub served :
      (i m : ℕ) →
      i < length cs →
      count_by (λ x. nat_eq x.place i) (take m (arranged may_precede line)) ≡ cond (nat_lt (ahead_of (ahead by rank a k) cs (slice_index_or cs i nobody)) m) 1 0
  served i m lt =
      let f = candidate by rank a k in
      let c = get_or cs i nobody in
      first_served may_precede total transitive leads (λ x y. refl) (λ (x : Candidate). x.place) line untied (f i c)
      (once f (λ (x : Candidate). x.place) (λ j d. refl) i cs lt)
      (only f (λ (x : Candidate). x.place) (λ j d. refl) i cs nobody lt)
      m
      ∙ ap (λ (n : ℕ). cond (nat_lt n m) 1 0) (leaders i c)

  -- m claims, or all where there are fewer, have fewer than m ahead
  pub served_total : (m : ℕ) → count_by (λ c. ltb (ahead_of (ahead by rank a k) cs c) m) cs ≡ min m (length cs)
  served_total m =
      sym (lined_count (candidate by rank a k) (λ x. ltb (count_by (λ y. leads y x) line) m) (λ c. ltb (ahead_of (ahead by rank a k) cs c) m)
      (λ j c. ap (λ (n : ℕ). ltb n m) (leaders j c)) 0 cs)
      ∙ served_count may_precede total transitive leads (λ x y. refl) line untied m
      ∙ ap (min m) (length_lined (candidate by rank a k) 0 cs)
