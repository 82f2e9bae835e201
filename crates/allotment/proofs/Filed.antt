-- Buyers as filed are claims that a rule can share among.
use Rattle.std.proofs.Common.{◌≡◌, ℕ, zero, suc, ◌+◌, ◌<◌, ◌≤◌, Bool, true, false, not, ◌&&◌, ◌||◌, eqb, leb, List, [], ◌∷◌, map, length, get_or, refl, ap, ◌∙◌, arith}
use Rattle.std.proofs.lemmas.List.Sums.{sum_by-cons}
use Rattle.std.proofs.lemmas.Bool.{and_from, and_parts, eqb-true, le-leb, ne_eqb}
use Rattle.stages.specs.declared.particulars.Particulars.{Particulars}
use Rattle.stages.specs.declared.terms.Buyer.{Buyer}
use Rattle.stages.specs.Buyers.{all_have_lots, as_filed, demanded}
use Rattle.stages.specs.Buyers as buyers
use Rattle.sharing.specs.declared.claim.Claim.{Claim}
use Rattle.sharing.specs.Claims.{admissible, all_within_limits, claimed, within_limits, nobody}
use Rattle.sharing.specs.Distinct.{among, distinct}
use Rattle.allotment.specs.Rows.{claims_from, claims_of}

-- what buyers as filed say in numbers
pub record Agreed (p : Particulars) (bs : List Buyer) : Type 0 where
  pub count : length bs ≡ p.buyers
  pub total : demanded bs ≡ p.demand
  pub lots : all_have_lots bs ≡ true

pub agreed : (p : Particulars) (bs : List Buyer) → as_filed p bs ≡ true → Agreed p bs
agreed p bs t =
    let one = and_parts (eqb (length bs) p.buyers) (eqb (demanded bs) p.demand && all_have_lots bs) t in
    let two = and_parts (eqb (demanded bs) p.demand) (all_have_lots bs) one.1 in
    record { count = eqb-true (length bs) p.buyers one.0; total = eqb-true (demanded bs) p.demand two.0; lots = two.1 }

pub length_claims : (k : ℕ) (bs : List Buyer) → length (claims_from k bs) ≡ length bs
length_claims k [] = refl
length_claims k (b ∷ bs) = ap suc (length_claims (suc k) bs)

pub claimed_is : (k : ℕ) (bs : List Buyer) → claimed (claims_from k bs) ≡ demanded bs
claimed_is k [] = refl
claimed_is k (b ∷ bs) =
    let claim : Claim = record { number = k; lots = b.lots } in
    omega (arith, sum_by-cons (λ (c : Claim). c.lots) claim (claims_from (suc k) bs), sum_by-cons (λ (x : Buyer). x.lots) b bs, claimed_is (suc k) bs)

pub lots_at : (k : ℕ) (bs : List Buyer) (i : ℕ) → (get_or (claims_from k bs) i nobody).lots ≡ (get_or bs i buyers.nobody).lots
lots_at k [] zero = refl
lots_at k [] (suc i) = refl
lots_at k (b ∷ bs) zero = refl
lots_at k (b ∷ bs) (suc i) = lots_at (suc k) bs i

abbrev numbers : ℕ → List Buyer → List ℕ
numbers k bs = map (λ (c : Claim). c.number) (claims_from k bs)

absent : (n k : ℕ) (bs : List Buyer) → n < k → among n (numbers k bs) ≡ false
absent n k [] lt = refl
absent n k (b ∷ bs) lt = ap (λ (t : Bool). t || among n (numbers (suc k) bs)) (ne_eqb n k (λ e. omega arith)) ∙ absent n (suc k) bs (omega arith)

apart : (k : ℕ) (bs : List Buyer) → distinct (numbers k bs) ≡ true
apart k [] = refl
apart k (b ∷ bs) = ap (λ (t : Bool). not t && distinct (numbers (suc k) bs)) (absent k (suc k) bs (omega arith)) ∙ apart (suc k) bs

within : (k : ℕ) (bs : List Buyer) → k + length bs ≤ 512 → demanded bs ≤ 1000000 → all_have_lots bs ≡ true → all_within_limits (claims_from k bs) ≡ true
within k [] few most some = refl
within k (b ∷ bs) few most some =
    let cons = sum_by-cons (λ (x : Buyer). x.lots) b bs in
    let parts = and_parts (leb 1 b.lots) (all_have_lots bs) some in
    let claim : Claim = record { number = k; lots = b.lots } in
    and_from (within_limits claim) (all_within_limits (claims_from (suc k) bs))
    (and_from (leb k 511) (leb 1 b.lots && leb b.lots 1000000) (le-leb k 511 (omega arith))
    (and_from (leb 1 b.lots) (leb b.lots 1000000) parts.0 (le-leb b.lots 1000000 (omega arith))))
    (within (suc k) bs (omega arith) (omega arith) parts.1)

pub filed_admissible : (p : Particulars) (bs : List Buyer) → Agreed p bs → admissible (claims_of bs) ≡ true
filed_admissible p bs ok =
    let most = p.demands in
    let count = p.counts in
    let long = length_claims 0 bs in
    and_from (leb (length (claims_of bs)) 512) (all_within_limits (claims_of bs) && distinct (numbers 0 bs)) (le-leb (length (claims_of bs)) 512 (omega (arith, ok.count)))
    (and_from (all_within_limits (claims_of bs)) (distinct (numbers 0 bs)) (within 0 bs (omega (arith, ok.count)) (omega (arith, ok.total)) ok.lots) (apart 0 bs))
