-- The lots that buyers ask for.
use Rattle.std.proofs.Common.{◌≡◌, ◌≤◌, true, ◌&&◌, leb, List, [], ◌∷◌, length, arith}
use Rattle.std.proofs.lemmas.List.Sums.{sum_by-cons}
use Rattle.std.proofs.lemmas.Bool.{leb-true, and_parts}
use Rattle.stages.specs.declared.terms.Buyer.{Buyer}
use Rattle.stages.specs.Buyers.{all_within, demanded, lots_fit}

-- buyers whose lots fit ask for a lot or more, and for at most 1,000,000
pub demand_fits : (bs : List Buyer) → lots_fit bs ≡ true → 1 ≤ length bs → (1 ≤ demanded bs) × (demanded bs ≤ 1000000)
demand_fits [] fit some = absurd (omega arith)
demand_fits (b ∷ bs) fit some =
    let cons = sum_by-cons (λ (x : Buyer). x.lots) b bs in
    let both = and_parts (all_within (b ∷ bs)) _ fit in
    let first = (and_parts (leb 1 b.lots && leb b.lots 1000000) (all_within bs) both.0).0 in
    let least = leb-true 1 b.lots (and_parts (leb 1 b.lots) _ first).0 in
    (omega arith, leb-true _ _ both.1)
