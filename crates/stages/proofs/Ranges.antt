-- What terms and buyers that fit say in numbers.
use Rattle.std.proofs.Common.{◌≡◌, ◌≤◌, true, List, length, arith}
use Rattle.std.proofs.lemmas.Bool.Decides.{nat_tests}
use Rattle.stages.specs.declared.kind.Kind.{Kind}
use Rattle.stages.specs.declared.kind.Kind.TheVariants.{General, Financing}
use Rattle.stages.specs.declared.terms.Buyer.{Buyer}
use Rattle.stages.specs.declared.terms.Terms.{Terms}
use Rattle.stages.specs.Buyers.{buyers_fit}
use Rattle.stages.specs.Filing.{ranges_fit}
use Rattle.stages.specs.Kinds.{row_of}

pub record InRanges (t : Terms) : Type 0 where
  pub units : (1 ≤ t.unit) × (t.unit ≤ 1000)
  pub closes : (1 ≤ t.previous_close) × (t.previous_close ≤ 800000)
  pub banks : (55800 ≤ t.bank_closing) × (t.bank_closing ≤ 86399)

pub in_ranges : (t : Terms) → ranges_fit t ≡ true → InRanges t
in_ranges t fit = record {
  units = (grind (arith, nat_tests), grind (arith, nat_tests));
  closes = (grind (arith, nat_tests), grind (arith, nat_tests));
  banks = (grind (arith, nat_tests), grind (arith, nat_tests));
}

-- no kind has more than eight buyers
few : (k : Kind) → (row_of k).buyers ≤ 8
few General = omega arith
few Financing = omega arith

pub buyers_few : (k : Kind) (bs : List Buyer) → buyers_fit k bs ≡ true → (1 ≤ length bs) × (length bs ≤ 8)
buyers_few k bs fit =
    let most = few k in
    (grind (arith, nat_tests), grind (arith, nat_tests))
