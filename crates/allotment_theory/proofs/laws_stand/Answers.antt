use Rattle.allotment_theory.proofs.Arriving.{in_priority}
use Rattle.allotment_theory.proofs.Choice as choice
use Rattle.allotment_theory.proofs.Pass.{pass_finds, pass_ends}
use Rattle.allotment_theory.proofs.Pinned.{one_price, one_fill}
use Rattle.allotment_theory.proofs.Scatter as scatters
use Rattle.allotment_theory.proofs.Telescope.{payments_total, payments_near}
use Rattle.allotment_theory.proofs.Ties.{ties_admissible}
use Rattle.allotment_theory.proofs.Total.{fills_total, fills_cut}
use Rattle.allotment_theory.proofs.Whole as whole
use Rattle.allotment_theory.proofs.Worth.{receipts_worth, receipts_fit}
use Rattle.allotment_theory.proofs.laws_stand.Goals as goal

pub returns : goal.returns
returns c = record {
  finds = pass_finds;
  ends = pass_ends;
  ties = ties_admissible;
  total = fills_total;
  cut = fills_cut;
  cheapest = choice.cheapest;
  paid = payments_total;
  near = payments_near;
  scatter = scatters.scatter_total;
  bounded = whole.worth_bounded;
  gathers = scatters.gathers;
  rows = whole.fills_row;
  worth = receipts_worth;
  fit = receipts_fit;
  allots = whole.allots;
  price = one_price;
  fill = one_fill;
  priority = in_priority;
}
