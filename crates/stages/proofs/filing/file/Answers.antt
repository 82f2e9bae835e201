use Rattle.std.proofs.Common.{sym, arith}
use Rattle.stages.proofs.Demands.{demand_fits}
use Rattle.stages.proofs.Ranges.{in_ranges, buyers_few}
use Rattle.stages.proofs.filing.file.Goals as goal

pub invariant_of-particulars : goal.invariant_of-particulars
invariant_of-particulars c =
    let bs = c.args.buyers.now in
    let terms = in_ranges c.args.terms.now (sym c.if-not-ranges_fit.ensures) in
    let few = buyers_few c.in_ok-choices.choices.kind bs (sym c.if-not-buyers_fit.ensures) in
    let demand = demand_fits bs (sym c.if-not-lots_fit.ensures) few.0 in
    record {
      units = terms.units;
      closes = terms.closes;
      banks = terms.banks;
      counts = few;
      demands = (omega (arith, c.total.ensures), omega (arith, c.total.ensures));
    }
