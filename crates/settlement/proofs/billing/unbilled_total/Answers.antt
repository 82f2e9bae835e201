use Rattle.std.proofs.Common.{rules, ◌≡◌, ap, ◌∙◌, subst}
use Rattle.std.specs.List.{fold}
use Rattle.std.proofs.iter.runs.Made.{chains}
use Rattle.book.specs.Offers.{capped}
use Rattle.book.proofs.Totals.{more, capped_total}
use Rattle.settlement.specs.Bills.{owed, SlipsTotal}
use Rattle.settlement.proofs.Tenders.{financing_total, general_none}
use Rattle.settlement.proofs.Totals.{all_billed}
use Rattle.settlement.proofs.billing.unbilled_total.Goals as goal

pub returns : goal.returns
returns c =
    let rows = c.args.rows.now in
    let counted : c.fold.result ≡ fold (more owed) 0 rows = search (rules, chains) in
    let total = counted ∙ capped_total owed rows in
    record {
      total = total;
      slips = all_billed rows;
      financing = λ receipts of.
          let all = financing_total receipts rows of in
          (total ∙ ap capped all, subst (SlipsTotal rows) all (all_billed rows));
      general = λ receipts of. total ∙ ap capped (general_none receipts rows of);
    }
