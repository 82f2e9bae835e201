use Rattle.std.proofs.Common.{◌≡◌, ◌++◌, string_bytes}
use Rattle.std.specs.Iterator.Adapters.{zip_first, zip_second}
use Rattle.std.specs.Slice.Iter.{iter_rest}
use Rattle.share.specs.Report.{claim_lines}
use Rattle.share.proofs.report.push_claims.Given as goal

abbrev pub invariant-loop-claim : goal.invariant-loop-claim
invariant-loop-claim l =
    string_bytes l.text ++ claim_lines (iter_rest (zip_first l.claim-iterator)) (iter_rest (zip_second l.claim-iterator))
    ≡ string_bytes l.initial.text ++ claim_lines l.claims l.shares
