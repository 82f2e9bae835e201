use Rattle.std.proofs.Common.{ℕ, List, ◌++◌, ap, rules}
use Rattle.values.specs.Fields.{two_bytes, four_bytes}
use Rattle.values.specs.Spelling.{code_spelt}
use Rattle.values.proofs.change.ChangeValue18.to_bytes.Goals as goal

pub returns-clause-bytes : goal.returns-clause-bytes
returns-clause-bytes c =
    let x = c.args.self.now in
    rw (c.to_be_bytes-time.ensures, c.to_be_bytes-number.ensures, c.to_be_bytes-price.ensures, c.to_be_bytes-lots.ensures)
    (ap (λ (m : List ℕ). four_bytes x.time ++ (m ++ (two_bytes x.number ++ (four_bytes x.price ++ four_bytes x.lots)))) (code_spelt x.member (search rules)))
