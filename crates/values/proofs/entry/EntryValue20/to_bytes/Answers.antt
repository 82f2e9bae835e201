use Rattle.std.proofs.Common.{ℕ, List, ◌++◌, ap, rules}
use Rattle.values.specs.Fields.{four_bytes}
use Rattle.values.specs.Spelling.{code_spelt}
use Rattle.values.proofs.entry.EntryValue20.to_bytes.Goals as goal

pub returns-clause-bytes : goal.returns-clause-bytes
returns-clause-bytes c =
    let e = c.args.self.now in
    rw (c.to_be_bytes-time.ensures, c.to_be_bytes-account.ensures, c.to_be_bytes-price.ensures, c.to_be_bytes-lots.ensures)
    (ap (λ (m : List ℕ). four_bytes e.time ++ (m ++ (four_bytes e.account ++ (four_bytes e.price ++ four_bytes e.lots)))) (code_spelt e.member (search rules)))
