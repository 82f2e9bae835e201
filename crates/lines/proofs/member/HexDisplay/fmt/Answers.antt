use Rattle.std.proofs.Common.{subst, rules}
use Rattle.std.specs.Fmt.{DisplaysOnOk}
use Rattle.lines.proofs.Shown.{hex_shown}
use Rattle.lines.proofs.member.HexDisplay.fmt.Goals as goal

pub returns-clause-writes : goal.returns-clause-writes
returns-clause-writes g c =
    subst (λ o. DisplaysOnOk g.W.Write.write_str_gives c.args.f.now c.write.result o c.write.new.self)
    (hex_shown c.args.self.now.0 c.in_radix.result c.laid_out.result (search rules) c.in_radix.ensures c.laid_out.ensures)
    c.write.ensures.writes
