use Rattle.std.proofs.Common.{◌≡◌, ℕ, List, ◌++◌, length, sym, ◌∙◌, subst, arith}
use lib.Utf8.{encode}
use Rattle.std.specs.Fmt.{HasWritten}
use Rattle.lines.proofs.Shown.{digits_shown, text_shown}
use Rattle.lines.proofs.member.MemberDisplay.fmt.Goals as goal

pub returns-then-is_text-clause-writes : goal.returns-then-is_text-clause-writes
returns-then-is_text-clause-writes g c plain ok =
    let m = c.args.self.now.0 in
    let four : length m ≡ 4 = omega arith in
    subst (λ (l : List ℕ). HasWritten g.W.Write.write_str_gives c.args.f.now l c.write.new.self)
    ((λ k. encode (c.from-a.ensures k) ++ (encode (c.from-b.ensures k) ++ (encode (c.from-c.ensures k) ++ encode (c.from-d.ensures k)))) ∙ text_shown m four (sym c.if-is_text.ensures))
    (c.write.ensures.writes plain ok)

pub returns-else-is_text-clause-writes : goal.returns-else-is_text-clause-writes
returns-else-is_text-clause-writes g c plain ok =
    let m = c.args.self.now.0 in
    let four : length m ≡ 4 = omega arith in
    subst (λ (l : List ℕ). HasWritten g.W.Write.write_str_gives c.args.f.now l c.write-else-is_text.new.self)
    (digits_shown m four (sym c.if-is_text.ensures))
    (c.write-else-is_text.ensures.writes plain ok)
