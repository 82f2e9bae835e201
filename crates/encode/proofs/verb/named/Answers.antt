use Rattle.std.proofs.Common.{◌≡◌, codes, refl, arith, rules}
use Rattle.std.proofs.lemmas.Slice.Eq.{text_from_reads}
use Rattle.encode.proofs.verb.named.Goals as goal

pub returns-in-change : goal.returns-in-change
returns-in-change c =
    let same : c.args.word.now ≡ codes "change" = text_from_reads c.args.word.now (codes "change") (omega arith) (search rules, (search rules, (search rules, (search rules, (search rules, (search rules, tt)))))) in
    rw same refl

pub returns-in-cancel : goal.returns-in-cancel
returns-in-cancel c =
    let same : c.args.word.now ≡ codes "cancel" = text_from_reads c.args.word.now (codes "cancel") (omega arith) (search rules, (search rules, (search rules, (search rules, (search rules, (search rules, tt)))))) in
    rw same refl
