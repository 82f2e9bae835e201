use Rattle.std.proofs.Common.{subst, arith, rules}
use Rattle.std.proofs.lemmas.Grind.{common_steps}
use Rattle.book.specs.Model.{model_of, space}
use Rattle.book.specs.Soundness.{Sound}
use Rattle.book.proofs.Keeping.{sound_changed}
use Rattle.book.proofs.book.Book.change.Goals as goal

pub returns-clause-kept : goal.returns-clause-kept
returns-clause-kept c =
    let n = space c.args.self.now in
    let m = model_of c.args.self.now in record {
      unchanged = tt;
      sound = λ s. subst Sound (grind (arith, common_steps)) (sound_changed c.args.tender.now n m c.args.change s);
      space = search rules;
      named = search rules;
    }
