use Rattle.std.proofs.Common.{subst, rules}
use Rattle.book.specs.Model.{model_of, space}
use Rattle.book.specs.Soundness.{Sound}
use Rattle.book.proofs.Keeping.{sound_cancelled}
use Rattle.book.proofs.book.Book.cancel.Goals as goal

pub returns-clause-kept : goal.returns-clause-kept
returns-clause-kept c =
    let n = space c.args.self.now in
    let m = model_of c.args.self.now in record {
      unchanged = tt;
      sound = λ s. subst Sound (search rules) (sound_cancelled c.args.tender.now n m c.args.cancellation s);
      space = search rules;
      named = search rules;
    }
