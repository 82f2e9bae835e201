use Rattle.std.proofs.Common.{subst, rules}
use Rattle.book.specs.Model.{model_of, space}
use Rattle.book.specs.Soundness.{Sound}
use Rattle.book.proofs.Keeping.{sound_entered}
use Rattle.book.proofs.book.Book.enter.Goals as goal

pub returns-clause-kept : goal.returns-clause-kept
returns-clause-kept c =
    let n = space c.args.self.now in
    let m = model_of c.args.self.now in record {
      unchanged = tt;
      sound = λ s. subst Sound (search rules) (sound_entered c.args.tender.now n m c.args.entry c.args.buyers.now s);
      space = search rules;
      named = search rules;
    }
