use Rattle.std.proofs.Common.{◌+◌, take, drop, refl, ap, arith}
use Rattle.std.proofs.lemmas.Result.{err_from_is_err_and}
use Rattle.frames.proofs.Standing.{faulty, standing}
use Rattle.frames.proofs.reader.Reader.next.Goals as goal

pub returns-in_err-length : goal.returns-in_err-length
returns-in_err-length c =
    let p = err_from_is_err_and c.from_residual.result c.from_residual.ensures.1 in
    record {
      next = rw (p.1, p.2) (faulty c.args.layouts.now c.args.self.now.file.now c.args.self.now.at _ c.if-place-file.false c.in_err-length.ensures);
      file = refl;
      unchanged = rw p.1 refl;
    }

pub returns : goal.returns
returns c =
    let file = c.args.self.now.file.now in
    let at = c.args.self.now.at in
    record {
      next = standing c.args.layouts.now file at c.in_ok-length.length _ c.if-place-file.false c.in_ok-length.ensures refl refl (ap (λ k. take k (drop (at + 3) file)) (omega arith));
      file = refl;
      unchanged = tt;
    }
