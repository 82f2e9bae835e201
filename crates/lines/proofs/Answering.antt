-- The worked line.
use Rattle.std.proofs.Common.{refl}
use Rattle.std.specs.Fmt.{digits}
use Rattle.lines.specs.Log.{BookALine}

pub book_a_line : BookALine
unfolding digits
book_a_line standing = refl
