-- The row in which each number is its own rank is a draw's.
use Rattle.std.proofs.Common.{◌≡◌, true, arith}
use Rattle.std.specs.List.{range_with_len}
use Rattle.std.proofs.lemmas.List.FromFn.{get_or-range_with_len}
use Rattle.sharing.specs.Distinct.{distinct}
use Rattle.sharing.specs.Draws.{Narrow}
use Rattle.sharing.proofs.Rows.{apart_distinct}

pub identity_distinct : distinct (range_with_len 0 512) ≡ true
identity_distinct =
    apart_distinct (range_with_len 0 512) (λ j hj i lt same. omega (arith, get_or-range_with_len 0 512 i 0 (omega arith), get_or-range_with_len 0 512 j 0 hj))

pub identity_narrow : Narrow (range_with_len 0 512)
identity_narrow i h = omega (arith, get_or-range_with_len 0 512 i 0 h)
