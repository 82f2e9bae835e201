-- What is said of a failure.
use Rattle.std.specs.Prelude.{ℕ, List, ◌++◌, codes, decimal}
use Rattle.encode.specs.declared.failure.Failure.{Failure}
use Rattle.encode.specs.declared.failure.Failure.TheVariants.{Line, TooLong, Memory, Io}

abbrev pub failure_words : Failure → List ℕ
failure_words (Line number) = codes "line " ++ (decimal number ++ codes ": no such frame")
failure_words TooLong = codes "the text has over 1048576 bytes"
failure_words Memory = codes "out of memory"
failure_words Io = codes "input or output failed"
