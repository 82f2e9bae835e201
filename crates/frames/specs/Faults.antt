-- The faults of a file as frames: the number and the place of each.
use Rattle.std.specs.Prelude.{ℕ}
use Rattle.frames.specs.declared.fault.FrameFault.{FrameFault}
use Rattle.frames.specs.declared.fault.FrameFault.TheVariants.{CutShort, TooLong, UnknownTag, WrongLength}

-- the number of each fault
abbrev pub number_of : FrameFault → ℕ
number_of (CutShort place) = 20
number_of TooLong = 20
number_of (UnknownTag place) = 21
number_of (WrongLength place) = 22

-- where each fault is: the frame's first byte, or the first byte that is too many
abbrev pub place_of : FrameFault → ℕ
place_of (CutShort place) = place
place_of TooLong = 65536
place_of (UnknownTag place) = place
place_of (WrongLength place) = place
