-- The cases that terms choose among: kind, method and shortfall.
use Rattle.std.specs.Prelude.{ℕ, Bool, true, false, cond, ◌&&◌, Some, None, Option, ◌==◌, nat_le, nat_lt}
use Rattle.stages.specs.declared.kind.Kind.{Kind}
use Rattle.stages.specs.declared.kind.Kind.TheVariants.{General, Financing}
use Rattle.stages.specs.declared.kind.KindRow.{KindRow}
use Rattle.stages.specs.declared.method.Method.{Method}
use Rattle.stages.specs.declared.method.Method.TheVariants.{OnePrice, AsOffered}
use Rattle.stages.specs.declared.shortfall.Shortfall.{Shortfall}
use Rattle.stages.specs.declared.shortfall.Shortfall.TheVariants.{Take, Void}

-- What is fixed for a kind: its letter (G or F), the first and the last second of its window, the least and the most that a
-- base price may be in hundredths of the previous close, and how many buyers it may have.
abbrev pub row_of : Kind → KindRow
row_of General = record { letter = 71; opens = 54000; ends = 57599; least = 85; most = 115; buyers = 1 }
row_of Financing = record { letter = 70; opens = 52200; ends = 53999; least = 107; most = 115; buyers = 8 }

-- the kind with a letter
abbrev pub kind_at : ℕ → Option Kind
kind_at n = cond (n == (row_of General).letter) (Some General) (cond (n == (row_of Financing).letter) (Some Financing) None)

-- the number of a method: 1 for one price, 2 for as offered
abbrev pub method_number : Method → ℕ
method_number OnePrice = 1
method_number AsOffered = 2

-- the method with a number
abbrev pub method_at : ℕ → Option Method
method_at n = cond (n == method_number OnePrice) (Some OnePrice) (cond (n == method_number AsOffered) (Some AsOffered) None)

-- the letter of a shortfall: T for take, V for void
abbrev pub shortfall_letter : Shortfall → ℕ
shortfall_letter Take = 84
shortfall_letter Void = 86

-- the shortfall with a letter
abbrev pub shortfall_at : ℕ → Option Shortfall
shortfall_at n = cond (n == shortfall_letter Take) (Some Take) (cond (n == shortfall_letter Void) (Some Void) None)

-- A general tender may have any method and shortfall. A financing tender pays as offered and takes what there is.
abbrev pub allows : Kind → Method → Shortfall → Bool
allows General m s = true
allows Financing OnePrice s = false
allows Financing AsOffered Take = true
allows Financing AsOffered Void = false

-- the time is in the window, ends included
abbrev pub open_at : Kind → ℕ → Bool
open_at k time = nat_le (row_of k).opens time && nat_le time (row_of k).ends

-- the time is after the window, and at most the last second of the day
abbrev pub over_at : Kind → ℕ → Bool
over_at k time = nat_lt (row_of k).ends time && nat_le time 86399
