-- What a draw says to a caller that has the program of the last version of its front.
use Rattle.std.specs.Prelude.{ℕ, ◌≡◌, ◌-◌, ◌≤◌, ◌<◌, List, Some, slice_get}
use Rattle.std.specs.Arc.{arc_value}
use Rattle.rec_channel.specs.declared.drawn.Drawn.{Drawn}
use Rattle.rec_channel.specs.declared.drawn.DrawnSince.{DrawnSince}
use Rattle.rec_channel.specs.declared.drawn.DrawnSince.TheVariants.{NoVersion, LaterVersion}
use Rattle.rec_channel.specs.declared.front.Front.{Front}
use Rattle.rec_channel.specs.History.{Version}
use Rattle.rec_channel.specs.Slots.{programs_in}

-- the number of the frame that was drawn
abbrev pub drawn_number : DrawnSince → ℕ
drawn_number (NoVersion number) = number
drawn_number (LaterVersion drawn) = drawn.number

-- the version in force at it, for a caller with this front: the last one of the front, if none came
-- since
abbrev pub version_since : Front → DrawnSince → ℕ
version_since known (NoVersion number) = known.versions - 1
version_since known (LaterVersion drawn) = drawn.version

-- a caller that is told of no version knows of one; one that it is told of is later than those that
-- it knows of
abbrev pub IsLater : Front → DrawnSince → Type 0
IsLater known (NoVersion number) = 0 < known.versions
IsLater known (LaterVersion drawn) = known.versions ≤ drawn.version

-- a version that it is told of comes with its program in the history
abbrev pub HasProgram : List Version → DrawnSince → Type 0
HasProgram history (NoVersion number) = Unit {0}
HasProgram history (LaterVersion drawn) =
    slice_get (programs_in history) drawn.version ≡ Some (arc_value drawn.program)
