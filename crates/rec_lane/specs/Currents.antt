-- The version that a lane met last, as data.
use Rattle.std.specs.Prelude.{Option}
use Rattle.std.specs.Option.{option_map}
use Rattle.std.specs.Arc.{arc_value}
use Rattle.rec_lane.specs.declared.version.Current.{Current}
use Rattle.rec_lane.specs.Lanes.{VersionProgram}

abbrev pub current_data : Current → VersionProgram
current_data current =
    record { version = current.version; program = arc_value current.program }

abbrev pub current_of : Option Current → Option VersionProgram
current_of current = option_map current_data current
