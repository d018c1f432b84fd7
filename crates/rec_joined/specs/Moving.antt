-- What the counters and the channel IDs of a recording become in a file of several.
use Rattle.std.specs.Prelude.{ℕ, ◌/◌, ◌^◌, List, Option, None, Some, ℤ, pos, ◌+ℤ◌, ◌-ℤ◌}
use lib.IntN.{negsuc}
use Rattle.std.specs.List.{find}
use Rattle.ch11_clock.specs.Clock.{clock_time}
use Rattle.ch11_channels.specs.declared.channels.FileChannel.{FileChannel}
use Rattle.ch11_channels.specs.GivenIds.{is_owned_by}
use Rattle.rec_joined.specs.declared.moves.Moves.{Moves}
use Rattle.rec_joined.specs.MovedRecords.{RecordMoving, records_given}

-- the counter of each counter, the ID of each channel ID, and what its records become; a counter
-- from 2^48 on is none, and so is the ID 0
pub record Moving : Type 0 where
  pub counters : ℕ → ℕ
  pub ids : ℕ → ℕ
  pub records : ℕ → RecordMoving

-- ---- counters

-- how many ticks of 100 ns so many nanoseconds have; none before the beginning
abbrev pub whole_ticks : ℤ → ℕ
whole_ticks (pos nanos) = nanos / 100
whole_ticks (negsuc nanos) = 2 ^ 48

-- the counter, by a clock that begins there, that is the nearest to a time, and of two the later
abbrev pub counter_in : (start time : ℤ) → ℕ
counter_in start time = whole_ticks ((time -ℤ start) +ℤ pos 50)

-- ---- channels

-- the ID of the channel in the file that is found, if one is
abbrev pub found_id : Option FileChannel → ℕ
found_id None = 0
found_id (Some channel) = channel.id

-- the ID in the file of a channel of a run
abbrev pub id_given : List FileChannel → (run channel : ℕ) → ℕ
id_given channels run channel =
    found_id (find (is_owned_by (record { run = run; channel = channel })) channels)

-- ---- all

abbrev pub moving_of : Moves → Moving
moving_of moves = record {
  counters = λ counter. counter_in moves.start.nanos (clock_time moves.clock counter);
  ids = id_given moves.channels.items moves.run;
  records = records_given moves.records.items;
}
