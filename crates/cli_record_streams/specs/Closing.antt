-- What a source that closes what it reads from still gives, by the source below it.
use Rattle.std.specs.Prelude.{ℕ, ◌+◌, Option, None, Some, take, length, nat_lt, if◌then◌else◌}
use Rattle.std.specs.Option.{option_map}
use Rattle.std.specs.List.{filter}
use Rattle.eth_frame.specs.Source.{Left, TimeMark, no_frames}
use Rattle.eth_frame.specs.declared.source.SourceEnding.{SourceEnding}
use Rattle.eth_frame.specs.declared.source.SourceEnding.TheVariants.{End}
use Rattle.cli_record_streams.specs.declared.closing.Held.{Held}
use Rattle.cli_record_streams.specs.declared.closing.Held.TheVariants.{Open, Closed}

-- the first frames of what is left, `max` at most, and the time marks before the last of them;
-- after them its ending, where there were fewer, else an end
abbrev pub at_most : ℕ → Left → Left
at_most max left = record {
  frames = take max left.frames;
  times = filter (λ (mark : TimeMark). nat_lt mark.after max) left.times;
  ending = if nat_lt (length left.frames) max then left.ending else End;
}

-- the ending of a source that is closed: an end, where it isn't known
abbrev pub closed_as : Option SourceEnding → SourceEnding
closed_as None = End
closed_as (Some ending) = ending

module _ {S : Type 0} where
  -- what is left of it
  abbrev pub left_of : (S → Option Left) → Held S → Option Left
  left_of left (Open source further) = option_map (at_most (further + 1)) (left source)
  left_of left (Closed was ending) = Some (no_frames (closed_as ending))

  -- how often its device has failed: as often as that of the source below it
  abbrev pub failures_of : (S → ℕ) → Held S → ℕ
  failures_of failures (Open source further) = failures source
  failures_of failures (Closed was ending) = failures was.value

  -- how it has ended
  abbrev pub ending_of : Held S → Option SourceEnding
  ending_of (Open source further) = None
  ending_of (Closed was ending) = ending

  -- the source, where it is open
  abbrev pub source_of : Held S → Option S
  source_of (Open source further) = Some source
  source_of (Closed was ending) = None
