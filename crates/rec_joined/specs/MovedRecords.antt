-- The programs and the ends of a channel, in a recording that follows others of its run.
use Rattle.std.specs.Prelude.{ℕ, ◌+◌, ◌<◌, ◌^◌, ◌==◌, Bool, false, if◌then◌else◌, List, ◌++◌, drop}
use Rattle.std.specs.Prelude.{Option, None, Some}
use Rattle.std.specs.Int.{w32, w64, to_le_bytes}
use Rattle.std.specs.Option.{unwrap_or}
use Rattle.ch11_packet.specs.declared.class.What.{What}
use Rattle.ch11_packet.specs.declared.class.What.TheVariants.{Frames, Program, End, Other}
use Rattle.ch11_packet.specs.RecordsRead.{kind_in}
use Rattle.eth_frame.specs.Bytes.{u32_at, u64_at}
use Rattle.rec_runs.specs.declared.record_moves.RecordMoves.{RecordMoves}
use Rattle.rec_runs.specs.Moves.{moves_for}

-- what is added to the versions of a channel's programs, to the numbers of their first frames and
-- to that of the frames offered, and to that of the frames kept; the place of a program that is
-- left out; and whether the end is. A number from 2^64 on, or a version from 2^32 on, fits none
pub record RecordMoving : Type 0 where
  pub versions : ℕ
  pub offered : ℕ
  pub kept : ℕ
  pub same : Option ℕ
  pub continues : Bool

-- nothing
abbrev pub still_records : RecordMoving
still_records = record { versions = 0; offered = 0; kept = 0; same = None; continues = false }

-- ---- those of a channel

abbrev pub record_moving : RecordMoves → RecordMoving
record_moving moves = record {
  versions = moves.versions;
  offered = unwrap_or moves.offered (2 ^ 64);
  kept = unwrap_or moves.kept (2 ^ 64);
  same = moves.same;
  continues = moves.continues;
}

-- of some; nothing moves of a channel that has none
abbrev pub records_given : List RecordMoves → (channel : ℕ) → RecordMoving
records_given all channel = record_moving (moves_for channel all)

-- ---- what is left out

abbrev pub is_at : (place : ℕ) → Option ℕ → Bool
is_at place None = false
is_at place (Some at) = at == place

-- whether a record at this place is left out
abbrev pub leaves_out : (ℕ → RecordMoving) → (place : ℕ) → What → Bool
leaves_out records place (Frames count) = false
leaves_out records place (Program channel version first count) = is_at place (records channel).same
leaves_out records place (End channel offered kept) = (records channel).continues
leaves_out records place Other = false

-- ---- what stays

-- the record of a program, and not that of an end
abbrev pub is_program : List ℕ → Bool
is_program bytes = kind_in bytes == 1

-- the bytes of a record behind its channel
abbrev pub program_numbers : (version first : ℕ) → List ℕ → List ℕ
program_numbers version first bytes =
    to_le_bytes w32 version ++ (to_le_bytes w64 first ++ drop 24 bytes)

abbrev pub end_numbers : (offered kept : ℕ) → List ℕ → List ℕ
end_numbers offered kept bytes = to_le_bytes w64 offered ++ (to_le_bytes w64 kept ++ drop 28 bytes)

abbrev pub raised_numbers : RecordMoving → List ℕ → List ℕ
raised_numbers moving bytes =
    if is_program bytes
    then program_numbers (moving.versions + u32_at bytes 12)
    (moving.offered + u64_at bytes 16) bytes
    else end_numbers (moving.offered + u64_at bytes 12) (moving.kept + u64_at bytes 20) bytes

-- the numbers of a record fit their fields
abbrev pub FitRecords : (ℕ → RecordMoving) → What → Type 0
FitRecords records (Frames count) = Unit {0}
FitRecords records (Program channel version first count) =
    ((records channel).versions + version < 2 ^ 32) × ((records channel).offered + first < 2 ^ 64)
FitRecords records (End channel offered kept) =
    ((records channel).offered + offered < 2 ^ 64) × ((records channel).kept + kept < 2 ^ 64)
FitRecords records Other = Unit {0}
