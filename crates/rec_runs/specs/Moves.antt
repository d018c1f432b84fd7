-- What becomes of the programs and the ends of the channels of a recording that follows others of
-- its run.
use Rattle.std.specs.Prelude.{ℕ, ◌≡◌, ◌==◌, Bool, true, false, if◌then◌else◌, List, [], ◌∷◌, ◌++◌}
use Rattle.std.specs.Prelude.{map, None, Some, unwrap_or}
use Rattle.std.specs.List.{find, list_any}
use Rattle.std.specs.List.Sorted.{IsStrictlyIncreasing}
use Rattle.rec_reader.specs.Packets.{PacketData}
use Rattle.rec_reader.specs.Auditors.{counted}
use Rattle.rec_runs.specs.declared.record_moves.RecordMoves.{RecordMoves}
use Rattle.rec_runs.specs.ProgramMoves.{moves_before}
use Rattle.rec_runs.specs.RunSayings.{run_has}
use Rattle.rec_runs.specs.RunStates.{RunState}
use Rattle.rec_runs.specs.RunSums.{sum_offered, sum_kept}

abbrev pub moved_channel : RecordMoves → ℕ
moved_channel moves = moves.channel

-- they are the moves of this channel
abbrev pub moves_channel : (channel : ℕ) → RecordMoves → Bool
moves_channel channel moves = moves.channel == channel

-- nothing of the channel is moved
abbrev pub no_moves : (channel : ℕ) → RecordMoves
no_moves channel = record {
  channel = channel;
  versions = 0;
  same = None;
  offered = Some 0;
  kept = Some 0;
  continues = false;
}

-- those of a channel, of some: where there are none, nothing of it is moved
abbrev pub moves_for : (channel : ℕ) → List RecordMoves → RecordMoves
moves_for channel moves = unwrap_or (find (moves_channel channel) moves) (no_moves channel)

-- the moves of a channel in a recording that follows these, where no later one is known that has it
abbrev pub moves_of_record : (channel : ℕ) → (earlier : List (List PacketData))
    → (own : List PacketData) → RecordMoves
moves_of_record channel earlier own = record {
  channel = channel;
  versions = (moves_before channel earlier own).versions;
  same = (moves_before channel earlier own).same;
  offered = counted (sum_offered channel earlier);
  kept = counted (sum_kept channel earlier);
  continues = false;
}

-- those by the state of the channel
abbrev pub moves_in_state : (channel : ℕ) → RunState → RecordMoves
moves_in_state channel state = record {
  channel = channel;
  versions = state.moves.versions;
  same = state.moves.same;
  offered = state.before.offered;
  kept = state.before.kept;
  continues = false;
}

-- the moves of all channels in it: one for each channel that it or one before it has, the least
-- first
pub record AreRecordMoves (earlier : List (List PacketData)) (own : List PacketData)
    (moves : List RecordMoves)
    : Type 0 where
  pub each : (channel : ℕ) → moves_for channel moves ≡ moves_of_record channel earlier own
  pub has : (channel : ℕ)
      → list_any (moves_channel channel) moves ≡ run_has channel (earlier ++ own ∷ [])
  pub ascending : IsStrictlyIncreasing (map moved_channel moves)

-- moves of which this channel has a later recording
abbrev pub continued_in : (channel : ℕ) → RecordMoves → RecordMoves
continued_in channel moves =
    if moves.channel == channel then record moves { continues = true } else moves
