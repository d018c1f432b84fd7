-- What is kept of a channel of recordings that follow one another.
use Rattle.std.specs.Prelude.{ℕ, ◌&&◌, Bool, true, false, not, if◌then◌else◌, List, [], ◌∷◌, ◌++◌}
use Rattle.std.specs.Prelude.{Option, None, Some}
use Rattle.std.specs.Option.{option_map}
use Rattle.bpf_insn.specs.declared.insn.Insn.{Insn}
use Rattle.rec_reader.specs.declared.audits.channel.ChannelProgram.{ChannelProgram}
use Rattle.rec_reader.specs.declared.audits.channel.ChannelEnd.{ChannelEnd}
use Rattle.rec_reader.specs.Packets.{PacketData}
use Rattle.rec_reader.specs.Channels.{Saying}
use Rattle.rec_reader.specs.Channels.Saying.{OfFrames, OfProgram, OfEnd}
use Rattle.rec_reader.specs.Auditors.{counted, counted_more}
use Rattle.rec_runs.specs.declared.channel.LastProgram.{LastProgram}
use Rattle.rec_runs.specs.declared.channel.EndSums.{EndSums}
use Rattle.rec_runs.specs.declared.channel.ChannelRun.{ChannelRun}
use Rattle.rec_runs.specs.FilePrograms.{FileProgram, program_in_file, greater_program}
use Rattle.rec_runs.specs.ProgramMoves.{ProgramMoves, PlacedProgram, placed_programs}
use Rattle.rec_runs.specs.ProgramMoves.{unmoved_programs, moves_behind, repeats_last, last_in_file}
use Rattle.rec_runs.specs.ProgramMoves.{moves_before}
use Rattle.rec_runs.specs.RunSums.{sum_offered, sum_kept}

-- ---- sums

-- sums as they are counted: none from 2^64 on
abbrev pub counted_sums : (offered kept : ℕ) → EndSums
counted_sums offered kept = record { offered = counted offered; kept = counted kept }

-- those of the ends of recordings
abbrev pub sums_of_run : (channel : ℕ) → List (List PacketData) → EndSums
sums_of_run channel recordings =
    counted_sums (sum_offered channel recordings) (sum_kept channel recordings)

-- sums with an end more
abbrev pub sums_with : EndSums → ChannelEnd → EndSums
sums_with sums end = record {
  offered = counted_more sums.offered end.offered;
  kept = counted_more sums.kept end.kept;
}

-- ---- states

-- the last program of the file, what becomes of the programs of the recording in hand, whether it
-- has one so far, and the sums of the ends before it and so far
pub record RunState : Type 0 where
  pub last : Option FileProgram
  pub moves : ProgramMoves
  pub begun : Bool
  pub before : EndSums
  pub sums : EndSums

abbrev pub are_placed : List PlacedProgram → Bool
are_placed [] = false
are_placed (program ∷ programs) = true

-- the state of a channel after these recordings, of one that follows them with these packets so far
abbrev pub state_of_run : (channel : ℕ) → (earlier : List (List PacketData))
    → (own : List PacketData) → RunState
state_of_run channel earlier own = record {
  last = last_in_file channel (earlier ++ own ∷ []);
  moves = moves_before channel earlier own;
  begun = are_placed (placed_programs channel own);
  before = sums_of_run channel earlier;
  sums = sums_of_run channel (earlier ++ own ∷ []);
}

-- that of a channel that no recording has
abbrev pub unnamed_run : RunState
unnamed_run = record {
  last = None;
  moves = unmoved_programs;
  begun = false;
  before = counted_sums 0 0;
  sums = counted_sums 0 0;
}

-- ---- steps

-- the version of the file's last program, if the recording's first goes on with it, which has this
-- version and these instructions; none for a later one
abbrev pub version_gone_on_in : Option FileProgram → (begun : Bool) → (version : ℕ) → List Insn
    → Option ℕ
version_gone_on_in None begun version insns = None
version_gone_on_in (Some last) begun version insns =
    if not begun && repeats_last last version insns then Some last.version else None

abbrev pub version_gone_on : RunState → (version : ℕ) → List Insn → Option ℕ
version_gone_on state version insns = version_gone_on_in state.last state.begun version insns

-- with a program more of the file
abbrev pub with_program : RunState → FileProgram → RunState
with_program state program = record state { last = greater_program state.last program }

-- with a program more of the recording: it goes on with the file's last, of this version, or is one
-- of the file
abbrev pub with_own_program : (gone_on : Option ℕ) → (at : ℕ) → ChannelProgram → RunState → RunState
with_own_program (Some version) at program state =
    record state { moves = record { versions = version; same = Some at }; begun = true }
with_own_program None at program state =
    record (with_program state (program_in_file state.moves.versions program)) { begun = true }

-- the state after a packet at a place that says this of the channel
abbrev pub run_after : (at : ℕ) → Saying → RunState → RunState
run_after at (OfFrames frames) state = state
run_after at (OfProgram program) state =
    with_own_program (version_gone_on state program.version program.insns) at program state
run_after at (OfEnd end) state = record state { sums = sums_with state.sums end }

-- ---- the code's values as data

abbrev pub last_program_data : LastProgram → FileProgram
last_program_data last = record { version = last.version; insns = last.insns.items }

abbrev pub run_data : ChannelRun → RunState
run_data run = record {
  last = option_map last_program_data run.last;
  moves = record { versions = run.versions; same = run.same };
  begun = run.is_begun;
  before = run.before;
  sums = run.sums;
}

-- what is kept as the next recording begins
abbrev pub next_run : ChannelRun → ChannelRun
next_run run = record run {
  versions = (moves_behind (run_data run).last []).versions;
  same = None;
  is_begun = false;
  before = run.sums;
}
