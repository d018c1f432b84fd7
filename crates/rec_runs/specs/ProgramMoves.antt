-- What becomes of the programs of a channel, of a recording that follows others: what is added to
-- their versions, and the one that is left out.
use Rattle.std.specs.Prelude.{ℕ, ◌+◌, ◌==◌, ◌&&◌, Bool, if◌then◌else◌, List, [], ◌∷◌, ◌++◌, map}
use Rattle.std.specs.Prelude.{drop, Option, None, Some}
use Rattle.std.specs.Cmp.Lexicographic.{pointwise}
use Rattle.std.specs.List.{flat_map}
use Rattle.bpf_insn.specs.declared.insn.Insn.{Insn}
use Rattle.rec_reader.specs.declared.audits.channel.ChannelProgram.{ChannelProgram}
use Rattle.rec_reader.specs.Packets.{PacketData}
use Rattle.rec_reader.specs.Channels.{saying_of, program_said}
use Rattle.rec_runs.specs.FilePrograms.{FileProgram, file_version, program_in_file}
use Rattle.rec_runs.specs.FilePrograms.{greatest_program}

-- ---- a recording's programs

-- a program, with the place of its packet
pub record PlacedProgram : Type 0 where
  pub at : ℕ
  pub program : ChannelProgram

abbrev pub placed_program : (at : ℕ) → ChannelProgram → PlacedProgram
placed_program at program = record { at = at; program = program }

-- the programs of a channel that a packet says
abbrev pub placed_said : (channel : ℕ) → PacketData → List PlacedProgram
placed_said channel packet =
    map (placed_program packet.at) (program_said channel (saying_of packet))

-- those of packets, in order
abbrev pub placed_programs : (channel : ℕ) → List PacketData → List PlacedProgram
placed_programs channel packets = flat_map (placed_said channel) packets

-- ---- what becomes of them

-- two programs have the same instructions
abbrev pub is_same_insn : (one other : Insn) → Bool
is_same_insn one other =
    one.code == other.code && one.jt == other.jt && one.jf == other.jf && one.k == other.k

abbrev pub have_same_insns : (one other : List Insn) → Bool
have_same_insns one other = pointwise is_same_insn one other

-- a recording's first program, of this version and these instructions, goes on with the file's
-- last: its version is 0, and it has the same instructions
abbrev pub repeats_last : (last : FileProgram) → (version : ℕ) → List Insn → Bool
repeats_last last version insns = version == 0 && have_same_insns last.insns insns

-- what is added to the version of each program, and the place of the one that is left out, if one
-- is
pub record ProgramMoves : Type 0 where
  pub versions : ℕ
  pub same : Option ℕ

-- the programs stay as they are
abbrev pub unmoved_programs : ProgramMoves
unmoved_programs = record { versions = 0; same = None }

-- their versions begin one after the last
abbrev pub moved_after : (last : FileProgram) → ProgramMoves
moved_after last = record { versions = file_version (last.version + 1); same = None }

-- the one at this place is the last, and is left out
abbrev pub moved_onto : (last : FileProgram) → (at : ℕ) → ProgramMoves
moved_onto last at = record { versions = last.version; same = Some at }

-- what becomes of a recording's programs, where this is the last of the file so far: the one of the
-- greatest version
abbrev pub moves_behind : (last : Option FileProgram) → List PlacedProgram → ProgramMoves
moves_behind None programs = unmoved_programs
moves_behind (Some last) [] = moved_after last
moves_behind (Some last) (first ∷ programs) =
    if repeats_last last first.program.version first.program.insns
    then moved_onto last first.at else moved_after last

-- ---- the programs of the file

-- a recording's programs that aren't left out
abbrev pub programs_kept : (same : Option ℕ) → List PlacedProgram → List PlacedProgram
programs_kept None programs = programs
programs_kept (Some at) programs = drop 1 programs

-- a recording's programs in the file
abbrev pub moved_programs : ProgramMoves → List PlacedProgram → List FileProgram
moved_programs moves programs =
    map (λ (placed : PlacedProgram). program_in_file moves.versions placed.program)
    (programs_kept moves.same programs)

-- those of the recordings before, and of a recording that follows them
abbrev pub with_recording : (channel : ℕ) → List FileProgram → List PacketData → List FileProgram
with_recording channel before recording =
    let programs = placed_programs channel recording in
    before ++ moved_programs (moves_behind (greatest_program before) programs) programs

-- those of the recordings before, and of these that follow them
abbrev pub with_recordings : (channel : ℕ) → List FileProgram → List (List PacketData)
    → List FileProgram
with_recordings channel before [] = before
with_recordings channel before (recording ∷ recordings) =
    with_recordings channel (with_recording channel before recording) recordings

-- the programs of a channel in the file of these recordings, each of which follows the one before
-- it
abbrev pub file_programs : (channel : ℕ) → List (List PacketData) → List FileProgram
file_programs channel recordings = with_recordings channel [] recordings

-- the one of the greatest version
abbrev pub last_in_file : (channel : ℕ) → List (List PacketData) → Option FileProgram
last_in_file channel recordings = greatest_program (file_programs channel recordings)

-- what becomes of the programs of a channel in a recording that follows these
abbrev pub moves_before : (channel : ℕ) → (earlier : List (List PacketData))
    → (own : List PacketData) → ProgramMoves
moves_before channel earlier own =
    moves_behind (last_in_file channel earlier) (placed_programs channel own)
