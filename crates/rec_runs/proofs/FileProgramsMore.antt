-- The programs of a channel in a file, program by program and recording by recording.
use Rattle.std.proofs.Common.{ℕ, ◌≡◌, List, [], ◌∷◌, ◌++◌, true, Option, None, Some, refl, ap, ◌∙◌, append-nil}
use Rattle.std.specs.Prelude.{map}
use Rattle.std.proofs.lemmas.Grind.{flat_map-append}
use Rattle.std.proofs.lemmas.List.{map-append}
use Rattle.bpf_insn.specs.declared.insn.Insn.{Insn}
use Rattle.rec_reader.specs.Packets.{PacketData}
use Rattle.rec_runs.specs.FilePrograms.{FileProgram, program_in_file, greater_program, greatest_behind}
use Rattle.rec_runs.specs.ProgramMoves.{PlacedProgram, ProgramMoves, placed_said, placed_programs, moves_behind}
use Rattle.rec_runs.specs.ProgramMoves.{programs_kept, moved_programs, with_recording, with_recordings, file_programs, last_in_file}
use Rattle.rec_runs.specs.RunStates.{version_gone_on_in}

-- ---- the one of the greatest version

greatest_both : (earlier : Option FileProgram) (programs more : List FileProgram)
    → greatest_behind earlier (programs ++ more) ≡ greatest_behind (greatest_behind earlier programs) more
greatest_both earlier [] more = refl
greatest_both earlier (program ∷ programs) more = greatest_both (greater_program earlier program) programs more

-- ---- a recording more

with_one_more : (channel : ℕ) (before : List FileProgram) (recordings : List (List PacketData)) (recording : List PacketData)
    → with_recordings channel before (recordings ++ recording ∷ [])
    ≡ with_recording channel (with_recordings channel before recordings) recording
with_one_more channel before [] recording = refl
with_one_more channel before (first ∷ recordings) recording =
    with_one_more channel (with_recording channel before first) recordings recording

-- the last of the file, of a recording's programs behind a last one
abbrev pub last_with : (last : Option FileProgram) → List PlacedProgram → Option FileProgram
last_with last programs = greatest_behind last (moved_programs (moves_behind last programs) programs)

pub last_one_more : (channel : ℕ) (recordings : List (List PacketData)) (recording : List PacketData)
    → last_in_file channel (recordings ++ recording ∷ []) ≡ last_with (last_in_file channel recordings) (placed_programs channel recording)
last_one_more channel recordings recording =
    ap (greatest_behind None) (with_one_more channel [] recordings recording)
    ∙ greatest_both None (file_programs channel recordings)
    (moved_programs (moves_behind (last_in_file channel recordings) (placed_programs channel recording)) (placed_programs channel recording))

-- a recording without programs
pub last_with_none : (last : Option FileProgram) → last_with last [] ≡ last
last_with_none None = refl
last_with_none (Some last) = refl

-- ---- a packet more

pub placed_more : (channel : ℕ) (packets : List PacketData) (packet : PacketData)
    → placed_programs channel (packets ++ packet ∷ []) ≡ placed_programs channel packets ++ placed_said channel packet
placed_more channel packets packet =
    flat_map-append (placed_said channel) packets (packet ∷ [])
    ∙ ap (λ l. placed_programs channel packets ++ l) (append-nil (placed_said channel packet))

-- ---- a program more

kept_more : (same : Option ℕ) (first : PlacedProgram) (programs : List PlacedProgram) (one : PlacedProgram)
    → programs_kept same (first ∷ (programs ++ one ∷ [])) ≡ programs_kept same (first ∷ programs) ++ one ∷ []
kept_more None first programs one = refl
kept_more (Some at) first programs one = refl

moved_more : (moves : ProgramMoves) (first : PlacedProgram) (programs : List PlacedProgram) (one : PlacedProgram)
    → moved_programs moves (first ∷ (programs ++ one ∷ []))
    ≡ moved_programs moves (first ∷ programs) ++ program_in_file moves.versions one.program ∷ []
moved_more moves first programs one =
    ap (map (λ (placed : PlacedProgram). program_in_file moves.versions placed.program)) (kept_more moves.same first programs one)
    ∙ map-append (λ (placed : PlacedProgram). program_in_file moves.versions placed.program) (programs_kept moves.same (first ∷ programs)) (one ∷ [])

pub same_moves : (last : Option FileProgram) (first : PlacedProgram) (programs more : List PlacedProgram)
    → moves_behind last (first ∷ programs) ≡ moves_behind last (first ∷ more)
same_moves None first programs more = refl
same_moves (Some last) first programs more = refl

pub last_with_more : (last : Option FileProgram) (first : PlacedProgram) (programs : List PlacedProgram) (one : PlacedProgram)
    → last_with last (first ∷ (programs ++ one ∷ []))
    ≡ greater_program (last_with last (first ∷ programs)) (program_in_file (moves_behind last (first ∷ programs)).versions one.program)
last_with_more last first programs one =
    ap (λ moves. greatest_behind last (moved_programs moves (first ∷ (programs ++ one ∷ [])))) (same_moves last first (programs ++ one ∷ []) programs)
    ∙ ap (greatest_behind last) (moved_more (moves_behind last (first ∷ programs)) first programs one)
    ∙ greatest_both last (moved_programs (moves_behind last (first ∷ programs)) (first ∷ programs))
    (program_in_file (moves_behind last (first ∷ programs)).versions one.program ∷ [])

pub none_gone_on : (last : Option FileProgram) (version : ℕ) (insns : List Insn) → version_gone_on_in last true version insns ≡ None
none_gone_on None version insns = refl
none_gone_on (Some last) version insns = refl
