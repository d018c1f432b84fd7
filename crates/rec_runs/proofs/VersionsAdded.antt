-- What is added to versions, at most.
use Rattle.std.proofs.Common.{ℕ, ◌^◌, ◌≤◌, Bool, true, false, cond, List, [], ◌∷◌, ◌++◌, Option, None, Some, map, arith}
use Rattle.std.specs.List.{AllByRecursion}
use Rattle.rec_reader.specs.Packets.{PacketData}
use Rattle.rec_runs.specs.FilePrograms.{FileProgram, program_in_file, is_greatest_behind, greater_program, greatest_behind, greatest_program}
use Rattle.rec_runs.specs.ProgramMoves.{PlacedProgram, placed_programs, repeats_last, moved_after, moved_onto, moves_behind, programs_kept}
use Rattle.rec_runs.specs.ProgramMoves.{moved_programs, with_recording, with_recordings, file_programs, last_in_file, moves_before}

abbrev IsCapped : FileProgram → Type 0
IsCapped program = program.version ≤ 2 ^ 32

abbrev IsCappedIfAny : Option FileProgram → Type 0
IsCappedIfAny None = Unit {0}
IsCappedIfAny (Some program) = IsCapped program

all_both : (P : FileProgram → Type 0) (xs ys : List FileProgram) → AllByRecursion P xs → AllByRecursion P ys → AllByRecursion P (xs ++ ys)
all_both P [] ys one other = other
all_both P (x ∷ xs) ys one other = (one.0, all_both P xs ys one.1 other)

moved_capped : (added : ℕ) (programs : List PlacedProgram)
    → AllByRecursion IsCapped (map (λ (placed : PlacedProgram). program_in_file added placed.program) programs)
moved_capped added [] = tt
moved_capped added (placed ∷ programs) = (omega arith, moved_capped added programs)

file_capped : (channel : ℕ) (before : List FileProgram) (recordings : List (List PacketData)) → AllByRecursion IsCapped before
    → AllByRecursion IsCapped (with_recordings channel before recordings)
file_capped channel before [] are = are
file_capped channel before (recording ∷ recordings) are =
    let moves = moves_behind (greatest_program before) (placed_programs channel recording) in
    file_capped channel (with_recording channel before recording) recordings
    (all_both IsCapped before (moved_programs moves (placed_programs channel recording)) are
    (moved_capped moves.versions (programs_kept moves.same (placed_programs channel recording))))

greater_capped : (b : Bool) (earlier : Option FileProgram) (program : FileProgram) → IsCappedIfAny earlier → IsCapped program
    → IsCappedIfAny (cond b (Some program) earlier)
greater_capped true earlier program one other = other
greater_capped false earlier program one other = one

greatest_capped : (earlier : Option FileProgram) (programs : List FileProgram) → IsCappedIfAny earlier → AllByRecursion IsCapped programs
    → IsCappedIfAny (greatest_behind earlier programs)
greatest_capped earlier [] one are = one
greatest_capped earlier (program ∷ programs) one are =
    greatest_capped (greater_program earlier program) programs
    (greater_capped (is_greatest_behind earlier program.version) earlier program one are.0) are.1

versions_if : (b : Bool) (last : FileProgram) (at : ℕ) → IsCapped last → (cond b (moved_onto last at) (moved_after last)).versions ≤ 2 ^ 32
versions_if true last at is = is
versions_if false last at is = omega arith

versions_behind : (last : Option FileProgram) (programs : List PlacedProgram) → IsCappedIfAny last → (moves_behind last programs).versions ≤ 2 ^ 32
versions_behind None programs is = omega arith
versions_behind (Some last) [] is = omega arith
versions_behind (Some last) (first ∷ programs) is =
    versions_if (repeats_last last first.program.version first.program.insns) last first.at is

pub most_added : (channel : ℕ) (earlier : List (List PacketData)) (own : List PacketData) → (moves_before channel earlier own).versions ≤ 2 ^ 32
most_added channel earlier own =
    versions_behind (last_in_file channel earlier) (placed_programs channel own)
    (greatest_capped None (file_programs channel earlier) tt (file_capped channel [] earlier tt))
