-- Versions that rise through a file.
use Rattle.std.proofs.Common.{ℕ, ◌≡◌, ◌+◌, ◌^◌, ◌<◌, ◌≤◌, min, inl, inr, Bool, true, false, cond, List, [], ◌∷◌, ◌++◌, Option, None, Some, map}
use Rattle.std.proofs.Common.{refl, sym, ap, subst, ◌∙◌, arith}
use Rattle.std.specs.Prelude.{nat_le}
use Rattle.std.specs.List.{AllByRecursion}
use Rattle.std.proofs.lemmas.Bool.{cases_Bool, leb-true, leb-false}
use Rattle.std.proofs.lemmas.List.{map-append}
use Rattle.rec_reader.specs.declared.audits.channel.ChannelProgram.{ChannelProgram}
use Rattle.rec_reader.specs.Packets.{PacketData}
use Rattle.rec_reader.specs.Channels.{saying_of, program_said, programs_of}
use Rattle.rec_runs.specs.FilePrograms.{FileProgram, program_in_file, greatest_behind, greatest_program}
use Rattle.rec_runs.specs.ProgramMoves.{PlacedProgram, placed_program, placed_said, placed_programs, repeats_last, moved_after, moved_onto, moves_behind}
use Rattle.rec_runs.specs.ProgramMoves.{moved_programs, with_recording, with_recordings, file_programs}
use Rattle.rec_runs.specs.RisingVersions.{VersionsRise, version_in_recording, version_in_file, RecordingRises, FileRises, VersionFits}

-- ---- a recording's programs, with and without their places

abbrev of_placed : PlacedProgram → ChannelProgram
of_placed placed = placed.program

abbrev placed_version : PlacedProgram → ℕ
placed_version placed = placed.program.version

unplaced : (at : ℕ) (programs : List ChannelProgram) → map of_placed (map (placed_program at) programs) ≡ programs
unplaced at [] = refl
unplaced at (program ∷ programs) = ap (λ l. program ∷ l) (unplaced at programs)

programs_placed : (channel : ℕ) (packets : List PacketData) → map of_placed (placed_programs channel packets) ≡ programs_of channel packets
programs_placed channel [] = refl
programs_placed channel (packet ∷ packets) =
    map-append of_placed (placed_said channel packet) (placed_programs channel packets)
    ∙ ap (λ l. l ++ map of_placed (placed_programs channel packets)) (unplaced packet.at (program_said channel (saying_of packet)))
    ∙ ap (λ l. program_said channel (saying_of packet) ++ l) (programs_placed channel packets)

map_twice : {A B C : Type 0} (f : A → B) (g : B → C) (xs : List A) → map g (map f xs) ≡ map (λ x. g (f x)) xs
map_twice f g [] = refl
map_twice f g (x ∷ xs) = ap (λ l. g (f x) ∷ l) (map_twice f g xs)

pub alone_in_file : (channel : ℕ) (recording : List PacketData)
    → file_programs channel (recording ∷ []) ≡ map (program_in_file 0) (programs_of channel recording)
alone_in_file channel recording =
    sym (map_twice of_placed (program_in_file 0) (placed_programs channel recording)) ∙ ap (map (program_in_file 0)) (programs_placed channel recording)

placed_rise : (channel : ℕ) (packets : List PacketData) → RecordingRises channel packets
    → VersionsRise 0 (map placed_version (placed_programs channel packets))
placed_rise channel packets rise =
    subst (λ versions. VersionsRise 0 versions)
    (ap (map version_in_recording) (sym (programs_placed channel packets)) ∙ map_twice of_placed version_in_recording (placed_programs channel packets))
    rise

-- ---- versions that rise

rise_lower : (a b : ℕ) (versions : List ℕ) → a ≤ b → VersionsRise b versions → VersionsRise a versions
rise_lower a b [] lower rise = tt
rise_lower a b (version ∷ versions) lower rise = ((let above = rise.0 in omega arith), rise.1)

rise_both : (a b : ℕ) (before behind : List FileProgram) → a ≤ b → VersionsRise a (map version_in_file before)
    → AllByRecursion (λ (program : FileProgram). program.version < b) before → VersionsRise b (map version_in_file behind)
    → VersionsRise a (map version_in_file (before ++ behind))
rise_both a b [] behind lower rise below more = rise_lower a b (map version_in_file behind) lower more
rise_both a b (program ∷ before) behind lower rise below more =
    (rise.0, rise_both (program.version + 1) b before behind (let under = below.0 in omega arith) rise.1 below.1 more)

all_front : (P : FileProgram → Type 0) (xs ys : List FileProgram) → AllByRecursion P (xs ++ ys) → AllByRecursion P xs
all_front P [] ys all = tt
all_front P (x ∷ xs) ys all = (all.0, all_front P xs ys all.1)

all_back : (P : FileProgram → Type 0) (xs ys : List FileProgram) → AllByRecursion P (xs ++ ys) → AllByRecursion P ys
all_back P [] ys all = all
all_back P (x ∷ xs) ys all = all_back P xs ys all.1

-- ---- a recording's programs in the file

abbrev in_file : (added : ℕ) → PlacedProgram → FileProgram
in_file added placed = program_in_file added placed.program

shifted : (added least : ℕ) (programs : List PlacedProgram) → VersionsRise least (map placed_version programs)
    → AllByRecursion VersionFits (map (in_file added) programs) → VersionsRise (added + least) (map version_in_file (map (in_file added) programs))
shifted added least [] rise fits = tt
shifted added least (placed ∷ programs) rise fits =
    let above = rise.0 in
    let small = fits.0 in
    let same : added + (placed.program.version + 1) ≡ min (added + placed.program.version) (2 ^ 32) + 1 = omega arith in (
      omega arith,
      subst (λ (n : ℕ). VersionsRise n (map version_in_file (map (in_file added) programs))) same
          (shifted added (placed.program.version + 1) programs rise.1 fits.1),
    )

moved_if : (b : Bool) (last : FileProgram) (first : PlacedProgram) (programs : List PlacedProgram) → last.version < 2 ^ 32
    → VersionsRise 0 (map placed_version (first ∷ programs))
    → AllByRecursion VersionFits (moved_programs (cond b (moved_onto last first.at) (moved_after last)) (first ∷ programs))
    → VersionsRise (last.version + 1) (map version_in_file (moved_programs (cond b (moved_onto last first.at) (moved_after last)) (first ∷ programs)))
moved_if true last first programs small rise fits =
    shifted last.version 1 programs (rise_lower 1 (first.program.version + 1) (map placed_version programs) (omega arith) rise.1) fits
moved_if false last first programs small rise fits =
    rise_lower (last.version + 1) (min (last.version + 1) (2 ^ 32) + 0)
    (map version_in_file (map (in_file (min (last.version + 1) (2 ^ 32))) (first ∷ programs))) (omega arith)
    (shifted (min (last.version + 1) (2 ^ 32)) 0 (first ∷ programs) rise fits)

moved_rise : (last : FileProgram) (programs : List PlacedProgram) → last.version < 2 ^ 32 → VersionsRise 0 (map placed_version programs)
    → AllByRecursion VersionFits (moved_programs (moves_behind (Some last) programs) programs)
    → VersionsRise (last.version + 1) (map version_in_file (moved_programs (moves_behind (Some last) programs) programs))
moved_rise last [] small rise fits = tt
moved_rise last (first ∷ programs) small rise fits =
    moved_if (repeats_last last first.program.version first.program.insns) last first programs small rise fits

-- ---- the one of the greatest version

record IsGreatestOf (earlier : FileProgram) (programs : List FileProgram) : Type 0 where
  last : FileProgram
  is : greatest_behind (Some earlier) programs ≡ Some last
  first : earlier.version ≤ last.version
  others : AllByRecursion (λ (program : FileProgram). program.version < last.version + 1) programs
  fits : earlier.version < 2 ^ 32 → AllByRecursion VersionFits programs → last.version < 2 ^ 32

greatest_of : (earlier : FileProgram) (programs : List FileProgram) → IsGreatestOf earlier programs
greatest_of earlier [] = record { last = earlier; is = refl; first = omega arith; others = tt; fits = λ small all. small }
greatest_of earlier (program ∷ programs) = elim (cases_Bool (nat_le earlier.version program.version)) [
  | inl on ↦ (
      let greatest = greatest_of program programs in
      let above = greatest.first in
      let lower = leb-true earlier.version program.version on in
      record {
        last = greatest.last;
        is = ap (λ b. greatest_behind (cond b (Some program) (Some earlier)) programs) on ∙ greatest.is;
        first = omega arith;
        others = (omega arith, greatest.others);
        fits = λ small all. greatest.fits all.0 all.1;
      })
  | inr off ↦ (
      let greatest = greatest_of earlier programs in
      let above = greatest.first in
      let lower = leb-false earlier.version program.version off in
      record {
        last = greatest.last;
        is = ap (λ b. greatest_behind (cond b (Some program) (Some earlier)) programs) off ∙ greatest.is;
        first = above;
        others = (omega arith, greatest.others);
        fits = λ small all. greatest.fits small all.1;
      })
]

-- ---- a recording more

fits_before : (channel : ℕ) (before : List FileProgram) (recordings : List (List PacketData))
    → AllByRecursion VersionFits (with_recordings channel before recordings) → AllByRecursion VersionFits before
fits_before channel before [] fits = fits
fits_before channel before (recording ∷ recordings) fits =
    all_front VersionFits before
    (moved_programs (moves_behind (greatest_program before) (placed_programs channel recording)) (placed_programs channel recording))
    (fits_before channel (with_recording channel before recording) recordings fits)

abbrev Joined : (before : List FileProgram) → Option FileProgram → List PlacedProgram → List FileProgram
Joined before last programs = before ++ moved_programs (moves_behind last programs) programs

behind_last : (program : FileProgram) (before : List FileProgram) (programs : List PlacedProgram) (last : Option FileProgram)
    (greatest : IsGreatestOf program before)
    → last ≡ Some greatest.last → FileRises (program ∷ before) → VersionsRise 0 (map placed_version programs)
    → AllByRecursion VersionFits (Joined (program ∷ before) last programs) → FileRises (Joined (program ∷ before) last programs)
behind_last program before programs None greatest is rise own fits = cc
behind_last program before programs (Some last) greatest is rise own fits =
    let same : last ≡ greatest.last = cc in
    let fitting = all_front VersionFits (program ∷ before) (moved_programs (moves_behind (Some last) programs) programs) fits in
    let small : last.version < 2 ^ 32 = subst (λ (l : FileProgram). l.version < 2 ^ 32) (sym same) (greatest.fits fitting.0 fitting.1) in
    let first = greatest.first in
    let below = subst (λ (l : FileProgram). AllByRecursion (λ (p : FileProgram). p.version < l.version + 1) (program ∷ before)) (sym same)
    (let under : program.version < greatest.last.version + 1 = omega arith in (under, greatest.others)) in
    rise_both 0 (last.version + 1) (program ∷ before) (moved_programs (moves_behind (Some last) programs) programs) (omega arith) rise below
    (moved_rise last programs small own
    (all_back VersionFits (program ∷ before) (moved_programs (moves_behind (Some last) programs) programs) fits))

recording_rises : (before : List FileProgram) (programs : List PlacedProgram) → FileRises before → VersionsRise 0 (map placed_version programs)
    → AllByRecursion VersionFits (Joined before (greatest_program before) programs) → FileRises (Joined before (greatest_program before) programs)
recording_rises [] programs rise own fits = shifted 0 0 programs own fits
recording_rises (program ∷ before) programs rise own fits =
    let greatest = greatest_of program before in
    behind_last program before programs (greatest_program (program ∷ before)) greatest greatest.is rise own fits

recordings_rise : (channel : ℕ) (before : List FileProgram) (recordings : List (List PacketData)) → FileRises before
    → AllByRecursion (RecordingRises channel) recordings → AllByRecursion VersionFits (with_recordings channel before recordings)
    → FileRises (with_recordings channel before recordings)
recordings_rise channel before [] rise own fits = rise
recordings_rise channel before (recording ∷ recordings) rise own fits =
    recordings_rise channel (with_recording channel before recording) recordings
    (recording_rises before (placed_programs channel recording) rise (placed_rise channel recording own.0)
    (fits_before channel (with_recording channel before recording) recordings fits)) own.1 fits

pub file_rises : (channel : ℕ) (recordings : List (List PacketData)) → AllByRecursion (RecordingRises channel) recordings
    → AllByRecursion VersionFits (file_programs channel recordings) → FileRises (file_programs channel recordings)
file_rises channel recordings own fits = recordings_rise channel [] recordings tt own fits
