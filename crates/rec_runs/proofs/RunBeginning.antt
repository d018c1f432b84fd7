-- A channel that no recording has so far.
use Rattle.std.proofs.Common.{ℕ, ◌≡◌, List, [], ◌∷◌, ◌++◌, Bool, true, false, cond, Option, None, Some, refl, ap, ◌∙◌, arith}
use Rattle.std.specs.Prelude.{map, ◌||◌}
use Rattle.std.specs.List.{sum_by}
use Rattle.std.proofs.lemmas.List.Sums.{sum_by-cons}
use Rattle.rec_reader.specs.Packets.{PacketData}
use Rattle.rec_reader.specs.Channels.{Saying, saying_of, program_said, end_said, ends_of}
use Rattle.rec_reader.specs.Channels.Saying.{OfFrames, OfProgram, OfEnd}
use Rattle.rec_reader.specs.Auditors.{counted}
use Rattle.rec_runs.specs.FilePrograms.{FileProgram, program_in_file, greatest_program}
use Rattle.rec_runs.specs.ProgramMoves.{PlacedProgram, ProgramMoves, placed_program, placed_programs, moves_behind, with_recordings, file_programs}
use Rattle.rec_runs.specs.RunSayings.{without_frames, is_said_of, tells_of, recording_has, run_has}
use Rattle.rec_runs.specs.RunSums.{offered_by_end, kept_by_end, offered_in_recording, kept_in_recording, sum_offered, sum_kept}
use Rattle.rec_runs.specs.Moves.{moves_of_record, no_moves}

neither : (a b : Bool) → (a || b) ≡ false → (a ≡ false) × (b ≡ false)
neither true b is = cc
neither false b is = (refl, is)

-- ---- a packet that says nothing of the channel

no_program : (channel : ℕ) (said : Option (ℕ × Saying)) → is_said_of channel (without_frames said) ≡ false → program_said channel said ≡ []
no_program channel None is = refl
no_program channel (Some (named, OfFrames frames)) is = refl
no_program channel (Some (named, OfProgram program)) is = ap (λ b. cond b (program ∷ []) []) is
no_program channel (Some (named, OfEnd end)) is = refl

no_end : (channel : ℕ) (said : Option (ℕ × Saying)) → is_said_of channel (without_frames said) ≡ false → end_said channel said ≡ []
no_end channel None is = refl
no_end channel (Some (named, OfFrames frames)) is = refl
no_end channel (Some (named, OfProgram program)) is = refl
no_end channel (Some (named, OfEnd end)) is = ap (λ b. cond b (end ∷ []) []) is

-- ---- a recording that doesn't have it

pub no_programs : (channel : ℕ) (packets : List PacketData) → recording_has channel packets ≡ false → placed_programs channel packets ≡ []
no_programs channel [] is = refl
no_programs channel (packet ∷ packets) is =
    let both = neither (tells_of channel packet) (recording_has channel packets) is in
    ap (λ l. map (placed_program packet.at) l ++ placed_programs channel packets) (no_program channel (saying_of packet) both.0)
    ∙ no_programs channel packets both.1

pub no_ends : (channel : ℕ) (packets : List PacketData) → recording_has channel packets ≡ false → ends_of channel packets ≡ []
no_ends channel [] is = refl
no_ends channel (packet ∷ packets) is =
    let both = neither (tells_of channel packet) (recording_has channel packets) is in
    ap (λ l. l ++ ends_of channel packets) (no_end channel (saying_of packet) both.0) ∙ no_ends channel packets both.1

-- ---- recordings that don't

none_in_file : (channel : ℕ) (recordings : List (List PacketData)) → run_has channel recordings ≡ false → file_programs channel recordings ≡ []
none_in_file channel [] is = refl
none_in_file channel (recording ∷ recordings) is =
    let both = neither (recording_has channel recording) (run_has channel recordings) is in
    ap (λ (programs : List PlacedProgram). with_recordings channel (map (λ (placed : PlacedProgram). program_in_file 0 placed.program) programs) recordings)
    (no_programs channel recording both.0)
    ∙ none_in_file channel recordings both.1

no_sum : (f : List PacketData → ℕ) (recording : List PacketData) (recordings : List (List PacketData)) → f recording ≡ 0 → sum_by f recordings ≡ 0
    → sum_by f (recording ∷ recordings) ≡ 0
no_sum f recording recordings none rest =
    let both = sum_by-cons f recording recordings in omega arith

none_summed : (channel : ℕ) (recordings : List (List PacketData)) → run_has channel recordings ≡ false
    → (sum_offered channel recordings ≡ 0) × (sum_kept channel recordings ≡ 0)
none_summed channel [] is = (refl, refl)
none_summed channel (recording ∷ recordings) is =
    let both = neither (recording_has channel recording) (run_has channel recordings) is in
    let none = no_ends channel recording both.0 in
    let rest = none_summed channel recordings both.1 in (
      no_sum (offered_in_recording channel) recording recordings (ap (sum_by offered_by_end) none) rest.0,
      no_sum (kept_in_recording channel) recording recordings (ap (sum_by kept_by_end) none) rest.1,
    )

pub nothing_moved : (channel : ℕ) (earlier : List (List PacketData)) (own : List PacketData) → run_has channel earlier ≡ false
    → moves_of_record channel earlier own ≡ no_moves channel
nothing_moved channel earlier own is =
    let none = none_in_file channel earlier is in
    let sums = none_summed channel earlier is in
    ap (λ (moves : ProgramMoves). record (moves_of_record channel earlier own) { versions = moves.versions; same = moves.same })
    (ap (λ (programs : List FileProgram). moves_behind (greatest_program programs) (placed_programs channel own)) none)
    ∙ ap (λ (n : ℕ). record (no_moves channel) { offered = counted n; kept = counted (sum_kept channel earlier) }) sums.0
    ∙ ap (λ (n : ℕ). record (no_moves channel) { offered = counted 0; kept = counted n }) sums.1
