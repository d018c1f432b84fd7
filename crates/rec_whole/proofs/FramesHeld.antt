-- The frames of what pieces hold.
use Rattle.std.proofs.Common.{◌≡◌, List, [], ◌∷◌, ◌++◌, map, refl, ◌∙◌, ap}
use Rattle.std.specs.List.{flat_map}
use Rattle.std.proofs.lemmas.Grind.{flat_map-append}
use Rattle.ch11_packet.specs.FramesRead.{ReadFrameData}
use Rattle.ch11_merge.specs.Merging.{FilePiece}
use Rattle.ch11_merge.specs.Merging.FilePiece.{OfFrames, OfRecord}
use Rattle.ch11_merge.specs.Kept.{held_in}
use Rattle.ch11_merge.specs.Kept.Held.{HeldFrame}
use Rattle.ch11_merge.specs.Parts.{frames_of_piece}
use Rattle.rec_whole.specs.WholeFrames.{frame_held}

all_frames : (frames : List ReadFrameData) → flat_map frame_held (map HeldFrame frames) ≡ frames
all_frames [] = refl
all_frames (frame ∷ frames) = ap (λ l. frame ∷ l) (all_frames frames)

of_piece : (piece : FilePiece) → flat_map frame_held (held_in piece) ≡ frames_of_piece piece
of_piece (OfFrames place frames) = all_frames frames
of_piece (OfRecord place counter body) = refl

pub frames_held : (pieces : List FilePiece) → flat_map frame_held (flat_map held_in pieces) ≡ flat_map frames_of_piece pieces
frames_held [] = refl
frames_held (piece ∷ pieces) =
    flat_map-append frame_held (held_in piece) (flat_map held_in pieces)
    ∙ ap (λ l. l ++ flat_map frame_held (flat_map held_in pieces)) (of_piece piece)
    ∙ ap (λ l. frames_of_piece piece ++ l) (frames_held pieces)
