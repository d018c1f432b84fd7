-- The pieces of what is left of a packet of frames.
use Rattle.std.proofs.Common.{ℕ, suc, zero, ◌-◌, ◌≡◌, ◌≢◌, ◌≤◌, ◌<◌, List, [], ◌∷◌, length, take, drop}
use Rattle.std.proofs.Common.{refl, sym, ◌∙◌, ap, subst, arith, false}
use Rattle.std.proofs.lemmas.List.{take_all, drop-drop, length-drop}
use Rattle.ch11_packet.specs.FramesRead.{ReadFrameData, first_reads}
use Rattle.ch11_packet.proofs.FirstFrames.{length-first_reads}
use Rattle.ch11_merge.specs.declared.piece.PieceSoFar.{PieceSoFar}
use Rattle.ch11_merge.specs.declared.source.Head.TheVariants.{At, End}
use Rattle.ch11_merge.specs.Pieces.{piece_before}
use Rattle.ch11_merge.specs.Merging.{StandsFirst, head_of, is_due, TakesPart}
use Rattle.ch11_merge.specs.Parts.{pieces_left, frames_pieces}
use Rattle.ch11_merge.proofs.PartsTaken.{taken_of}
use Rattle.ch11_file.specs.OwnedPieces.{owned_data}
use Rattle.rec_pieces.specs.declared.part.PartTaken.{PartTaken}
use Rattle.rec_pieces.specs.Parts.{IsPartTaken}
use Rattle.rec_pieces.specs.Hands.{pieces_in_hand}

-- a slice up to the end
pub to_end : (xs : List ℕ) (at : ℕ) → take (length xs - at) (drop at xs) ≡ drop at xs
to_end xs at = take_all (length xs - at) (drop at xs) (omega (arith, length-drop at xs))

no_pieces : (place : ℕ) (ahead : PieceSoFar) (frames : List ReadFrameData) → pieces_left place ahead frames ≡ [] → frames ≡ []
no_pieces place ahead [] none = refl
no_pieces place ahead (f ∷ fs) none = absurd (omega (arith, ap length none))

-- nothing is left where no frame is
pub over_if : (place : ℕ) (ahead : PieceSoFar) (count at : ℕ) (bytes : List ℕ) → count ≡ 0 → pieces_in_hand place ahead count at bytes ≡ []
unfolding pieces_in_hand first_reads
over_if place ahead count at bytes none = rw none refl

pub over_then : (place : ℕ) (ahead : PieceSoFar) (count at : ℕ) (bytes : List ℕ) → pieces_in_hand place ahead count at bytes ≡ [] → count ≡ 0
unfolding pieces_in_hand
over_then place ahead count at bytes none =
    omega (arith, ap length (no_pieces place ahead (first_reads count (drop at bytes)) none), length-first_reads count (drop at bytes))

pub some_left : (place : ℕ) (ahead : PieceSoFar) (count at : ℕ) (bytes : List ℕ) → pieces_in_hand place ahead count at bytes ≢ [] → 0 < count
some_left place ahead zero at bytes some = absurd (some (over_if place ahead 0 at bytes refl))
some_left place ahead (suc count) at bytes some = omega arith

-- where it stands
pub head_first : (place : ℕ) (ahead : PieceSoFar) (count at : ℕ) (bytes : List ℕ) (frame : ReadFrameData) (frames : List ReadFrameData)
    → first_reads count (drop at bytes) ≡ frame ∷ frames → At frame.counter ≡ head_of (pieces_in_hand place ahead count at bytes)
unfolding pieces_in_hand
head_first place ahead count at bytes frame frames is = sym (ap (λ fs. head_of (pieces_left place ahead fs)) is)

pub head_none : (place : ℕ) (ahead : PieceSoFar) (count at : ℕ) (bytes : List ℕ)
    → first_reads count (drop at bytes) ≡ [] → End ≡ head_of (pieces_in_hand place ahead count at bytes)
unfolding pieces_in_hand
head_none place ahead count at bytes is = sym (ap (λ fs. head_of (pieces_left place ahead fs)) is)

-- where its packet stands
pub place_first : (place : ℕ) (ahead : PieceSoFar) (count at : ℕ) (bytes : List ℕ) → pieces_in_hand place ahead count at bytes ≢ []
    → StandsFirst (pieces_in_hand place ahead count at bytes) place
unfolding pieces_in_hand
place_first place ahead count at bytes some = of_frames (first_reads count (drop at bytes)) some
  where
    of_frames : (frames : List ReadFrameData) → pieces_left place ahead frames ≢ [] → StandsFirst (pieces_left place ahead frames) place
    of_frames [] some = absurd (some refl)
    of_frames (f ∷ fs) some = refl

-- a packet of frames begins with all its pieces
pub all_in_hand : (place count : ℕ) (bytes : List ℕ) (frame : ReadFrameData) (frames said : List ReadFrameData)
    → first_reads count (drop 4 bytes) ≡ frame ∷ frames → first_reads count (drop 4 bytes) ≡ said
    → pieces_in_hand place (piece_before frame.counter) count 4 bytes ≡ frames_pieces place said
unfolding pieces_in_hand
all_in_hand place count bytes frame frames said first is =
    ap (pieces_left place (piece_before frame.counter)) first ∙ ap (frames_pieces place) (sym first ∙ is)

pub some_in_hand : (place : ℕ) (ahead : PieceSoFar) (count at : ℕ) (bytes : List ℕ) (frame : ReadFrameData) (frames : List ReadFrameData)
    → first_reads count (drop at bytes) ≡ frame ∷ frames → pieces_in_hand place ahead count at bytes ≢ []
unfolding pieces_in_hand
some_in_hand place ahead count at bytes frame frames first none =
    absurd (omega (arith, ap length (sym first ∙ no_pieces place ahead (first_reads count (drop at bytes)) none)))

-- a part is taken
pub part_in_hand : (tick place : ℕ) (ahead : PieceSoFar) (count at : ℕ) (bytes : List ℕ) (part : PartTaken)
    → at ≤ length bytes → is_due tick (head_of (pieces_in_hand place ahead count at bytes)) ≡ false
    → IsPartTaken tick place ahead count (drop at bytes) part
    → TakesPart tick (pieces_in_hand place ahead count at bytes) (owned_data part.piece)
    (pieces_in_hand place part.ahead part.count (length bytes - part.len) bytes)
unfolding pieces_in_hand
part_in_hand tick place ahead count at bytes part within early is =
    let frames = first_reads count (drop at bytes) in
    let there : drop (length (drop at bytes) - part.len) (drop at bytes) ≡ drop (length bytes - part.len) bytes =
    drop-drop (length (drop at bytes) - part.len) at bytes ∙ ap (λ n. drop n bytes) (omega (arith, length-drop at bytes, is.within, within)) in
    subst (λ p. TakesPart tick (pieces_left place ahead frames) p
    (pieces_left place part.ahead (first_reads part.count (drop (length bytes - part.len) bytes))))
    (sym is.piece)
    (taken_of tick place ahead part.ahead frames is.taken (take is.taken frames) (first_reads part.count (drop (length bytes - part.len) bytes))
    early is.is_part refl
    (ap (first_reads part.count) (sym there) ∙ is.left))
