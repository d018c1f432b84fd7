-- A piece to which frames are added.
use Rattle.std.proofs.Common.{◌≡◌, ℕ, ◌+◌, ◌*◌, ◌/◌, ◌%◌, ◌^◌, ◌<◌, ◌≤◌, true, List, [], ◌∷◌}
use Rattle.std.proofs.Common.{◌++◌, length, zero, suc, refl, sym, ap, subst, ◌∙◌, append_assoc, append-nil, arith}
use Rattle.std.specs.Prelude.{All, slice_set}
use Rattle.std.specs.Int.{w32, to_le_bytes}
use Rattle.std.specs.List.{flat_map}
use Rattle.std.proofs.lemmas.Bool.Decides.{nat_tests}
use Rattle.std.proofs.lemmas.List.{length-append}
use Rattle.std.proofs.lemmas.List.Elements.{All-nil, All-head, All-push}
use Rattle.std.proofs.lemmas.Grind.{flat_map-append}
use Rattle.ch11_packet.specs.Frames.{frame_len, data_len}
use Rattle.ch11_packet.specs.FramesRead.{ReadFrameData, IsReadFrame}
use Rattle.eth_frame.specs.Bytes.{u48_at}
use Rattle.eth_frame.proofs.Bytes.{six_again}
use Rattle.ch11_merge.specs.declared.source.Head.TheVariants.{At}
use Rattle.ch11_merge.specs.Merging.{head_of_piece}
use Rattle.ch11_merge.specs.Merging.FilePiece.{OfFrames}
use Rattle.ch11_packet.specs.FramesRead.{first_reads}
use Rattle.ch11_packet.proofs.FirstFrames.{length-first_reads}
use Rattle.ch11_merge.specs.declared.piece.PieceSoFar.{PieceSoFar}
use Rattle.ch11_merge.specs.Pieces.{goes_on, with_frame, with_frames}
use Rattle.ch11_merge.specs.Short.{frames_len, FitPacket}
use Rattle.ch11_file.specs.CopiedFrames.{copied_frame, frames_body}
use Rattle.ch11_file.specs.HeldPieces.{copies_held, HoldsCopies, IsFramesBody}
use Rattle.ch11_file.proofs.CopiesRead.{held-copied, length-copies}

-- ---- which frames fit

frames_len-push : (frames : List ReadFrameData) (frame : ReadFrameData) → frames_len (frames ++ frame ∷ []) ≡ frames_len frames + frame_len (length frame.bytes)
frames_len-push [] frame = omega arith
frames_len-push (f ∷ fs) frame = omega (arith, frames_len-push fs frame)

len_with : (ahead : PieceSoFar) (frames : List ReadFrameData) → (with_frames ahead frames).len ≡ ahead.len + frames_len frames
len_with ahead [] = omega arith
len_with ahead (f ∷ fs) = omega (arith, len_with (with_frame ahead f) fs)

pub single_fits : (frame : ReadFrameData) → IsReadFrame frame → FitPacket (frame ∷ [])
single_fits frame is = let longest = is.longest in omega arith

pub further_fits : (ahead : PieceSoFar) (frames : List ReadFrameData) (frame : ReadFrameData) → data_len [] ≤ ahead.len
    → goes_on (with_frames ahead frames) frame ≡ true → FitPacket (frames ++ frame ∷ [])
further_fits ahead frames frame some on =
    let len = len_with ahead frames in
    let more = frames_len-push frames frame in
    grind (arith, nat_tests)

-- ---- a frame is added

pub length-held : (count : ℕ) (bytes : List ℕ) → length (copies_held count bytes) ≡ count
unfolding copies_held
length-held count bytes = length-first_reads count _

held-none : (bytes : List ℕ) → copies_held 0 bytes ≡ []
unfolding copies_held first_reads
held-none bytes = refl

-- no frames
pub none_open : (old bytes : List ℕ) → old ≡ [] → bytes ≡ old ++ to_le_bytes w32 0 → HoldsCopies 0 (copies_held 0 bytes) bytes
none_open old bytes none added =
    let are : bytes ≡ to_le_bytes w32 0 = added ∙ ap (λ l. l ++ to_le_bytes w32 0) none in
    record {
      bytes_are = rw (held-none bytes) are;
      in_range = rw (held-none bytes) (All-nil IsReadFrame);
      fits = rw are (omega arith);
    }

pub none_held : (bytes : List ℕ) → copies_held 0 bytes ≡ []
none_held bytes = held-none bytes

pub length-Holds : (word : ℕ) (frames : List ReadFrameData) (bytes : List ℕ) → HoldsCopies word frames bytes → length bytes ≡ 4 + frames_len frames
length-Holds word frames bytes holds =
    omega (arith, ap length holds.bytes_are, length-append (to_le_bytes w32 word) (flat_map copied_frame frames), length-copies frames)

-- each frame takes 12 bytes at least
few_copies : (frames : List ReadFrameData) → 12 * length frames ≤ frames_len frames
few_copies [] = omega arith
few_copies (f ∷ fs) = omega (arith, few_copies fs)

-- there are fewer frames than a body's word can say
pub few_held : (word count : ℕ) (bytes : List ℕ) → HoldsCopies word (copies_held count bytes) bytes → count + 1 < 2 ^ 16
few_held word count bytes holds =
    let size = length-Holds word (copies_held count bytes) bytes holds in
    let few = few_copies (copies_held count bytes) in
    let many = length-held count bytes in
    let fits = holds.fits in
    omega arith

-- a body of one frame more
pub record AddsCopy (count : ℕ) (old new : List ℕ) (frame : ReadFrameData) : Type 0 where
  pub holds : HoldsCopies 0 (copies_held (count + 1) new) new
  pub frames : copies_held (count + 1) new ≡ copies_held count old ++ frame ∷ []

pub adds_copy : (count : ℕ) (old new : List ℕ) (frame : ReadFrameData) → HoldsCopies 0 (copies_held count old) old → IsReadFrame frame
    → FitPacket (copies_held count old ++ frame ∷ []) → new ≡ old ++ copied_frame frame → AddsCopy count old new frame
adds_copy count old new frame holds is fits added =
    let fs = copies_held count old in
    let more = fs ++ frame ∷ [] in
    let are : new ≡ to_le_bytes w32 0 ++ flat_map copied_frame more =
    added ∙ ap (λ l. l ++ copied_frame frame) holds.bytes_are
    ∙ append_assoc (to_le_bytes w32 0) (flat_map copied_frame fs) (copied_frame frame)
    ∙ ap (λ l. to_le_bytes w32 0 ++ l) (ap (λ l. flat_map copied_frame fs ++ l) (sym (append-nil (copied_frame frame)))
    ∙ sym (flat_map-append copied_frame fs (frame ∷ []))) in
    let each : All IsReadFrame more = All-push IsReadFrame fs frame holds.in_range is in
    let many : count + 1 ≡ length more = omega (arith, length-append fs (frame ∷ []), length-held count old) in
    let found = held-copied 0 (count + 1) more new are each many in
    let size : length new ≡ 4 + frames_len more =
    omega (arith, ap length are, length-append (to_le_bytes w32 0) (flat_map copied_frame more), length-copies more) in
    let held : HoldsCopies 0 more new = record {
      bytes_are = are;
      in_range = each;
      fits = omega (arith, fits, size);
    } in
    record { holds = subst (λ (l : List ReadFrameData). HoldsCopies 0 l new) (sym found) held; frames = found }

-- ---- a sealed body

pub some_held : (count : ℕ) (bytes : List ℕ) → (copies_held count bytes ≡ [] → ⊥) → 0 < count
some_held zero bytes ne = absurd (ne (held-none bytes))
some_held (suc count) bytes ne = omega arith

word_of : (count : ℕ) (rest : List ℕ) → count < 2 ^ 16 → count % 256 ∷ count / 256 % 256 ∷ 0 ∷ 0 ∷ rest ≡ to_le_bytes w32 count ++ rest
word_of count rest lt =
    let a : 0 ≡ count / 65536 % 256 = omega arith in
    let b : 0 ≡ count / 16777216 % 256 = omega arith in
    ap (λ n. count % 256 ∷ count / 256 % 256 ∷ n ∷ 0 ∷ rest) a ∙ ap (λ n. count % 256 ∷ count / 256 % 256 ∷ count / 65536 % 256 ∷ n ∷ rest) b

-- the body with the number of its frames written into the first two bytes
pub record SealsCopies (count : ℕ) (old new : List ℕ) : Type 0 where
  pub is_sealed : IsFramesBody count new
  pub frames : copies_held count new ≡ copies_held count old

pub seals : (count : ℕ) (old new : List ℕ) → HoldsCopies 0 (copies_held count old) old → 0 < count
    → new ≡ slice_set (slice_set old 0 (count % 256)) 1 (count / 256 % 256) → SealsCopies count old new
seals count old new holds some written =
    let fs = copies_held count old in
    let few = few_held 0 count old holds in
    let rest = flat_map copied_frame fs in
    let are : new ≡ to_le_bytes w32 count ++ rest =
    written ∙ ap (λ l. slice_set (slice_set l 0 (count % 256)) 1 (count / 256 % 256)) holds.bytes_are ∙ word_of count rest (omega arith) in
    let found = held-copied count count fs new are holds.in_range (sym (length-held count old)) in
    let size : length new ≡ length old =
    omega (arith, ap length are, ap length holds.bytes_are, length-append (to_le_bytes w32 count) rest, length-append (to_le_bytes w32 0) rest) in
    let held : HoldsCopies count fs new = record {
      bytes_are = are;
      in_range = holds.in_range;
      fits = rw size holds.fits;
    } in
    record {
      is_sealed = record {
        holds = subst (λ (l : List ReadFrameData). HoldsCopies count l new) (sym found) held;
        some = some;
      };
      frames = found;
    }

-- ---- what contracts see of a sealed body

pub sealed_bytes : (count : ℕ) (bytes : List ℕ) (frames : List ReadFrameData) → IsFramesBody count bytes → copies_held count bytes ≡ frames
    → bytes ≡ frames_body frames
unfolding frames_body
sealed_bytes count bytes frames is e =
    is.holds.bytes_are ∙ ap (λ n. to_le_bytes w32 n ++ flat_map copied_frame (copies_held count bytes)) (sym (length-held count bytes))
    ∙ ap (λ (fs : List ReadFrameData). to_le_bytes w32 (length fs) ++ flat_map copied_frame fs) e

pub sealed_long : (count : ℕ) (bytes : List ℕ) → IsFramesBody count bytes → 16 ≤ length bytes
sealed_long count bytes is =
    let size = length-Holds count (copies_held count bytes) bytes is.holds in
    let few = few_copies (copies_held count bytes) in
    omega (arith, size, few, length-held count bytes, is.some)

-- the first frame's counter, behind the body's word
counter_behind : (place word : ℕ) (frames : List ReadFrameData) → All IsReadFrame frames → 0 < length frames
    → head_of_piece (OfFrames place frames) ≡ At (u48_at (to_le_bytes w32 word ++ flat_map copied_frame frames) 4)
unfolding copied_frame
counter_behind place word [] each some = absurd (omega (arith, some))
counter_behind place word (f ∷ fs) each some = ap At (sym (six_again f.counter (All-head IsReadFrame f fs each).counter))

pub sealed_first : (place count : ℕ) (bytes : List ℕ) (frames : List ReadFrameData) → IsFramesBody count bytes → copies_held count bytes ≡ frames
    → head_of_piece (OfFrames place frames) ≡ At (u48_at bytes 4)
sealed_first place count bytes frames is e =
    let held = copies_held count bytes in
    let some : 0 < length held = omega (arith, length-held count bytes, is.some) in
    subst (λ (fs : List ReadFrameData). head_of_piece (OfFrames place fs) ≡ At (u48_at bytes 4)) e
    (counter_behind place count held is.holds.in_range some ∙ ap (λ l. At (u48_at l 4)) (sym is.holds.bytes_are))
