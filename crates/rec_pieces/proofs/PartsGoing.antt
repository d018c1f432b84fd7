-- The frames that are taken one by one from the bytes of a packet.
use Rattle.std.proofs.Common.{ℕ, suc, zero, ◌+◌, ◌-◌, ◌^◌, ◌≡◌, ◌≤◌, ◌<◌, List, [], ◌∷◌, ◌++◌, length, take, drop}
use Rattle.std.proofs.Common.{sym, ◌∙◌, ap, subst, arith, Some, true}
use Rattle.std.specs.Prelude.{slice_get}
use Rattle.std.proofs.lemmas.List.{take_more, drop-drop, length-drop}
use Rattle.std.proofs.lemmas.Option.{slice_get_within, get_or_from_slice_get}
use Rattle.std.proofs.lemmas.Bool.Decides.{nat_tests}
use Rattle.ch11_packet.specs.declared.header.TheConstants.{MAX_ETHERNET_PACKET_LEN}
use Rattle.ch11_packet.specs.FramesRead.{ReadFrameData, first_reads}
use Rattle.ch11_merge.specs.declared.piece.PieceSoFar.{PieceSoFar}
use Rattle.ch11_merge.specs.Pieces.{goes_on, with_frame, with_frames}
use Rattle.ch11_merge.specs.Merging.FilePiece.{OfFrames}
use Rattle.ch11_merge.specs.Parts.{IsPartOf}
use Rattle.ch11_merge.proofs.PartsTaken.{IsPartSoFar, first_part, part_more, fits_body}
use Rattle.ch11_file.specs.OwnedPieces.{owned_data}
use Rattle.rec_pieces.specs.declared.part.PartTaken.{PartTaken}
use Rattle.rec_pieces.specs.BodiesSoFar.{IsBodySoFar}
use Rattle.rec_pieces.specs.Parts.{IsPartTaken}

-- ---- ends of lists

pub suffix_of : (all rest after : List ℕ) → rest ≡ drop (length all - length rest) all → after ≡ drop (length rest - length after) rest
    → after ≡ drop (length all - length after) all
suffix_of all rest after first second =
    let a : length rest ≤ length all = omega (arith, ap length first, length-drop (length all - length rest) all) in
    let b : length after ≤ length rest = omega (arith, ap length second, length-drop (length rest - length after) rest) in
    second ∙ ap (drop (length rest - length after)) first ∙ drop-drop (length rest - length after) (length all - length rest) all
    ∙ ap (λ n. drop n all) (omega (arith, a, b))

dropped_get : {A : Type 0} (xs : List A) (k : ℕ) (x : A) (more : List A) → drop k xs ≡ x ∷ more → slice_get xs k ≡ Some x
dropped_get xs zero x more is = ap (λ l. slice_get l 0) is
dropped_get [] (suc k) x more is = absurd (omega (arith, ap length is))
dropped_get (y ∷ ys) (suc k) x more is = dropped_get ys k x more is

dropped_more : {A : Type 0} (xs : List A) (k : ℕ) (x : A) (more : List A) → drop k xs ≡ x ∷ more → drop (k + 1) xs ≡ more
dropped_more xs k x more is = ap (λ n. drop n xs) (omega arith) ∙ sym (drop-drop 1 k xs) ∙ ap (drop 1) is

-- ---- frame by frame

-- the first frames were taken, and these are left
pub record IsGoing (tick : ℕ) (ahead : PieceSoFar) (count : ℕ) (bytes : List ℕ) (left : ℕ) (rest : List ℕ) (piece : PieceSoFar)
    (built : List ReadFrameData) : Type 0 where
  pub taken : ℕ
  pub part : IsPartSoFar tick ahead (first_reads count bytes) taken piece
  pub built_are : built ≡ take taken (first_reads count bytes)
  pub left_are : first_reads left rest ≡ drop taken (first_reads count bytes)
  pub end : rest ≡ drop (length bytes - length rest) bytes
  pub short : piece.len < 2 ^ 32

pub begins : (tick : ℕ) (ahead : PieceSoFar) (count : ℕ) (bytes : List ℕ) (left : ℕ) (rest : List ℕ) (frame : ReadFrameData)
    (built : List ReadFrameData) → IsBodySoFar ahead → length frame.bytes < 2 ^ 14
    → first_reads count bytes ≡ frame ∷ first_reads left rest → rest ≡ drop (length bytes - length rest) bytes → built ≡ frame ∷ []
    → IsGoing tick ahead count bytes left rest (with_frame ahead frame) built
begins tick ahead count bytes left rest frame built body longest first end is = record {
  taken = 1;
  part = first_part tick ahead (first_reads count bytes) frame (ap (λ l. slice_get l 0) first);
  built_are = is ∙ ap (take 1) (sym first);
  left_are = sym (ap (drop 1) first);
  end = end;
  short = let fits = body.1 in omega arith;
}

pub goes_further : (tick : ℕ) (ahead : PieceSoFar) (count : ℕ) (bytes : List ℕ) (left next : ℕ) (rest after : List ℕ) (piece : PieceSoFar)
    (frame : ReadFrameData) (old built : List ReadFrameData) → IsGoing tick ahead count bytes left rest piece old
    → first_reads left rest ≡ frame ∷ first_reads next after → after ≡ drop (length rest - length after) rest
    → goes_on piece frame ≡ true → frame.counter < tick → built ≡ old ++ frame ∷ []
    → IsGoing tick ahead count bytes next after (with_frame piece frame) built
goes_further tick ahead count bytes left next rest after piece frame old built had first end on early is =
    let all = first_reads count bytes in
    let there : slice_get all had.taken ≡ Some frame = dropped_get all had.taken frame (first_reads next after) (sym had.left_are ∙ first) in
    let within : had.taken < length all = slice_get_within all had.taken frame there in
    record {
      taken = had.taken + 1;
      part = part_more tick ahead all had.taken piece frame had.part there on early;
      built_are = is ∙ ap (λ l. l ++ frame ∷ []) had.built_are
          ∙ sym (take_more all had.taken frame within
          ∙ ap (λ (x : ReadFrameData). take had.taken all ++ x ∷ []) (get_or_from_slice_get all had.taken frame frame there));
      left_are = sym (dropped_more all had.taken frame (first_reads next after) (sym had.left_are ∙ first));
      end = suffix_of bytes rest after had.end end;
      short = fits_body piece frame on;
    }

len_with : (ahead : PieceSoFar) (frames : List ReadFrameData) → ahead.len ≤ (with_frames ahead frames).len
len_with ahead [] = omega arith
len_with ahead (f ∷ fs) = omega (arith, len_with (with_frame ahead f) fs)

fits_before : (piece : PieceSoFar) (frame : ReadFrameData) → goes_on piece frame ≡ true → piece.len ≤ MAX_ETHERNET_PACKET_LEN
fits_before piece frame on = grind (arith, nat_tests)

-- a further frame fits the packet
pub ahead_of : (tick : ℕ) (ahead : PieceSoFar) (frames : List ReadFrameData) (k : ℕ) (piece : PieceSoFar) → IsPartSoFar tick ahead frames k piece
    → with_frames ahead (take k frames) ≡ piece
ahead_of tick ahead frames k piece so =
    ap (λ l. with_frames ahead (take k l)) so.all ∙ ap (λ n. with_frames ahead (take n (so.frame ∷ so.more))) so.len_is ∙ so.ends

pub goes_on_built : (tick : ℕ) (ahead : PieceSoFar) (count : ℕ) (bytes : List ℕ) (left : ℕ) (rest : List ℕ) (piece : PieceSoFar)
    (frame : ReadFrameData) (built : List ReadFrameData) → IsGoing tick ahead count bytes left rest piece built → goes_on piece frame ≡ true
    → goes_on (with_frames ahead built) frame ≡ true
goes_on_built tick ahead count bytes left rest piece frame built had on =
    ap (λ l. goes_on (with_frames ahead l) frame) had.built_are
    ∙ ap (λ (p : PieceSoFar). goes_on p frame) (ahead_of tick ahead (first_reads count bytes) had.taken piece had.part) ∙ on

-- the piece so far, where a frame that goes on with it lies behind the tick
pub late_body : (tick : ℕ) (ahead : PieceSoFar) (count : ℕ) (bytes : List ℕ) (left : ℕ) (rest : List ℕ) (piece : PieceSoFar)
    (frame : ReadFrameData) (built : List ReadFrameData) → IsBodySoFar ahead → IsGoing tick ahead count bytes left rest piece built
    → goes_on piece frame ≡ true → IsBodySoFar piece
late_body tick ahead count bytes left rest piece frame built body had on =
    let so = had.part in
    let len = len_with ahead (take had.taken (first_reads count bytes)) in
    let is = ap (λ (p : PieceSoFar). p.len) (ahead_of tick ahead (first_reads count bytes) had.taken piece so) in
    let least = body.0 in
    (omega (arith, len, is, least), fits_before piece frame on)

-- ---- the part

ends_by : (tick place : ℕ) (ahead next : PieceSoFar) (count : ℕ) (bytes : List ℕ) (left : ℕ) (rest : List ℕ) (piece : PieceSoFar)
    (built : List ReadFrameData) (part : PartTaken) (had : IsGoing tick ahead count bytes left rest piece built)
    → IsPartOf tick ahead (first_reads count bytes) had.taken next
    → owned_data part.piece ≡ OfFrames place built → part.count ≡ left → part.len ≡ length rest → part.ahead ≡ next
    → IsPartTaken tick place ahead count bytes part
ends_by tick place ahead next count bytes left rest piece built part had is whole c l a = record {
  taken = had.taken;
  is_part = subst (λ p. IsPartOf tick ahead (first_reads count bytes) had.taken p) (sym a) is;
  piece = whole ∙ ap (OfFrames place) had.built_are;
  within = omega (arith, l, ap length had.end, length-drop (length bytes - length rest) bytes);
  left = ap (λ n. first_reads n (drop (length bytes - part.len) bytes)) c
      ∙ ap (λ n. first_reads left (drop (length bytes - n) bytes)) l ∙ ap (first_reads left) (sym had.end) ∙ had.left_are;
}

all_taken : {A : Type 0} (xs : List A) (k : ℕ) → drop k xs ≡ [] → k ≤ length xs → k ≡ length xs
all_taken xs k none within = omega (arith, ap length none, length-drop k xs)
