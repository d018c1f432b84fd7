-- What is taken of the first piece of frames, and what is left.
use Rattle.std.proofs.Common.{ℕ, suc, zero, ◌+◌, ◌^◌, ◌≡◌, ◌≤◌, ◌<◌, inl, inr, List, [], ◌∷◌, ◌++◌, length, take, drop}
use Rattle.std.proofs.Common.{refl, sym, ◌∙◌, ap, subst, arith, Some}
use Rattle.std.specs.Prelude.{Bool, true, false, nat_le, nat_lt, if◌then◌else◌, ◌&&◌, slice_get}
use Rattle.std.proofs.lemmas.Bool.{cases_Bool, and_parts, and_left, cond-true, cond-false, true≢false, lt-ltb, leb-false, and_from}
use Rattle.std.proofs.lemmas.Bool.Decides.{nat_tests}
use Rattle.std.proofs.lemmas.List.{take_more}
use Rattle.std.proofs.lemmas.Option.{same_Some, none-some, slice_get_within, get_or_from_slice_get}
use Rattle.std.proofs.Math.Seq.{drop-cons}
use Rattle.ch11_packet.specs.declared.header.TheConstants.{MAX_ETHERNET_PACKET_LEN}
use Rattle.ch11_packet.specs.Frames.{frame_len}
use Rattle.ch11_packet.specs.FramesRead.{ReadFrameData}
use Rattle.ch11_packet.specs.PacketLen.{written_len}
use Rattle.ch11_packet.specs.Profiles.Profile.{WithSum}
use Rattle.ch11_merge.specs.declared.piece.TheConstants.{PIECE_TICKS}
use Rattle.ch11_merge.specs.declared.piece.PieceSoFar.{PieceSoFar}
use Rattle.ch11_merge.specs.Pieces.{goes_on, piece_before, with_frame, with_frames}
use Rattle.ch11_merge.specs.Merging.{head_of, is_due, frames_before, frames_from, piece_of, TakesPart}
use Rattle.ch11_merge.specs.Merging.FilePiece.{OfFrames}
use Rattle.ch11_merge.specs.Parts.{cut_behind, pieces_left, goes_with, GoWith, Stays, IsPart, IsPartOf}

-- what is split of the frames behind a piece so far
record IsSplit (tick place : ℕ) (piece next : PieceSoFar) (frames taken left : List ReadFrameData) : Type 0 where
  pub before : frames_before tick (cut_behind place piece frames).0 ≡ taken
  pub from : piece_of place (frames_from tick (cut_behind place piece frames).0) ++ (cut_behind place piece frames).1 ≡ pieces_left place next left

still_late : (a b : Bool) → a ≡ true → (a && b) ≡ false → b ≡ false
still_late true b on both = both
still_late false b on both = absurd (true≢false (sym on))

split_here : (tick place : ℕ) (piece next : PieceSoFar) (frames : List ReadFrameData) → Stays tick piece frames next
    → IsSplit tick place piece next frames [] frames
split_here tick place piece next [] s = record { before = refl; from = refl }
split_here tick place piece next (f ∷ fs) s = elim (cases_Bool (goes_on piece f)) as (λ _. IsSplit tick place piece next (f ∷ fs) [] (f ∷ fs)) [
  | inl on ↦
      let late : nat_lt f.counter tick ≡ false = still_late (goes_on piece f) (nat_lt f.counter tick) on s.0 in
      let same : next ≡ piece = s.1 ∙ cond-true (goes_on piece f) piece (piece_before f.counter) on in
      record { before = rw (on, late) refl; from = rw (on, late, same) refl }
  | inr off ↦
      let same : next ≡ piece_before f.counter = s.1 ∙ cond-false (goes_on piece f) piece (piece_before f.counter) off in
      record { before = rw off refl; from = rw (off, same) refl }
]

split_at : (tick place : ℕ) (piece next : PieceSoFar) (frames : List ReadFrameData) (len : ℕ) → len ≤ length frames → GoWith tick piece (take len frames)
    → Stays tick (with_frames piece (take len frames)) (drop len frames) next → IsSplit tick place piece next frames (take len frames) (drop len frames)
split_at tick place piece next frames zero within go s = split_here tick place piece next frames s
split_at tick place piece next [] (suc len) within go s = absurd (omega arith)
split_at tick place piece next (f ∷ fs) (suc len) within go s =
    let rest = split_at tick place (with_frame piece f) next fs len (omega arith) go.1 s in
    let parts = and_parts (goes_on piece f) (nat_lt f.counter tick) go.0 in
    record {
      before = rw (parts.0, parts.1) (ap (λ (xs : List ReadFrameData). f ∷ xs) rest.before);
      from = rw (parts.0, parts.1) rest.from;
    }

-- the part is taken of the pieces
part_taken : (tick place : ℕ) (ahead next : PieceSoFar) (f : ReadFrameData) (fs : List ReadFrameData) (len : ℕ) → nat_lt f.counter tick ≡ true
    → IsPart tick (with_frame ahead f) fs len next
    → TakesPart tick (pieces_left place ahead (f ∷ fs)) (OfFrames place (f ∷ take len fs)) (pieces_left place next (drop len fs))
part_taken tick place ahead next f fs len early p =
    let s = split_at tick place (with_frame ahead f) next fs len p.within p.go p.stays in
    (rw (early, s.before) refl, rw early (sym s.from))

-- ---- the code

-- the first k frames go out together, and are this piece so far
pub record IsPartSoFar (tick : ℕ) (ahead : PieceSoFar) (frames : List ReadFrameData) (k : ℕ) (piece : PieceSoFar) : Type 0 where
  pub frame : ReadFrameData
  pub more : List ReadFrameData
  pub all : frames ≡ frame ∷ more
  pub len : ℕ
  pub len_is : k ≡ suc len
  pub within : len ≤ length more
  pub go : GoWith tick (with_frame ahead frame) (take len more)
  pub ends : with_frames (with_frame ahead frame) (take len more) ≡ piece

goes_with_last : (tick : ℕ) (piece : PieceSoFar) (xs : List ReadFrameData) (f : ReadFrameData) → GoWith tick piece xs
    → goes_with tick (with_frames piece xs) f ≡ true → GoWith tick piece (xs ++ f ∷ [])
goes_with_last tick piece [] f g on = (on, tt)
goes_with_last tick piece (x ∷ xs) f g on = (g.0, goes_with_last tick (with_frame piece x) xs f g.1 on)

with_last : (piece : PieceSoFar) (xs : List ReadFrameData) (f : ReadFrameData) → with_frames piece (xs ++ f ∷ []) ≡ with_frame (with_frames piece xs) f
with_last piece [] f = refl
with_last piece (x ∷ xs) f = with_last (with_frame piece x) xs f

pub first_part : (tick : ℕ) (ahead : PieceSoFar) (frames : List ReadFrameData) (f : ReadFrameData) → slice_get frames 0 ≡ Some f
    → IsPartSoFar tick ahead frames 1 (with_frame ahead f)
first_part tick ahead [] f is = absurd (none-some f is)
first_part tick ahead (x ∷ xs) f is = record {
  frame = x;
  more = xs;
  all = refl;
  len = 0;
  len_is = refl;
  within = omega arith;
  go = tt;
  ends = ap (with_frame ahead) (same_Some x f is);
}

more_part : (tick : ℕ) (ahead : PieceSoFar) (frames : List ReadFrameData) (k : ℕ) (piece : PieceSoFar) (f : ReadFrameData)
    → IsPartSoFar tick ahead frames k piece → slice_get frames k ≡ Some f → goes_with tick piece f ≡ true
    → IsPartSoFar tick ahead frames (k + 1) (with_frame piece f)
more_part tick ahead frames k piece f so is on =
    let there : slice_get so.more so.len ≡ Some f = subst (λ xs. slice_get xs (suc so.len) ≡ Some f) so.all
    (subst (λ n. slice_get frames n ≡ Some f) so.len_is is) in
    let within : so.len < length so.more = slice_get_within so.more so.len f there in
    let e : take (so.len + 1) so.more ≡ take so.len so.more ++ f ∷ [] =
    take_more so.more so.len f within ∙ ap (λ (x : ReadFrameData). take so.len so.more ++ x ∷ []) (get_or_from_slice_get so.more so.len f f there) in
    record {
      frame = so.frame;
      more = so.more;
      all = so.all;
      len = so.len + 1;
      len_is = omega (arith, so.len_is);
      within = omega arith;
      go = rw e (goes_with_last tick (with_frame ahead so.frame) (take so.len so.more) f so.go (rw so.ends on));
      ends = rw e (with_last (with_frame ahead so.frame) (take so.len so.more) f ∙ ap (λ (p : PieceSoFar). with_frame p f) so.ends);
    }

part_of_parts : (tick : ℕ) (ahead : PieceSoFar) (frames : List ReadFrameData) (k : ℕ) (next : PieceSoFar) (f : ReadFrameData) (fs : List ReadFrameData)
    (len : ℕ)
    → frames ≡ f ∷ fs → k ≡ suc len → IsPart tick (with_frame ahead f) fs len next → IsPartOf tick ahead frames k next
part_of_parts tick ahead frames k next f fs len e l p = rw (e, l) p

part_here : (tick : ℕ) (ahead : PieceSoFar) (frames : List ReadFrameData) (k : ℕ) (piece next : PieceSoFar) (f : ReadFrameData)
    → IsPartSoFar tick ahead frames k piece → slice_get frames k ≡ Some f → goes_with tick piece f ≡ false
    → next ≡ (if goes_on piece f then piece else piece_before f.counter) → IsPartOf tick ahead frames k next
part_here tick ahead frames k piece next f so is off n =
    let there : slice_get so.more so.len ≡ Some f = subst (λ xs. slice_get xs (suc so.len) ≡ Some f) so.all
    (subst (λ m. slice_get frames m ≡ Some f) so.len_is is) in
    let within : so.len < length so.more = slice_get_within so.more so.len f there in
    part_of_parts tick ahead frames k next so.frame so.more so.len so.all so.len_is (record {
      within = so.within;
      go = so.go;
      stays = rw (so.ends, drop-cons so.more so.len f, get_or_from_slice_get so.more so.len f f there) (off, n);
    })

short_body : (d : ℕ) → nat_le (written_len WithSum d) MAX_ETHERNET_PACKET_LEN ≡ true → d < 2 ^ 32
short_body d fits = grind (arith, nat_tests)

-- the body of a piece with a frame that goes on is short
pub fits_body : (piece : PieceSoFar) (f : ReadFrameData) → goes_on piece f ≡ true → (with_frame piece f).len < 2 ^ 32
fits_body piece f on = short_body (piece.len + frame_len (length f.bytes))
    (and_parts (nat_le piece.last f.counter && nat_lt f.counter (piece.first + PIECE_TICKS))
    (nat_le (written_len WithSum (piece.len + frame_len (length f.bytes))) MAX_ETHERNET_PACKET_LEN) on).1

-- what is taken of the pieces of frames, and what is left
pub taken_of : (tick place : ℕ) (ahead next : PieceSoFar) (frames : List ReadFrameData) (len : ℕ) (taken left : List ReadFrameData)
    → is_due tick (head_of (pieces_left place ahead frames)) ≡ false → IsPartOf tick ahead frames len next → taken ≡ take len frames → left ≡ drop len frames
    → TakesPart tick (pieces_left place ahead frames) (OfFrames place taken) (pieces_left place next left)
taken_of tick place ahead next [] len taken left early p e f = absurd p
taken_of tick place ahead next (x ∷ xs) zero taken left early p e f = absurd p
taken_of tick place ahead next (x ∷ xs) (suc len) taken left early p e f =
    rw (e, f) (part_taken tick place ahead next x xs len (lt-ltb x.counter tick (leb-false tick x.counter early)) p)

-- the next frame begins another piece
pub part_cut : (tick : ℕ) (ahead : PieceSoFar) (frames : List ReadFrameData) (k : ℕ) (piece : PieceSoFar) (f : ReadFrameData)
    → IsPartSoFar tick ahead frames k piece → slice_get frames k ≡ Some f → goes_on piece f ≡ false → IsPartOf tick ahead frames k (piece_before f.counter)
part_cut tick ahead frames k piece f so is off =
    part_here tick ahead frames k piece (piece_before f.counter) f so is (and_left (goes_on piece f) (nat_lt f.counter tick) off)
    (sym (cond-false (goes_on piece f) piece (piece_before f.counter) off))

pub part_more : (tick : ℕ) (ahead : PieceSoFar) (frames : List ReadFrameData) (k : ℕ) (piece : PieceSoFar) (f : ReadFrameData)
    → IsPartSoFar tick ahead frames k piece → slice_get frames k ≡ Some f → goes_on piece f ≡ true → f.counter < tick
    → IsPartSoFar tick ahead frames (k + 1) (with_frame piece f)
part_more tick ahead frames k piece f so is on early =
    more_part tick ahead frames k piece f so is (and_from (goes_on piece f) (nat_lt f.counter tick) on (lt-ltb f.counter tick early))
