-- Frames with other counters, in the bytes of a body.
use Rattle.std.proofs.Common.{ℕ, zero, suc, ◌≡◌, ◌+◌, ◌-◌, ◌^◌, ◌≤◌, ◌<◌, List, [], ◌∷◌, ◌++◌, length, map, take, drop, inl, inr}
use Rattle.std.proofs.Common.{refl, sym, ◌∙◌, ap, subst, arith, append_assoc, append-nil, length-append}
use Rattle.std.specs.Prelude.{min}
use Rattle.std.specs.Int.{w16, w32, to_le_bytes, bytes_low_first}
use Rattle.std.proofs.Props.{props}
use Rattle.std.proofs.Math.Logic.{∥∥₁_elim}
use Rattle.std.proofs.lemmas.List.{take_at, take_all, drop_all, take_min}
use Rattle.ch11_packet.specs.Frames.{frame_len}
use Rattle.ch11_packet.specs.FramesRead.{ReadFrameData, first_read, after_first, first_reads, read_word}
use Rattle.ch11_packet.specs.FramesRead.{SpellsFrame, IsFiller, FrameStandsFirst, BeginsFrames, AreFrames}
use Rattle.ch11_packet.proofs.FirstFrames.{IsFirst-StandsFirst, length-first_reads}
use Rattle.rec_joined.specs.MovedFrames.{HaveCounters, first_len, moved_bytes, moved_frame}

-- ---- the bytes of the first frame

spelling_len : (frame : ReadFrameData) (spelling : List ℕ) → SpellsFrame frame spelling → length spelling ≡ 12 + length frame.bytes
spelling_len frame spelling spelled = omega (arith, ap length spelled.whole)

front_of : (frame : ReadFrameData) (bytes more : List ℕ) (first : FrameStandsFirst frame bytes more)
    → bytes ≡ (first.spelling ++ first.filler) ++ more
front_of frame bytes more first = first.whole ∙ sym (append_assoc first.spelling first.filler more)

taken_first : (frame : ReadFrameData) (bytes more : List ℕ) (first : FrameStandsFirst frame bytes more)
    → IsFiller (length frame.bytes) first.filler more → take (frame_len (length frame.bytes)) bytes ≡ first.spelling ++ first.filler
taken_first frame bytes more first (inl whole) =
    let front = first.spelling ++ first.filler in
    ap (take (frame_len (length frame.bytes))) (front_of frame bytes more first)
    ∙ take_at front more (frame_len (length frame.bytes))
    (omega (arith, length-append first.spelling first.filler, spelling_len frame first.spelling first.spelled, whole))
taken_first frame bytes more first (inr missing) =
    let front = first.spelling ++ first.filler in
    let is : bytes ≡ front = front_of frame bytes more first ∙ ap (λ l. front ++ l) missing.1 ∙ append-nil front in
    take_all (frame_len (length frame.bytes)) bytes
    (omega (arith, ap length is, length-append first.spelling first.filler, spelling_len frame first.spelling first.spelled, ap length missing.0))
    ∙ is

-- it with another counter
abbrev pub respelled : (counter : ℕ) (frame : ReadFrameData) (unused spare : ℕ) → List ℕ
respelled counter frame unused spare =
    bytes_low_first 0 6 counter ++ to_le_bytes w16 unused ++ to_le_bytes w32 (read_word frame spare) ++ frame.bytes

moved_first : (counters : ℕ → ℕ) (count : ℕ) (frame : ReadFrameData) (bytes more : List ℕ) (first : FrameStandsFirst frame bytes more)
    → moved_bytes counters (suc count) bytes
    ≡ respelled (counters frame.counter) frame first.spelled.unused first.spelled.spare ++ (first.filler ++ moved_bytes counters count more)
unfolding moved_bytes
moved_first counters count frame bytes more first =
    let is = IsFirst-StandsFirst frame bytes more first in
    let c6 = bytes_low_first 0 6 (counters frame.counter) in
    let front = first.spelling ++ first.filler in
    let len : first_len bytes ≡ frame_len (length frame.bytes) = ap frame_len is.len_is in
    let taken : take (first_len bytes) bytes ≡ front = ap (λ n. take n bytes) len ∙ taken_first frame bytes more first first.filled in
    let behind : drop 6 front ≡ (to_le_bytes w16 first.spelled.unused ++ to_le_bytes w32 (read_word frame first.spelled.spare) ++ frame.bytes) ++ first.filler =
    ap (λ s. drop 6 (s ++ first.filler)) first.spelled.whole in
    ap (λ (f : ReadFrameData). bytes_low_first 0 6 (counters f.counter) ++ (drop 6 (take (first_len bytes) bytes)
    ++ moved_bytes counters count (drop (first_len bytes) bytes))) is.frame_is
    ∙ ap (λ l. c6 ++ (l ++ moved_bytes counters count (drop (first_len bytes) bytes))) (ap (drop 6) taken ∙ behind)
    ∙ ap (λ l. c6 ++ (((to_le_bytes w16 first.spelled.unused ++ to_le_bytes w32 (read_word frame first.spelled.spare) ++ frame.bytes) ++ first.filler)
    ++ moved_bytes counters count l)) is.more_is
    ∙ ap (λ l. c6 ++ l) (append_assoc (to_le_bytes w16 first.spelled.unused ++ to_le_bytes w32 (read_word frame first.spelled.spare) ++ frame.bytes)
    first.filler (moved_bytes counters count more))

-- ---- all frames

none_moved : (counters : ℕ → ℕ) (frames : List ReadFrameData) (bytes rest : List ℕ) → BeginsFrames frames bytes rest → bytes ≡ []
    → moved_bytes counters (length frames) bytes ≡ []
unfolding moved_bytes
none_moved counters [] bytes rest begins none = none
none_moved counters (f ∷ fs) bytes rest begins none =
    absurd (omega (arith, (IsFirst-StandsFirst f bytes begins.0 begins.1).long, ap length none))

filled_again : (counters : ℕ → ℕ) (len : ℕ) (filler : List ℕ) (frames : List ReadFrameData) (more rest : List ℕ) → BeginsFrames frames more rest
    → IsFiller len filler more → IsFiller len filler (moved_bytes counters (length frames) more)
filled_again counters len filler frames more rest begins (inl whole) = inl whole
filled_again counters len filler frames more rest begins (inr missing) =
    inr (missing.0, none_moved counters frames more rest begins missing.1)

-- the bytes of moved frames are the frames with their new counters
pub moved_begin : (counters : ℕ → ℕ) (frames : List ReadFrameData) (bytes rest : List ℕ) → BeginsFrames frames bytes rest
    → HaveCounters counters frames → BeginsFrames (map (moved_frame counters) frames) (moved_bytes counters (length frames) bytes) rest
unfolding moved_bytes
moved_begin counters [] bytes rest begins fit = begins
moved_begin counters (f ∷ fs) bytes rest begins fit =
    let first = begins.1 in
    let spelled = first.spelled in
    let range = spelled.in_range in (
      moved_bytes counters (length fs) begins.0,
      record {
        spelling = respelled (counters f.counter) f spelled.unused spelled.spare;
        filler = first.filler;
        spelled = record {
          in_range = record {
            counter = fit.0;
            net = range.net;
            speed = range.speed;
            content = range.content;
            longest = range.longest;
          };
          unused = spelled.unused;
          spare = spelled.spare;
          spare_fits = spelled.spare_fits;
          whole = refl;
        };
        filled = filled_again counters (length f.bytes) first.filler fs begins.0 rest begins.2 first.filled;
        whole = moved_first counters (length fs) f bytes begins.0 first;
      },
      moved_begin counters fs begins.0 rest begins.2 fit.1,
    )

-- they are as many
pub moved_len : (counters : ℕ → ℕ) (frames : List ReadFrameData) (bytes rest : List ℕ) → BeginsFrames frames bytes rest
    → length (moved_bytes counters (length frames) bytes) ≡ length bytes
unfolding moved_bytes
moved_len counters [] bytes rest begins = refl
moved_len counters (f ∷ fs) bytes rest begins =
    let first = begins.1 in
    let spelled = first.spelled in
    let next = moved_bytes counters (length fs) begins.0 in
    omega (
      arith,
      ap length (moved_first counters (length fs) f bytes begins.0 first),
      length-append f.bytes (first.filler ++ next),
      length-append first.filler next,
      moved_len counters fs begins.0 rest begins.2,
      ap length first.whole,
      length-append first.spelling (first.filler ++ begins.0),
      length-append first.filler begins.0,
      spelling_len f first.spelling spelled,
    )

-- ---- frame by frame

-- what is left of some frames behind the first, and how the first is moved
pub record IsStep (counters : ℕ → ℕ) (left : ℕ) (rest : List ℕ) (frame : ReadFrameData) (end : ℕ) : Type 0 where
  pub least : 6 ≤ end
  pub within : end ≤ length rest
  pub moved : moved_bytes counters left rest
      ≡ bytes_low_first 0 6 (counters frame.counter) ++ (drop 6 (take end rest) ++ moved_bytes counters (left - 1) (drop end rest))
  pub first : first_reads left rest ≡ frame ∷ first_reads (left - 1) (drop end rest)
  pub others : ∥ AreFrames (left - 1) (drop end rest) ∥₁

drop_min : (n : ℕ) (xs : List ℕ) → drop (min n (length xs)) xs ≡ drop n xs
drop_min zero xs = let on : min zero (length xs) ≡ zero = omega arith in ap (λ k. drop k xs) on
drop_min (suc n) [] = drop_all (min (suc n) 0) [] (omega arith) ∙ sym (drop_all (suc n) [] (omega arith))
drop_min (suc n) (x ∷ xs) =
    let on : min (suc n) (length (x ∷ xs)) ≡ suc (min n (length xs)) = omega arith in ap (λ k. drop k (x ∷ xs)) on ∙ drop_min n xs

reads_again : (count : ℕ) (bytes : List ℕ) → first_reads (suc count) bytes ≡ first_read bytes ∷ first_reads count (after_first bytes)
unfolding first_reads
reads_again count bytes = refl

moved_again : (counters : ℕ → ℕ) (count : ℕ) (bytes : List ℕ) → moved_bytes counters (suc count) bytes
    ≡ bytes_low_first 0 6 (counters (first_read bytes).counter)
    ++ (drop 6 (take (first_len bytes) bytes) ++ moved_bytes counters count (drop (first_len bytes) bytes))
unfolding moved_bytes
moved_again counters count bytes = refl

same_head : {A : Type 0} (x y : A) (xs ys : List A) → x ∷ xs ≡ y ∷ ys → x ≡ y
same_head x y xs ys is = cc

first_step : (counters : ℕ → ℕ) (count : ℕ) (rest after : List ℕ) (frame : ReadFrameData) → AreFrames (suc count) rest
    → first_reads (suc count) rest ≡ frame ∷ first_reads count after
    → IsStep counters (suc count) rest frame (min (frame_len (length frame.bytes)) (length rest))
first_step counters count rest after frame are is =
    let begins : BeginsFrames (first_read rest ∷ first_reads count (after_first rest)) rest [] =
    subst (λ l. BeginsFrames l rest []) (reads_again count rest) are in
    let a = IsFirst-StandsFirst (first_read rest) rest begins.0 begins.1 in
    let same : first_read rest ≡ frame = same_head _ _ _ _ (sym (reads_again count rest) ∙ is) in
    let end = min (frame_len (length frame.bytes)) (length rest) in
    let len : first_len rest ≡ frame_len (length frame.bytes) = ap frame_len (a.len_is ∙ ap (λ (f : ReadFrameData). length f.bytes) same) in
    let long = a.long in
    let bytes = ap (λ (f : ReadFrameData). length f.bytes) same in
    let there : drop end rest ≡ after_first rest = drop_min (frame_len (length frame.bytes)) rest ∙ ap (λ n. drop n rest) (sym len) in
    let one : suc count - 1 ≡ count = omega arith in
    record {
      least = omega (arith, long, bytes);
      within = omega arith;
      moved = moved_again counters count rest
          ∙ ap (λ (f : ReadFrameData). bytes_low_first 0 6 (counters f.counter) ++ (drop 6 (take (first_len rest) rest)
          ++ moved_bytes counters count (drop (first_len rest) rest))) same
          ∙ ap (λ l. bytes_low_first 0 6 (counters frame.counter) ++ (drop 6 l ++ moved_bytes counters count (drop (first_len rest) rest)))
          (ap (λ n. take n rest) len ∙ sym (take_min (frame_len (length frame.bytes)) rest))
          ∙ ap (λ l. bytes_low_first 0 6 (counters frame.counter) ++ (drop 6 (take end rest) ++ moved_bytes counters count l)) (sym there)
          ∙ ap (λ n. bytes_low_first 0 6 (counters frame.counter) ++ (drop 6 (take end rest) ++ moved_bytes counters n (drop end rest))) (sym one);
      first = reads_again count rest
          ∙ ap (λ f. f ∷ first_reads count (after_first rest)) same
          ∙ ap (λ l. frame ∷ first_reads count l) (sym there) ∙ ap (λ n. frame ∷ first_reads n (drop end rest)) (sym one);
      others = ∣ subst (λ n. AreFrames n (drop end rest)) (sym one) (subst (AreFrames count) (sym there)
          (subst (λ l. BeginsFrames (first_reads count (after_first rest)) l []) (sym a.more_is) begins.2)) ∣₁;
    }

any_step : (counters : ℕ → ℕ) (left : ℕ) (rest after : List ℕ) (frame : ReadFrameData) → 0 < left → AreFrames left rest
    → first_reads left rest ≡ frame ∷ first_reads (left - 1) after → IsStep counters left rest frame (min (frame_len (length frame.bytes)) (length rest))
any_step counters zero rest after frame some are is = absurd (omega arith)
any_step counters (suc count) rest after frame some are is =
    let one : suc count - 1 ≡ count = omega arith in
    first_step counters count rest after frame are (is ∙ ap (λ n. frame ∷ first_reads n after) one)

pub step : (counters : ℕ → ℕ) (left : ℕ) (rest after : List ℕ) (frame : ReadFrameData) → 0 < left → ∥ AreFrames left rest ∥₁
    → first_reads left rest ≡ frame ∷ first_reads (left - 1) after → IsStep counters left rest frame (min (frame_len (length frame.bytes)) (length rest))
step counters left rest after frame some are is = record {
  least = ∥∥₁_elim are (hlevel props) (λ are. (any_step counters left rest after frame some are is).least);
  within = ∥∥₁_elim are (hlevel props) (λ are. (any_step counters left rest after frame some are is).within);
  moved = ∥∥₁_elim are (hlevel props) (λ are. (any_step counters left rest after frame some are is).moved);
  first = ∥∥₁_elim are (hlevel props) (λ are. (any_step counters left rest after frame some are is).first);
  others = ∥∥₁_elim are (hlevel props) (λ are. (any_step counters left rest after frame some are is).others);
}

-- ---- what was added so far

-- with the bytes of the frames that are left, these are those of all
pub record IsAdded (counters : ℕ → ℕ) (old : List ℕ) (count : ℕ) (bytes out : List ℕ) (left : ℕ) (rest : List ℕ) : Type 0 where
  pub whole : out ++ moved_bytes counters left rest ≡ old ++ moved_bytes counters count bytes
  pub held : ∥ AreFrames left rest ∥₁
  pub fit : HaveCounters counters (first_reads left rest) → HaveCounters counters (first_reads count bytes)
  pub others : HaveCounters counters (first_reads count bytes) → HaveCounters counters (first_reads left rest)

pub added_more : (counters : ℕ → ℕ) (old : List ℕ) (count : ℕ) (bytes out more : List ℕ) (left : ℕ) (rest : List ℕ) (frame : ReadFrameData) (end : ℕ)
    → IsAdded counters old count bytes out left rest → IsStep counters left rest frame end → counters frame.counter < 2 ^ 48
    → more ≡ (out ++ bytes_low_first 0 6 (counters frame.counter)) ++ drop 6 (take end rest)
    → IsAdded counters old count bytes more (left - 1) (drop end rest)
added_more counters old count bytes out more left rest frame end so step fits is =
    let c6 = bytes_low_first 0 6 (counters frame.counter) in
    let part = drop 6 (take end rest) in
    let others = moved_bytes counters (left - 1) (drop end rest) in
    record {
      whole = ap (λ l. l ++ others) is ∙ append_assoc (out ++ c6) part others ∙ append_assoc out c6 (part ++ others)
          ∙ ap (λ l. out ++ l) (sym step.moved) ∙ so.whole;
      held = step.others;
      fit = λ fit. so.fit (subst (HaveCounters counters) (sym step.first) (fits, fit));
      others = λ all. (subst (HaveCounters counters) step.first (so.others all)).1;
    }

no_rest : (rest : List ℕ) → AreFrames 0 rest → rest ≡ []
unfolding first_reads
no_rest rest are = are

none_left : (counters : ℕ → ℕ) (rest : List ℕ) → AreFrames 0 rest → moved_bytes counters 0 rest ≡ []
unfolding moved_bytes
none_left counters rest are = no_rest rest are

no_count : (left : ℕ) (rest : List ℕ) → first_reads left rest ≡ [] → left ≡ 0
no_count left rest none = sym (length-first_reads left rest) ∙ ap length none

pub added_all : (counters : ℕ → ℕ) (old : List ℕ) (count : ℕ) (bytes out : List ℕ) (left : ℕ) (rest : List ℕ)
    → IsAdded counters old count bytes out left rest → first_reads left rest ≡ []
    → (out ≡ old ++ moved_bytes counters count bytes) × HaveCounters counters (first_reads count bytes)
added_all counters old count bytes out left rest so none = (
  ∥∥₁_elim so.held (hlevel props) (λ are.
      sym (append-nil out) ∙ ap (λ l. out ++ l) (sym (none_left counters rest (subst (λ n. AreFrames n rest) (no_count left rest none) are)))
      ∙ ap (λ n. out ++ moved_bytes counters n rest) (sym (no_count left rest none)) ∙ so.whole),
  so.fit (subst (HaveCounters counters) (sym none) tt),
)
