-- The frames that stand at the front of a body's bytes: they are the ones that are read there, and
-- no others.
use Rattle.std.proofs.Common.{◌≡◌, ℕ, zero, suc, ◌+◌, ◌-◌, ◌*◌, ◌/◌, ◌%◌, ◌^◌, ◌<◌, ◌≤◌, inl, inr, Bool, true, false, cond}
use Rattle.std.proofs.Common.{eqb, List, [], ◌∷◌, ◌++◌, length, take, drop, refl, sym, ap, subst, ◌∙◌, arith}
use Rattle.std.proofs.Props.{props}
use Rattle.std.proofs.Math.Logic.{∥∥₁_elim}
use Rattle.std.specs.Int.{w16, w32, to_le_bytes, bytes_low_first}
use Rattle.std.proofs.lemmas.Nat.{from_le_bytes-to_le_bytes_4}
use Rattle.std.proofs.lemmas.List.{append_assoc, length-append, take_at, drop_at, drop-drop, drop_all}
use Rattle.ch11_packet.specs.declared.frames.word.TheConstants.{FRAME_HEADER_LEN}
use Rattle.eth_frame.specs.Bytes.{u32_at}
use Rattle.ch11_packet.specs.Frames.{frame_len}
use Rattle.ch11_packet.specs.Flags.{has_bit}
use Rattle.ch11_packet.specs.FramesRead.{ReadFrameData, read_frame_of, length_in, first_read, after_first, first_reads, IsReadFrame}
use Rattle.ch11_packet.specs.FramesRead.{read_word, IsFiller, FrameStandsFirst, BeginsFrames, IsCutFrame, AreFrames}
use Rattle.eth_frame.proofs.Bytes.{six_again}

-- ---- the word

abbrev word : (len spare net speed content : ℕ) (frame_error crc_error : Bool) → ℕ
word len spare net speed content frame_error crc_error =
    len + spare * 2 ^ 14 + net * 2 ^ 16 + speed * 2 ^ 24 + content * 2 ^ 28 + cond frame_error (2 ^ 30) 0 + cond crc_error (2 ^ 31) 0

-- what is read from a word
record Reads (w len net speed content : ℕ) (frame_error crc_error : Bool) : Type 0 where
  small : w < 2 ^ 32
  len_is : length_in w ≡ len
  net_is : w / 2 ^ 16 % 2 ^ 8 ≡ net
  speed_is : w / 2 ^ 24 % 2 ^ 4 ≡ speed
  content_is : w / 2 ^ 28 % 2 ^ 2 ≡ content
  frame_is : has_bit w 30 ≡ frame_error
  crc_is : has_bit w 31 ≡ crc_error

bit_is : (w k n : ℕ) → w / 2 ^ k % 2 ≡ n → has_bit w k ≡ eqb n 1
bit_is w k n e = ap (λ m. eqb m 1) e

word_reads : (len spare net speed content : ℕ) (frame_error crc_error : Bool) → len < 2 ^ 14 → spare < 2 ^ 2 → net < 2 ^ 8 → speed < 2 ^ 4 → content < 2 ^ 2
    → Reads (word len spare net speed content frame_error crc_error) len net speed content frame_error crc_error
word_reads len spare net speed content false false l p n s c =
    record {
      small = omega arith;
      len_is = omega arith;
      net_is = omega arith;
      speed_is = omega arith;
      content_is = omega arith;
      frame_is = bit_is _ 30 0 (omega arith);
      crc_is = bit_is _ 31 0 (omega arith);
    }
word_reads len spare net speed content false true l p n s c =
    record {
      small = omega arith;
      len_is = omega arith;
      net_is = omega arith;
      speed_is = omega arith;
      content_is = omega arith;
      frame_is = bit_is _ 30 0 (omega arith);
      crc_is = bit_is _ 31 1 (omega arith);
    }
word_reads len spare net speed content true false l p n s c =
    record {
      small = omega arith;
      len_is = omega arith;
      net_is = omega arith;
      speed_is = omega arith;
      content_is = omega arith;
      frame_is = bit_is _ 30 1 (omega arith);
      crc_is = bit_is _ 31 0 (omega arith);
    }
word_reads len spare net speed content true true l p n s c =
    record {
      small = omega arith;
      len_is = omega arith;
      net_is = omega arith;
      speed_is = omega arith;
      content_is = omega arith;
      frame_is = bit_is _ 30 1 (omega arith);
      crc_is = bit_is _ 31 1 (omega arith);
    }

frame_word_reads : (frame : ReadFrameData) (spare : ℕ) → IsReadFrame frame → spare < 2 ^ 2
    → Reads (read_word frame spare) (length frame.bytes) frame.net frame.speed frame.content frame.frame_error frame.crc_error
frame_word_reads frame spare is fits =
    word_reads (length frame.bytes) spare frame.net frame.speed frame.content frame.frame_error frame.crc_error is.longest fits is.net is.speed is.content

-- ---- one frame at the front

same_frame : (c : ℕ) (x y : Bool) (n s k : ℕ) (b : List ℕ) (c' : ℕ) (x' y' : Bool) (n' s' k' : ℕ) (b' : List ℕ) → c ≡ c' → x ≡ x' → y ≡ y' → n ≡ n' → s ≡ s'
    → k ≡ k' → b ≡ b'
    → read_frame_of c x y n s k b ≡ read_frame_of c' x' y' n' s' k' b'
same_frame c x y n s k b c' x' y' n' s' k' b' ec ex ey en es ek eb = cc

-- the 12 bytes of a frame's header, and more
abbrev behind_header : (frame : ReadFrameData) (unused spare : ℕ) → List ℕ → List ℕ
behind_header frame unused spare rest =
    bytes_low_first 0 6 frame.counter ++ to_le_bytes w16 unused ++ to_le_bytes w32 (read_word frame spare) ++ rest

first_read-header : (frame : ReadFrameData) (unused spare : ℕ) (rest : List ℕ) → IsReadFrame frame → spare < 2 ^ 2
    → first_read (behind_header frame unused spare (frame.bytes ++ rest)) ≡ frame
first_read-header frame unused spare rest is fits =
    let reads = frame_word_reads frame spare is fits in
    let all = behind_header frame unused spare (frame.bytes ++ rest) in
    let w : u32_at all 8 ≡ read_word frame spare = from_le_bytes-to_le_bytes_4 (read_word frame spare) reads.small in
    same_frame _ _ _ _ _ _ _ _ _ _ _ _ _ _
    (six_again frame.counter is.counter)
    (ap (λ v. has_bit v 31) w ∙ reads.crc_is)
    (ap (λ v. has_bit v 30) w ∙ reads.frame_is)
    (ap (λ v. v / 2 ^ 16 % 2 ^ 8) w ∙ reads.net_is)
    (ap (λ v. v / 2 ^ 24 % 2 ^ 4) w ∙ reads.speed_is)
    (ap (λ v. v / 2 ^ 28 % 2 ^ 2) w ∙ reads.content_is)
    (ap (λ v. take (length_in v) (frame.bytes ++ rest)) w
    ∙ ap (λ n. take n (frame.bytes ++ rest)) reads.len_is
    ∙ take_at frame.bytes rest (length frame.bytes) refl)

length_in-header : (frame : ReadFrameData) (unused spare : ℕ) (rest : List ℕ) → IsReadFrame frame → spare < 2 ^ 2
    → length_in (u32_at (behind_header frame unused spare rest) 8) ≡ length frame.bytes
length_in-header frame unused spare rest is fits =
    let reads = frame_word_reads frame spare is fits in
    ap length_in (from_le_bytes-to_le_bytes_4 (read_word frame spare) reads.small) ∙ reads.len_is

-- the bytes of a frame that stands first, behind its header
StandsFirst-header : (frame : ReadFrameData) (bytes more : List ℕ) (first : FrameStandsFirst frame bytes more)
    → bytes ≡ behind_header frame first.spelled.unused first.spelled.spare (frame.bytes ++ (first.filler ++ more))
StandsFirst-header frame bytes more first =
    first.whole ∙ ap (λ l. l ++ (first.filler ++ more)) first.spelled.whole

after_filler : (len : ℕ) (filler more : List ℕ) → IsFiller len filler more → drop (len % 2) (filler ++ more) ≡ more
after_filler len filler more (inl whole) = drop_at filler more (len % 2) whole
after_filler len filler more (inr missing) =
    ap (λ l. drop (len % 2) (l ++ more)) missing.0 ∙ ap (drop (len % 2)) missing.1 ∙ drop_all (len % 2) [] (omega arith) ∙ sym missing.1

-- what stands first is what is read first
pub record IsFirst (frame : ReadFrameData) (bytes more : List ℕ) : Type 0 where
  pub frame_is : first_read bytes ≡ frame
  pub more_is : after_first bytes ≡ more
  pub len_is : length_in (u32_at bytes 8) ≡ length frame.bytes
  pub long : FRAME_HEADER_LEN + length frame.bytes ≤ length bytes

pub IsFirst-StandsFirst : (frame : ReadFrameData) (bytes more : List ℕ) → FrameStandsFirst frame bytes more → IsFirst frame bytes more
IsFirst-StandsFirst frame bytes more first =
    let s = first.spelled in
    let rest = first.filler ++ more in
    let whole = StandsFirst-header frame bytes more first in
    let len : length_in (u32_at bytes 8) ≡ length frame.bytes =
    ap (λ l. length_in (u32_at l 8)) whole ∙ length_in-header frame s.unused s.spare (frame.bytes ++ rest) s.in_range s.spare_fits in
    let head = length frame.bytes in
    let behind : drop FRAME_HEADER_LEN bytes ≡ frame.bytes ++ rest = ap (drop FRAME_HEADER_LEN) whole in
    let past : drop (FRAME_HEADER_LEN + head + head % 2) bytes ≡ drop (head % 2) rest =
    sym (drop-drop (head % 2) (FRAME_HEADER_LEN + head) bytes)
    ∙ ap (drop (head % 2)) (sym (drop-drop head FRAME_HEADER_LEN bytes) ∙ ap (drop head) behind ∙ drop_at frame.bytes rest head refl) in
    record {
      frame_is = ap first_read whole ∙ first_read-header frame s.unused s.spare rest s.in_range s.spare_fits;
      more_is = ap (λ n. drop (frame_len n) bytes) len ∙ past ∙ after_filler head first.filler more first.filled;
      len_is = len;
      long = omega (arith, ap length whole, length-append frame.bytes rest);
    }

pub not_cut : (frame : ReadFrameData) (bytes more : List ℕ) → FrameStandsFirst frame bytes more → IsCutFrame bytes → ⊥
not_cut frame bytes more first (inl short) = let is = IsFirst-StandsFirst frame bytes more first in omega (arith, is.long, short)
not_cut frame bytes more first (inr short) = let is = IsFirst-StandsFirst frame bytes more first in omega (arith, is.long, is.len_is, short.1)

-- ---- frames one after the other

-- they are the ones that are read
pub first_reads-Begins : (frames : List ReadFrameData) (bytes rest : List ℕ) → BeginsFrames frames bytes rest → first_reads (length frames) bytes ≡ frames
unfolding first_reads
first_reads-Begins [] bytes rest begins = refl
first_reads-Begins (f ∷ fs) bytes rest begins =
    let is = IsFirst-StandsFirst f bytes begins.0 begins.1 in
    ap (λ g. g ∷ first_reads (length fs) (after_first bytes)) is.frame_is
    ∙ ap (λ l. f ∷ first_reads (length fs) l) is.more_is
    ∙ ap (λ l. f ∷ l) (first_reads-Begins fs begins.0 rest begins.2)

-- of two readings of the same bytes the longer goes on where the shorter ends
pub record GoesOn (frames others : List ReadFrameData) (rest end : List ℕ) : Type 0 where
  pub later : List ReadFrameData
  pub whole : others ≡ frames ++ later
  pub begins : BeginsFrames later rest end

pub goes_on : (frames others : List ReadFrameData) (bytes rest end : List ℕ) → BeginsFrames frames bytes rest → BeginsFrames others bytes end
    → length frames ≤ length others → GoesOn frames others rest end
goes_on [] others bytes rest end short long fewer =
    record { later = others; whole = refl; begins = subst (λ l. BeginsFrames others l end) short long }
goes_on (f ∷ fs) [] bytes rest end short long fewer = absurd (omega arith)
goes_on (f ∷ fs) (g ∷ gs) bytes rest end short long fewer =
    let a = IsFirst-StandsFirst f bytes short.0 short.1 in
    let b = IsFirst-StandsFirst g bytes long.0 long.1 in
    let same : long.0 ≡ short.0 = sym b.more_is ∙ a.more_is in
    let on = goes_on fs gs short.0 rest end short.2 (subst (λ l. BeginsFrames gs l end) same long.2) (omega arith) in
    record {
      later = on.later;
      whole = ap (λ h. h ∷ gs) (sym b.frame_is ∙ a.frame_is) ∙ ap (λ l. f ∷ l) on.whole;
      begins = on.begins;
    }

-- a further frame
pub Begins-snoc : (frames : List ReadFrameData) (frame : ReadFrameData) (bytes rest more : List ℕ) → BeginsFrames frames bytes rest
    → FrameStandsFirst frame rest more → BeginsFrames (frames ++ frame ∷ []) bytes more
Begins-snoc [] frame bytes rest more begins first = (more, subst (λ l. FrameStandsFirst frame l more) (sym begins) first, refl)
Begins-snoc (f ∷ fs) frame bytes rest more begins first =
    (begins.0, begins.1, Begins-snoc fs frame begins.0 rest more begins.2 first)

-- ---- the frames that are left

no_more : (left : ℕ) (bytes : List ℕ) → AreFrames left bytes → IsCutFrame bytes → first_reads left bytes ≡ []
unfolding first_reads
no_more zero bytes are cut = refl
no_more (suc n) bytes are cut = absurd (not_cut _ bytes are.0 are.1 cut)

-- where no whole frame stands first none is left
pub none_left : (left : ℕ) (bytes : List ℕ) → ∥ AreFrames left bytes ∥₁ → IsCutFrame bytes → first_reads left bytes ≡ []
none_left left bytes are cut = ∥∥₁_elim are (hlevel props) (λ are. no_more left bytes are cut)

-- the first of those that are left, and the others
pub record TakesFirst (left : ℕ) (frame : ReadFrameData) (bytes more : List ℕ) : Type 0 where
  pub some : 0 < left
  pub whole : first_reads left bytes ≡ frame ∷ first_reads (left - 1) more
  pub others : ∥ AreFrames (left - 1) more ∥₁

no_frame : (frame : ReadFrameData) (bytes more : List ℕ) → bytes ≡ [] → FrameStandsFirst frame bytes more → ⊥
no_frame frame bytes more none first =
    let is = IsFirst-StandsFirst frame bytes more first in omega (arith, is.long, ap length none)

takes : (left : ℕ) (frame : ReadFrameData) (bytes more : List ℕ) → AreFrames left bytes → FrameStandsFirst frame bytes more → TakesFirst left frame bytes more
unfolding first_reads
takes zero frame bytes more are first = absurd (no_frame frame bytes more are first)
takes (suc n) frame bytes more are first =
    let a = IsFirst-StandsFirst _ bytes are.0 are.1 in
    let b = IsFirst-StandsFirst frame bytes more first in
    let one : n ≡ suc n - 1 = omega arith in
    let others : BeginsFrames (first_reads n more) more [] =
    subst (λ l. BeginsFrames (first_reads n l) l []) (sym a.more_is ∙ b.more_is) (subst (λ l. BeginsFrames (first_reads n l) are.0 []) a.more_is are.2) in
    record {
      some = omega arith;
      whole = ap (λ g. g ∷ first_reads n (after_first bytes)) b.frame_is ∙ ap (λ l. frame ∷ first_reads n l) b.more_is
          ∙ ap (λ k. frame ∷ first_reads k more) one;
      others = ∣ subst (λ k. BeginsFrames (first_reads k more) more []) one others ∣₁;
    }

pub takes_first : (left : ℕ) (frame : ReadFrameData) (bytes more : List ℕ) → ∥ AreFrames left bytes ∥₁ → FrameStandsFirst frame bytes more
    → TakesFirst left frame bytes more
takes_first left frame bytes more are first = record {
  some = ∥∥₁_elim are (hlevel props) (λ are. (takes left frame bytes more are first).some);
  whole = ∥∥₁_elim are (hlevel props) (λ are. (takes left frame bytes more are first).whole);
  others = ∥∥₁_elim are (hlevel props) (λ are. (takes left frame bytes more are first).others);
}

-- what follows the first frame is the end of the bytes
pub rest_of : (frame : ReadFrameData) (bytes more : List ℕ) → FrameStandsFirst frame bytes more → more ≡ drop (length bytes - length more) bytes
rest_of frame bytes more first =
    let front = first.spelling ++ first.filler in
    let whole : bytes ≡ front ++ more = first.whole ∙ sym (append_assoc first.spelling first.filler more) in
    let len : length front ≡ length bytes - length more = omega (arith, ap length whole, length-append front more) in
    sym (ap (drop (length bytes - length more)) whole ∙ drop_at front more (length bytes - length more) len)

pub length-first_reads : (count : ℕ) (bytes : List ℕ) → length (first_reads count bytes) ≡ count
unfolding first_reads
length-first_reads zero bytes = refl
length-first_reads (suc count) bytes = ap suc (length-first_reads count _)

-- for an attribute, which takes no name with a dash
pub ruleset reads_counted = (length-first_reads)
