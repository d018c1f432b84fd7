-- What the fields of a body and of its builder hold, and how a frame is added.
use Rattle.std.proofs.Common.{◌≡◌, ℕ, zero, suc, ◌+◌, ◌*◌, ◌/◌, ◌%◌, ◌^◌, ◌<◌, ◌≤◌, List, [], ◌∷◌, ◌++◌, length}
use Rattle.std.proofs.Common.{map, drop, Some, refl, sym, ap, subst, ◌∙◌, append_assoc, arith}
use Rattle.std.specs.Prelude.{All, IsTrue, nat_le, slice_get, slice_set}
use Rattle.std.specs.Int.{w32, to_le_bytes}
use Rattle.std.specs.List.{sum_by, flat_map}
use Rattle.std.specs.Option.{option_map}
use Rattle.std.proofs.lemmas.Bool.{leb-true, le-leb}
use Rattle.std.proofs.lemmas.List.{length-append, length-map, append-nil}
use Rattle.std.proofs.lemmas.List.Concat.{flat_map-append}
use Rattle.std.proofs.lemmas.List.Sums.{sum_by-cons, sum_by_push}
use Rattle.std.proofs.lemmas.List.Elements.{All-nil, All-head, All-tail, All-push}
use Rattle.eth_frame.specs.Bytes.{u48_at}
use Rattle.eth_frame.specs.Frame.{FrameData, IsFrame}
use Rattle.eth_frame.proofs.Bytes.{six_again}
use Rattle.ch11_packet.specs.declared.frames.word.TheConstants.{MAX_SPEED, BODY_WORD_LEN}
use Rattle.ch11_packet.specs.Sums.{body_sum}
use Rattle.ch11_packet.specs.PacketLen.{packet_len}
use Rattle.ch11_packet.specs.Frames.{frame_bytes, frame_len, data_bytes, data_len}
use Rattle.ch11_packet.specs.FramesRead.{body_frame, frame_in, first_reads, SpellsBody}
use Rattle.ch11_packet.specs.Building.{EthernetBody, IsEthernetBody, body_of, OpenBody, open_of, Fits}
use Rattle.ch11_packet.specs.Building.{first_counter, frames_in, HoldsFrames, HasRoom, IsBlank, IsOpen, IsSealed}
use Rattle.ch11_packet.proofs.FrameBytes.{length-frame_bytes, Begins-written, first_reads-flat_map}
use Rattle.ch11_packet.proofs.FirstFrames.{length-first_reads}

-- ---- sizes

pub length-frames : (net speed : ℕ) (frames : List FrameData)
    → length (flat_map (frame_bytes net speed) frames) ≡ sum_by (λ frame. frame_len (length frame.bytes)) frames
length-frames net speed [] = refl
length-frames net speed (f ∷ fs) =
    omega (
      arith,
      length-append (frame_bytes net speed f) (flat_map (frame_bytes net speed) fs),
      length-frame_bytes net speed f,
      length-frames net speed fs,
      sum_by-cons (λ (frame : FrameData). frame_len (length frame.bytes)) f fs,
    )

-- the bytes are as many as the body's
pub length-Holds : (word : ℕ) (frames : List FrameData) (net speed : ℕ) (bytes : List ℕ) → HoldsFrames word frames net speed bytes
    → length bytes ≡ data_len frames
length-Holds word frames net speed bytes holds =
    omega (arith, ap length holds.bytes_are, length-frames net speed frames)

-- each frame takes 30 bytes at least
pub few_frames : (frames : List FrameData) → All IsFrame frames → BODY_WORD_LEN + 30 * length frames ≤ data_len frames
few_frames [] each = omega arith
few_frames (f ∷ fs) each =
    let is = All-head IsFrame f fs each in
    let more = few_frames fs (All-tail IsFrame f fs each) in
    omega (arith, sum_by-cons (λ (frame : FrameData). frame_len (length frame.bytes)) f fs)

-- ---- the frames that are held

-- the frames that are found in the bytes are those that they hold
pub frames_in-Holds : (word count : ℕ) (frames : List FrameData) (net speed : ℕ) (bytes : List ℕ) → HoldsFrames word frames net speed bytes
    → count ≡ length frames → frames_in count bytes ≡ frames
unfolding frames_in
frames_in-Holds word count frames net speed bytes holds many =
    ap (λ n. frames_in n bytes) many
    ∙ ap (λ l. map frame_in (first_reads (length frames) (drop BODY_WORD_LEN l))) holds.bytes_are
    ∙ first_reads-flat_map net speed frames (record { net_fits = holds.net_fits; speed_fits = holds.speed_fits }) holds.in_range

pub length-frames_in : (count : ℕ) (bytes : List ℕ) → length (frames_in count bytes) ≡ count
unfolding frames_in
length-frames_in count bytes =
    length-map (first_reads count (drop BODY_WORD_LEN bytes)) frame_in ∙ length-first_reads count (drop BODY_WORD_LEN bytes)

-- for an attribute, which takes no name with a dash
pub ruleset frames_counted = (length-frames_in)

-- ---- an open body

pub length-IsOpen : (count net speed limit room : ℕ) (bytes : List ℕ) → IsOpen count net speed limit room bytes
    → length bytes ≡ data_len (frames_in count bytes)
length-IsOpen count net speed limit room bytes is = length-Holds 0 (frames_in count bytes) net speed bytes is.holds

-- the frames that contracts see take the bytes behind the word
pub open_len : (count net speed limit room : ℕ) (bytes : List ℕ) (body : OpenBody) → IsOpen count net speed limit room bytes
    → open_of (frames_in count bytes) net speed limit ≡ body → data_len body.frames ≡ length bytes
open_len count net speed limit room bytes body is e = subst (λ (b : OpenBody). data_len b.frames ≡ length bytes) e
    (sym (length-IsOpen count net speed limit room bytes is))

pub open_count : (count net speed limit : ℕ) (bytes : List ℕ) (body : OpenBody) → open_of (frames_in count bytes) net speed limit ≡ body
    → length body.frames ≡ count
open_count count net speed limit bytes body e = subst (λ (b : OpenBody). length b.frames ≡ count) e (length-frames_in count bytes)

-- a body of no frames
pub IsOpen-none : (net speed limit room : ℕ) (bytes : List ℕ) → bytes ≡ to_le_bytes w32 0 → net < 2 ^ 8 → speed ≤ MAX_SPEED → HasRoom limit room
    → IsOpen 0 net speed limit room bytes
unfolding first_reads frames_in
IsOpen-none net speed limit room bytes e n s roomy = record {
  holds = record { bytes_are = e; in_range = All-nil IsFrame; net_fits = n; speed_fits = s };
  fits = rw e (omega (arith, roomy.least));
  roomy = roomy;
}

-- the body of no frames in an empty buffer
pub open_blank : (net speed limit room more : ℕ) (old new : List ℕ) → IsBlank limit room old → new ≡ old ++ to_le_bytes w32 0 → room ≤ more → net < 2 ^ 8
    → speed ≤ MAX_SPEED → IsOpen 0 net speed limit more new
open_blank net speed limit room more old new is added roomy n s =
    IsOpen-none net speed limit more new (added ∙ ap (λ l. l ++ to_le_bytes w32 0) is.empty) n s
    (record { least = is.roomy.least; most = is.roomy.most; enough = omega (arith, is.roomy.enough) })

pub frames_in-none : (bytes : List ℕ) → frames_in 0 bytes ≡ []
unfolding first_reads frames_in
frames_in-none bytes = refl

-- a body of one frame more
pub record Adds (count net speed limit room : ℕ) (old new : List ℕ) (frame : FrameData) : Type 0 where
  pub is_open : IsOpen (count + 1) net speed limit room new
  pub frames : frames_in (count + 1) new ≡ frames_in count old ++ frame ∷ []

Holds-push : (frames : List FrameData) (frame : FrameData) (net speed : ℕ) (old new : List ℕ) → HoldsFrames 0 frames net speed old → IsFrame frame
    → new ≡ old ++ frame_bytes net speed frame → HoldsFrames 0 (frames ++ frame ∷ []) net speed new
Holds-push frames frame net speed old new holds is added = record {
  bytes_are = added ∙ ap (λ l. l ++ frame_bytes net speed frame) holds.bytes_are
      ∙ append_assoc (to_le_bytes w32 0) (flat_map (frame_bytes net speed) frames) (frame_bytes net speed frame)
      ∙ ap (λ l. to_le_bytes w32 0 ++ l) (ap (λ l. flat_map (frame_bytes net speed) frames ++ l) (sym (append-nil (frame_bytes net speed frame)))
      ∙ sym (flat_map-append (frame_bytes net speed) frames (frame ∷ [])));
  in_range = All-push IsFrame frames frame holds.in_range is;
  net_fits = holds.net_fits;
  speed_fits = holds.speed_fits;
}

pub data_len-push : (frames : List FrameData) (frame : FrameData) → data_len (frames ++ frame ∷ []) ≡ data_len frames + frame_len (length frame.bytes)
data_len-push frames frame = omega (arith, sum_by_push (λ (f : FrameData). frame_len (length f.bytes)) frames frame)

pub IsOpen-push : (count net speed limit room more : ℕ) (old new : List ℕ) (frame : FrameData) → IsOpen count net speed limit room old → IsFrame frame
    → Fits (open_of (frames_in count old) net speed limit) (length frame.bytes) → new ≡ old ++ frame_bytes net speed frame → room ≤ more
    → Adds count net speed limit more old new frame
IsOpen-push count net speed limit room more old new frame is in_range fits added roomy =
    let fs = frames_in count old in
    let held = Holds-push fs frame net speed old new is.holds in_range added in
    let many : count + 1 ≡ length (fs ++ frame ∷ []) = omega (arith, length-append fs (frame ∷ []), length-frames_in count old) in
    let found = frames_in-Holds 0 (count + 1) (fs ++ frame ∷ []) net speed new held many in
    let size : length new ≡ data_len fs + frame_len (length frame.bytes) = length-Holds 0 (fs ++ frame ∷ []) net speed new held ∙ data_len-push fs frame in
    record {
      is_open = record {
        holds = subst (λ (l : List FrameData). HoldsFrames 0 l net speed new) (sym found) held;
        fits = rw size fits;
        roomy = record { least = is.roomy.least; most = is.roomy.most; enough = omega (arith, is.roomy.enough) };
      };
      frames = found;
    }

-- there is room for a frame that fits
pub room_for : (count net speed limit room : ℕ) (bytes : List ℕ) (len : ℕ) → IsOpen count net speed limit room bytes
    → Fits (open_of (frames_in count bytes) net speed limit) len → length bytes + frame_len len ≤ room
room_for count net speed limit room bytes len is fits =
    let size = length-IsOpen count net speed limit room bytes is in
    let left = is.roomy.enough in
    omega arith

-- there are fewer frames than a body's word can say
pub count_fits : (count net speed limit room : ℕ) (bytes : List ℕ) → IsOpen count net speed limit room bytes → count + 1 < 2 ^ 16
count_fits count net speed limit room bytes is =
    let size = length-IsOpen count net speed limit room bytes is in
    let few = few_frames (frames_in count bytes) is.holds.in_range in
    let many = length-frames_in count bytes in
    let fits = is.fits in
    let most = is.roomy.most in
    omega arith

-- ---- a sealed body

-- the body with its number of frames written into the first two bytes
pub record Seals (count net speed limit room sum : ℕ) (old new : List ℕ) : Type 0 where
  pub is_sealed : IsSealed count net speed limit room sum new
  pub frames : frames_in count new ≡ frames_in count old

pub some_frames : (count : ℕ) (bytes : List ℕ) → (frames_in count bytes ≡ [] → ⊥) → 0 < count
some_frames zero bytes ne = absurd (ne (frames_in-none bytes))
some_frames (suc count) bytes ne = omega arith

word_of : (count : ℕ) (rest : List ℕ) → count < 2 ^ 16 → count % 256 ∷ count / 256 % 256 ∷ 0 ∷ 0 ∷ rest ≡ to_le_bytes w32 count ++ rest
word_of count rest lt =
    let a : 0 ≡ count / 65536 % 256 = omega arith in
    let b : 0 ≡ count / 16777216 % 256 = omega arith in
    ap (λ n. count % 256 ∷ count / 256 % 256 ∷ n ∷ 0 ∷ rest) a ∙ ap (λ n. count % 256 ∷ count / 256 % 256 ∷ count / 65536 % 256 ∷ n ∷ rest) b

pub IsSealed-IsOpen : (count net speed limit room sum : ℕ) (old new : List ℕ) → IsOpen count net speed limit room old → 0 < count
    → new ≡ slice_set (slice_set old 0 (count % 256)) 1 (count / 256 % 256) → sum ≡ body_sum new → Seals count net speed limit room sum old new
IsSealed-IsOpen count net speed limit room sum old new is some written summed =
    let fs = frames_in count old in
    let rest = flat_map (frame_bytes net speed) fs in
    let few = count_fits count net speed limit room old is in
    let whole : new ≡ to_le_bytes w32 count ++ rest =
    written ∙ ap (λ l. slice_set (slice_set l 0 (count % 256)) 1 (count / 256 % 256)) is.holds.bytes_are ∙ word_of count rest (omega arith) in
    let held : HoldsFrames count fs net speed new = record {
      bytes_are = whole;
      in_range = is.holds.in_range;
      net_fits = is.holds.net_fits;
      speed_fits = is.holds.speed_fits;
    } in
    let found = frames_in-Holds count count fs net speed new held (sym (length-frames_in count old)) in
    let size : length new ≡ length old = length-Holds count fs net speed new held ∙ sym (length-IsOpen count net speed limit room old is) in
    record {
      is_sealed = record {
        holds = subst (λ (l : List FrameData). HoldsFrames count l net speed new) (sym found) held;
        some = some;
        fits = rw size is.fits;
        roomy = is.roomy;
        sum_is = summed;
      };
      frames = found;
    }

-- a sealed body is in range
pub IsEthernetBody-IsSealed : (count net speed limit room sum : ℕ) (bytes : List ℕ) → IsSealed count net speed limit room sum bytes
    → IsEthernetBody (body_of (frames_in count bytes) net speed limit)
IsEthernetBody-IsSealed count net speed limit room sum bytes is =
    let many = length-frames_in count bytes in
    let size = length-Holds count (frames_in count bytes) net speed bytes is.holds in
    let few = few_frames (frames_in count bytes) is.holds.in_range in
    let known = is.fits in
    let most = is.roomy.most in
    let fits : packet_len (data_len (frames_in count bytes)) ≤ limit = rw size at known in
    record {
      in_range = is.holds.in_range;
      net_fits = is.holds.net_fits;
      speed_fits = is.holds.speed_fits;
      some = omega (arith, many, is.some);
      few = omega arith;
      fits = omega arith;
    }

-- what a sealed body's bytes are
pub bytes-IsSealed : (count net speed limit room sum : ℕ) (bytes : List ℕ) → IsSealed count net speed limit room sum bytes
    → bytes ≡ data_bytes net speed (frames_in count bytes)
unfolding data_bytes
bytes-IsSealed count net speed limit room sum bytes is =
    is.holds.bytes_are ∙ ap (λ n. to_le_bytes w32 n ++ flat_map (frame_bytes net speed) (frames_in count bytes)) (sym (length-frames_in count bytes))

-- a test that two numbers are in order
pub tested : (a b n m : ℕ) → a ≡ n → b ≡ m → (IsTrue (nat_le a b) → n ≤ m) × (n ≤ m → IsTrue (nat_le a b))
tested a b n m ea eb = (λ t. omega (arith, leb-true a b t), λ h. le-leb a b (omega arith))

pub first_counter-fits : (frames : List FrameData) → All IsFrame frames → first_counter frames < 2 ^ 48
first_counter-fits [] each = omega arith
first_counter-fits (f ∷ fs) each = (All-head IsFrame f fs each).counter

-- a body that is written is a body of its frames
pub SpellsBody-written : (body : EthernetBody) → IsEthernetBody body
    → SpellsBody (map (body_frame body.net body.speed) body.frames) (data_bytes body.net body.speed body.frames)
unfolding data_bytes
SpellsBody-written body is =
    let many = length-map body.frames (body_frame body.net body.speed) in
    let rest = flat_map (frame_bytes body.net body.speed) body.frames in
    let word : length body.frames ≡ length (map (body_frame body.net body.speed) body.frames) + 0 * 2 ^ 16 = omega (arith, many) in
    record {
      few = omega (arith, many, is.few);
      spare = 0;
      spare_fits = omega arith;
      rest = rest;
      whole = ap (λ w. to_le_bytes w32 w ++ rest) word;
      held = Begins-written body.net body.speed body.frames (record { net_fits = is.net_fits; speed_fits = is.speed_fits }) is.in_range;
    }

-- ---- what contracts see of a sealed body

pub body_bytes : (count net speed limit room sum : ℕ) (bytes : List ℕ) (body : EthernetBody) → IsSealed count net speed limit room sum bytes
    → body_of (frames_in count bytes) net speed limit ≡ body → bytes ≡ data_bytes body.net body.speed body.frames
body_bytes count net speed limit room sum bytes body is e = subst (λ (b : EthernetBody). bytes ≡ data_bytes b.net b.speed b.frames) e
    (bytes-IsSealed count net speed limit room sum bytes is)

pub body_len : (count net speed limit room sum : ℕ) (bytes : List ℕ) (body : EthernetBody) → IsSealed count net speed limit room sum bytes
    → body_of (frames_in count bytes) net speed limit ≡ body → length bytes ≡ data_len body.frames
body_len count net speed limit room sum bytes body is e = subst (λ (b : EthernetBody). length bytes ≡ data_len b.frames) e
    (length-Holds count (frames_in count bytes) net speed bytes is.holds)

pub body_valid : (count net speed limit room sum : ℕ) (bytes : List ℕ) (body : EthernetBody) → IsSealed count net speed limit room sum bytes
    → body_of (frames_in count bytes) net speed limit ≡ body → IsEthernetBody body
body_valid count net speed limit room sum bytes body is e = subst IsEthernetBody e (IsEthernetBody-IsSealed count net speed limit room sum bytes is)

pub body_sum_is : (count net speed limit room sum : ℕ) (bytes : List ℕ) (body : EthernetBody) → IsSealed count net speed limit room sum bytes
    → body_of (frames_in count bytes) net speed limit ≡ body → sum ≡ body_sum (data_bytes body.net body.speed body.frames)
body_sum_is count net speed limit room sum bytes body is e = is.sum_is ∙ ap body_sum (body_bytes count net speed limit room sum bytes body is e)

-- a sealed body has the bytes of a frame
pub sealed_long : (count net speed limit room sum : ℕ) (bytes : List ℕ) → IsSealed count net speed limit room sum bytes → 34 ≤ length bytes
sealed_long count net speed limit room sum bytes is =
    let few = few_frames (frames_in count bytes) is.holds.in_range in
    let size = length-Holds count (frames_in count bytes) net speed bytes is.holds in
    omega (arith, few, size, length-frames_in count bytes, is.some)

-- the first frame's counter, behind the body's word
counter_behind : (word net speed : ℕ) (frames : List FrameData) → All IsFrame frames → 0 < length frames
    → u48_at (to_le_bytes w32 word ++ flat_map (frame_bytes net speed) frames) 4 ≡ first_counter frames
unfolding frame_bytes
counter_behind word net speed [] each some = absurd (omega (arith, some))
counter_behind word net speed (f ∷ fs) each some = six_again f.counter (All-head IsFrame f fs each).counter

pub first-frame : (frames : List FrameData) → 0 < length frames → option_map (λ (f : FrameData). f.counter) (slice_get frames 0) ≡ Some (first_counter frames)
first-frame [] lt = absurd (omega arith)
first-frame (f ∷ fs) lt = refl

pub body_first : (count net speed limit room sum : ℕ) (bytes : List ℕ) (body : EthernetBody) → IsSealed count net speed limit room sum bytes
    → body_of (frames_in count bytes) net speed limit ≡ body
    → option_map (λ (f : FrameData). f.counter) (slice_get body.frames 0) ≡ Some (u48_at bytes 4)
body_first count net speed limit room sum bytes body is e =
    let frames = frames_in count bytes in
    let some : 0 < length frames = omega (arith, length-frames_in count bytes, is.some) in
    let counter : u48_at bytes 4 ≡ first_counter frames = ap (λ l. u48_at l 4) is.holds.bytes_are
    ∙ counter_behind count net speed frames is.holds.in_range some in
    subst (λ (b : EthernetBody). option_map (λ (f : FrameData). f.counter) (slice_get b.frames 0) ≡ Some (u48_at bytes 4)) e
    (first-frame frames some ∙ ap (λ n. Some n) (sym counter))
