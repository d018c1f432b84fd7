-- Packets are the longest fronts of frames that fit.
use Rattle.std.proofs.Common.{ℕ, ◌+◌, ◌≡◌, ◌≢◌, ◌≤◌, ◌<◌, inl, inr, true, false, List, [], ◌∷◌, ◌++◌, length, take, drop, refl, sym, ◌∙◌, ap, subst, arith, All}
use Rattle.std.specs.List.{sum_by}
use Rattle.std.proofs.lemmas.Bool.{cases_Bool, leb-true, leb-false, cases_lt, le-leb}
use Rattle.std.proofs.lemmas.List.{append_assoc, length-append}
use Rattle.std.proofs.lemmas.List.Sums.{sum_by_push, sum_by-cons}
use Rattle.std.proofs.lemmas.List.Elements.{All-head, All-tail}
use Rattle.std.proofs.Math.Seq.{take-append_seam, drop-append_seam}
use Rattle.ch11_packet.specs.declared.limit.TheConstants.{MIN_LIMIT}
use Rattle.ch11_packet.specs.Frames.{data_len, frame_len}
use Rattle.ch11_packet.specs.PacketLen.{packet_len}
use Rattle.eth_frame.specs.Frame.{FrameData, IsFrame}
use Rattle.rec_lane.specs.Parts.{ended_from, last_from, as_part}
use Rattle.rec_lane.specs.Packets.{FitsLimit, has_room, packets, AreLongestFronts}
use Rattle.rec_lane.proofs.FramesMet.{heads, tails}

-- how many bytes a frame takes
abbrev size : FrameData → ℕ
size f = frame_len (length f.bytes)

-- a longer front takes at least the bytes of the shorter one and the next frame
longer_front : (packet other more : List FrameData) (x : FrameData) (xs : List FrameData)
    → packet ++ x ∷ xs ≡ other ++ more → length packet < length other
    → sum_by size packet + size x ≤ sum_by size other
longer_front packet [] more x xs same longer = absurd (omega (arith, longer))
longer_front [] (o ∷ os) more x xs same longer =
    let first = ap size (heads x o xs (os ++ more) same) in
    let all = sum_by-cons size o os in
    omega (arith, first, all)
longer_front (p ∷ ps) (o ∷ os) more x xs same longer =
    let first = ap size (heads p o (ps ++ x ∷ xs) (os ++ more) same) in
    let rest = longer_front ps os more x xs (tails p o (ps ++ x ∷ xs) (os ++ more) same) (omega (arith, longer)) in
    let one = sum_by-cons size p ps in
    let other = sum_by-cons size o os in
    omega (arith, first, rest, one, other)

-- what is not longer fits as well
shorter_fits : (limit len other : ℕ) → len ≤ other → packet_len other ≤ limit → packet_len len ≤ limit
shorter_fits limit len other shorter fits = omega (arith, shorter, fits)

-- a packet that has no room for the next frame is the longest front
pub full_front : (limit : ℕ) (packet : List FrameData) (x : FrameData) (xs : List FrameData)
    → has_room limit packet x ≡ false
    → (other more : List FrameData) → packet ++ x ∷ xs ≡ other ++ more → FitsLimit limit other → length other ≤ length packet
full_front limit packet x xs full other more same fits = elim (cases_lt (length packet) (length other)) as (λ _. length other ≤ length packet) [
  | inl longer ↦
      let over = leb-false (packet_len (data_len packet + size x)) limit full in
      let within = shorter_fits limit (data_len packet + size x) (data_len other)
      (let grown = longer_front packet other more x xs same longer in omega (arith, grown)) fits in
      absurd (omega (arith, over, within))
  | inr shorter ↦ shorter
]

-- and so is one with which the frames end
pub last_front : {X : Type 0} (packet other more : List X) → packet ++ [] ≡ other ++ more → length other ≤ length packet
last_front {X} packet other more same =
    let lengths = ap (λ (fs : List X). length fs) same in
    let left = length-append packet [] in
    let right = length-append other more in
    omega (arith, lengths, left, right)

-- one frame more in a packet with room for it
pub more_fits : (limit : ℕ) (packet : List FrameData) (x : FrameData) → has_room limit packet x ≡ true → FitsLimit limit (packet ++ x ∷ [])
more_fits limit packet x room =
    let sum = sum_by_push size packet x in
    shorter_fits limit (data_len (packet ++ x ∷ [])) (data_len packet + size x) (omega (arith, sum))
    (leb-true (packet_len (data_len packet + size x)) limit room)

-- a frame in range fits alone
pub one_fits : (limit : ℕ) (x : FrameData) → MIN_LIMIT ≤ limit → IsFrame x → packet_len (data_len [] + size x) ≤ limit
one_fits limit x roomy frame = let longest = frame.longest in omega (arith, roomy, longest)

pub alone_fits : (limit : ℕ) (x : FrameData) → MIN_LIMIT ≤ limit → IsFrame x → FitsLimit limit (x ∷ [])
alone_fits limit x roomy frame = more_fits limit [] x (le-leb (packet_len (data_len [] + size x)) limit (one_fits limit x roomy frame))

pub not_empty : {X : Type 0} (x : X) (xs : List X) → x ∷ xs ≢ []
not_empty {X} x xs = λ same. let e = ap (λ (ys : List X). length ys) same in omega (arith, e)

-- the packets from an open one on
fronts_from : (limit : ℕ) → MIN_LIMIT ≤ limit → (p : FrameData) (ps xs : List FrameData)
    → FitsLimit limit (p ∷ ps) → All IsFrame xs
    → AreLongestFronts limit ((p ∷ ps) ++ xs) (ended_from (has_room limit) (p ∷ ps) xs ++ as_part (last_from (has_room limit) (p ∷ ps) xs))
fronts_from limit roomy p ps [] fits frames = (
  [],
  record {
    front = refl;
    some = not_empty p ps;
    fits = fits;
    longest = λ other more same _. last_front (p ∷ ps) other more same;
  },
  refl,
)
fronts_from limit roomy p ps (x ∷ xs) fits frames =
    elim (cases_Bool (has_room limit (p ∷ ps) x)) as (λ _. AreLongestFronts limit ((p ∷ ps) ++ x ∷ xs)
    (ended_from (has_room limit) (p ∷ ps) (x ∷ xs) ++ as_part (last_from (has_room limit) (p ∷ ps) (x ∷ xs)))) [
      | inl room ↦ rw room (
          subst (λ fs. AreLongestFronts limit fs (ended_from (has_room limit) ((p ∷ ps) ++ x ∷ []) xs
          ++ as_part (last_from (has_room limit) ((p ∷ ps) ++ x ∷ []) xs)))
          (append_assoc (p ∷ ps) (x ∷ []) xs)
          (fronts_from limit roomy p (ps ++ x ∷ []) xs (more_fits limit (p ∷ ps) x room) (All-tail IsFrame x xs frames)))
      | inr full ↦ rw full ((
        x ∷ xs,
        record {
          front = refl;
          some = not_empty p ps;
          fits = fits;
          longest = full_front limit (p ∷ ps) x xs full;
        },
        fronts_from limit roomy x [] xs (alone_fits limit x roomy (All-head IsFrame x xs frames)) (All-tail IsFrame x xs frames),
      ))
    ]

pub packets_longest : (limit : ℕ) (frames : List FrameData) → MIN_LIMIT ≤ limit → All IsFrame frames → AreLongestFronts limit frames (packets limit frames)
packets_longest limit [] roomy frames = refl
packets_longest limit (x ∷ xs) roomy frames =
    let fits = one_fits limit x roomy (All-head IsFrame x xs frames) in
    let room : has_room limit [] x ≡ true = le-leb (packet_len (data_len [] + size x)) limit fits in
    rw room (fronts_from limit roomy x [] xs (more_fits limit [] x room) (All-tail IsFrame x xs frames))

-- ---- one answer

-- two fronts of one length are one
pub same_front : {X : Type 0} (packet rest other more : List X) → packet ++ rest ≡ other ++ more → length packet ≡ length other
    → (packet ≡ other) × (rest ≡ more)
same_front {X} packet rest other more same lengths = (
  sym (take-append_seam packet rest) ∙ (ap (λ n. take n (packet ++ rest)) lengths ∙ (ap (λ xs. take (length other) xs) same ∙ take-append_seam other more)),
  sym (drop-append_seam packet rest) ∙ (ap (λ n. drop n (packet ++ rest)) lengths ∙ (ap (λ xs. drop (length other) xs) same ∙ drop-append_seam other more)),
)

-- nothing has no front
pub none_left : {X : Type 0} (frames packet rest : List X) → frames ≡ [] → frames ≡ packet ++ rest → packet ≢ [] → ⊥
none_left {X} frames [] rest empty front some = some refl
none_left {X} frames (x ∷ xs) rest empty front some = not_empty x (xs ++ rest) (sym front ∙ empty)

pub one_packets : (limit : ℕ) (frames : List FrameData) (some other : List (List FrameData)) → AreLongestFronts limit frames some
    → AreLongestFronts limit frames other → some ≡ other
one_packets limit frames [] [] a b = refl
one_packets limit frames [] (q ∷ qs) a b = absurd (none_left frames q b.0 a b.1.front b.1.some)
one_packets limit frames (p ∷ ps) [] a b = absurd (none_left frames p a.0 b a.1.front a.1.some)
one_packets limit frames (p ∷ ps) (q ∷ qs) a b =
    let one = a.1.longest q b.0 b.1.front b.1.fits in
    let other = b.1.longest p a.0 a.1.front a.1.fits in
    let same = same_front p a.0 q b.0 (sym a.1.front ∙ b.1.front) (omega (arith, one, other)) in
    ap (λ x. x ∷ ps) same.0
    ∙ ap (λ xs. q ∷ xs) (one_packets limit a.0 ps qs a.2 (subst (λ rest. AreLongestFronts limit rest qs) (sym same.1) b.2))
