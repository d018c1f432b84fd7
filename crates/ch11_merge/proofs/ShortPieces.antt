-- Pieces of frames are short.
use Rattle.std.proofs.Common.{ℕ, ◌+◌, ◌≡◌, ◌≤◌, ◌<◌, ◌⊎◌, inl, inr, List, [], ◌∷◌, length, refl, sym, subst, arith}
use Rattle.std.specs.Prelude.{true, nat_le, nat_lt, ◌&&◌}
use Rattle.std.specs.List.{AllByRecursion}
use Rattle.std.proofs.lemmas.Bool.{and_parts}
use Rattle.std.proofs.lemmas.Bool.Decides.{nat_tests}
use Rattle.ch11_packet.specs.declared.header.TheConstants.{MAX_ETHERNET_PACKET_LEN}
use Rattle.ch11_packet.specs.Frames.{data_len, frame_len}
use Rattle.ch11_packet.specs.FramesRead.{ReadFrameData}
use Rattle.ch11_packet.specs.PacketLen.{written_len}
use Rattle.ch11_packet.specs.Profiles.Profile.{WithSum}
use Rattle.ch11_merge.specs.declared.piece.TheConstants.{PIECE_TICKS}
use Rattle.ch11_merge.specs.declared.piece.PieceSoFar.{PieceSoFar}
use Rattle.ch11_merge.specs.Pieces.{with_frame, begun, GoOn, IsPiece, AreCut}
use Rattle.ch11_merge.specs.Short.{NeverFall, LieWithin, frames_len, IsShortPiece}

true_le : (a b : ℕ) → nat_le a b ≡ true → a ≤ b
true_le a b e = grind (arith, nat_tests)

true_lt : (a b : ℕ) → nat_lt a b ≡ true → a < b
true_lt a b e = grind (arith, nat_tests)

-- frames that go on with a piece of this many bytes
record AreShort (piece : PieceSoFar) (frames : List ReadFrameData) : Type 0 where
  pub fall : NeverFall piece.last frames
  pub within : LieWithin piece.first frames
  pub fit : (frames ≡ []) ⊎ (written_len WithSum (piece.len + frames_len frames) ≤ MAX_ETHERNET_PACKET_LEN)

add_first : (a b c : ℕ) → (a + b) + c ≡ a + (b + c)
add_first a b c = omega arith

are_short : (piece : PieceSoFar) (frames : List ReadFrameData) → GoOn piece frames → AreShort piece frames
are_short piece [] go = record { fall = tt; within = tt; fit = inl refl }
are_short piece (f ∷ fs) go =
    let more = are_short (with_frame piece f) fs go.1 in
    let n = frame_len (length f.bytes) in
    let one = and_parts (nat_le piece.last f.counter && nat_lt f.counter (piece.first + PIECE_TICKS))
    (nat_le (written_len WithSum (piece.len + n)) MAX_ETHERNET_PACKET_LEN) go.0 in
    let two = and_parts (nat_le piece.last f.counter) (nat_lt f.counter (piece.first + PIECE_TICKS)) one.0 in
    let len : written_len WithSum (piece.len + n) ≤ MAX_ETHERNET_PACKET_LEN = true_le _ _ one.1 in
    record {
      fall = (true_le _ _ two.0, more.fall);
      within = (true_lt _ _ two.1, more.within);
      fit = elim more.fit as (λ _. (f ∷ fs ≡ []) ⊎ (written_len WithSum (piece.len + frames_len (f ∷ fs)) ≤ MAX_ETHERNET_PACKET_LEN)) [
        | inl none ↦ inr (subst (λ xs. written_len WithSum (piece.len + frames_len (f ∷ xs)) ≤ MAX_ETHERNET_PACKET_LEN) (sym none)
            (subst (λ k. written_len WithSum (piece.len + k) ≤ MAX_ETHERNET_PACKET_LEN) (omega arith) len))
        | inr fit ↦ inr (subst (λ k. written_len WithSum k ≤ MAX_ETHERNET_PACKET_LEN) (add_first piece.len n (frames_len fs)) fit)
      ];
    }

is_short : (frames : List ReadFrameData) → IsPiece frames → IsShortPiece frames
is_short [] p = p
is_short (f ∷ fs) p =
    let s = are_short (begun f) fs p in (
      s.fall,
      s.within,
      elim s.fit as (λ _. (fs ≡ []) ⊎ (written_len WithSum (data_len [] + frames_len (f ∷ fs)) ≤ MAX_ETHERNET_PACKET_LEN)) [
        | inl none ↦ inl none
        | inr fit ↦ inr (subst (λ k. written_len WithSum k ≤ MAX_ETHERNET_PACKET_LEN)
            (add_first (data_len []) (frame_len (length f.bytes)) (frames_len fs)) fit)
      ],
    )

all_short : (pieces : List (List ReadFrameData)) → AllByRecursion IsPiece pieces → AllByRecursion IsShortPiece pieces
all_short [] all = tt
all_short (p ∷ ps) all = (is_short p all.0, all_short ps all.1)

pub pieces_short : (frames : List ReadFrameData) (pieces : List (List ReadFrameData)) → AreCut frames pieces → AllByRecursion IsShortPiece pieces
pieces_short frames pieces cut = all_short pieces cut.each
