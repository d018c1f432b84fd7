-- What is written of pieces, packet by packet, is what a reader finds.
use Rattle.std.proofs.Common.{ℕ, ◌+◌, ◌^◌, ◌≡◌, ◌<◌, Bool, inl, inr, List, [], ◌∷◌, ◌++◌, length, None, All, refl, sym, ap, subst, ◌∙◌, arith}
use Rattle.std.specs.Prelude.{if◌then◌else◌}
use Rattle.std.specs.List.{flat_map, filter}
use Rattle.std.proofs.lemmas.Bool.{cases_Bool}
use Rattle.std.proofs.lemmas.List.{append_assoc, append-nil}
use Rattle.std.proofs.lemmas.List.Elements.{All-head, All-tail}
use Rattle.ch11_packet.specs.Profiles.{Profile}
use Rattle.ch11_packet.specs.Profiles.Profile.{WithSum}
use Rattle.ch11_packet.specs.PacketLen.{written_len}
use Rattle.rec_lane.specs.Pieces.{PieceData}
use Rattle.rec_writer.specs.Encoding.{packet_channel, next_sequence, piece_bytes, packet_in, output_in, writer_output}
use Rattle.rec_writer.specs.Recording.{is_of}
use Rattle.rec_reader.specs.Packets.{PacketData, BeginsPackets}
use Rattle.rec_reader.specs.Reading.{Reads}
use Rattle.rec_reader.specs.ChannelFrames.{channel_frames}
use Rattle.rec_theorem.proofs.Spelled.{IsWritable, read_packet, spells_piece, frames_read, Reflects, reflects}

-- the packets of pieces after some earlier ones, in a profile, from a place on
abbrev pub packets_after : (profile : Profile) (version at : ℕ) → (earlier pieces : List PieceData) → List PacketData
packets_after profile version at earlier [] = []
packets_after profile version at earlier (p ∷ ps) =
    read_packet profile p version (next_sequence earlier (packet_channel p)) at
    ∷ packets_after profile version (at + written_len profile (length (piece_bytes p))) (earlier ++ p ∷ []) ps

-- the packets of all pieces, as they are written
abbrev pub packets_of : (version : ℕ) → List PieceData → List PacketData
packets_of version pieces = packets_after WithSum version 0 [] pieces

-- a sequence number is a byte
pub sequence_fits : (earlier : List PieceData) (channel : ℕ) → next_sequence earlier channel < 2 ^ 8
sequence_fits earlier channel = omega arith

-- the bytes of pieces, and then any others, begin with the packets of the pieces
pub they_begin : (profile : Profile) (version at : ℕ) (earlier pieces : List PieceData) (tail : List ℕ) → version < 2 ^ 8 → All IsWritable pieces
    → BeginsPackets at (packets_after profile version at earlier pieces) (output_in profile version earlier pieces ++ tail) tail
they_begin profile version at earlier [] tail small all = refl
they_begin profile version at earlier (p ∷ ps) tail small all =
    let sequence = next_sequence earlier (packet_channel p) in
    let rest = output_in profile version (earlier ++ p ∷ []) ps in (
      rest ++ tail,
      record {
        place = refl;
        spelling = packet_in profile p version sequence;
        spelled = spells_piece profile p version sequence at (All-head IsWritable p ps all) small (sequence_fits earlier (packet_channel p));
        whole = append_assoc (packet_in profile p version sequence) rest tail;
      },
      they_begin profile version (at + written_len profile (length (piece_bytes p))) (earlier ++ p ∷ []) ps tail small (All-tail IsWritable p ps all),
    )

-- so the bytes of pieces have a reading without fault
pub reads_pieces : (version : ℕ) (pieces : List PieceData) → version < 2 ^ 8 → All IsWritable pieces
    → Reads (writer_output version pieces) (packets_of version pieces) None
reads_pieces version pieces small all =
    subst (λ bs. Reads bs (packets_of version pieces) None) (append-nil (writer_output version pieces))
    (record { rest = []; held = they_begin WithSum version 0 [] pieces [] small all; ends = refl })

-- ---- packets beside their pieces

-- each packet reflects the piece at its place
abbrev pub AllReflect : List PacketData → List PieceData → Type 0
AllReflect [] [] = Unit {0}
AllReflect [] (p ∷ ps) = ⊥
AllReflect (q ∷ qs) [] = ⊥
AllReflect (q ∷ qs) (p ∷ ps) = Reflects q p × AllReflect qs ps

-- packets reflect their pieces, one by one
pub they_reflect : (profile : Profile) (version at : ℕ) (earlier pieces : List PieceData) → All IsWritable pieces
    → AllReflect (packets_after profile version at earlier pieces) pieces
they_reflect profile version at earlier [] all = tt
they_reflect profile version at earlier (p ∷ ps) all = (
  reflects profile p version (next_sequence earlier (packet_channel p)) at (All-head IsWritable p ps all),
  they_reflect profile version (at + written_len profile (length (piece_bytes p))) (earlier ++ p ∷ []) ps (All-tail IsWritable p ps all),
)

pub all_reflect : (version : ℕ) (pieces : List PieceData) → All IsWritable pieces → AllReflect (packets_of version pieces) pieces
all_reflect version pieces all = they_reflect WithSum version 0 [] pieces all

-- ---- their frames

-- of the pieces that pass a test, those that a function gives
pub flat_filter : {X Y : Type 0} (test : X → Bool) (f : X → List Y) (x : X) (xs : List X)
    → flat_map f (filter test (x ∷ xs)) ≡ (if test x then f x else []) ++ flat_map f (filter test xs)
flat_filter test f x xs = elim (cases_Bool (test x)) as (λ _. flat_map f (filter test (x ∷ xs)) ≡ (if test x then f x else []) ++ flat_map f (filter test xs)) [
  | inl passes ↦ rw passes refl
  | inr fails ↦ rw fails refl
]

-- the frames of a channel in the packets are those of its pieces
pub frames_reflected : (channel : ℕ) (packets : List PacketData) (pieces : List PieceData) → AllReflect packets pieces
    → channel_frames channel packets ≡ flat_map frames_read (filter (is_of channel) pieces)
frames_reflected channel [] [] all = refl
frames_reflected channel [] (p ∷ ps) all = absurd all
frames_reflected channel (q ∷ qs) [] all = absurd all
frames_reflected channel (q ∷ qs) (p ∷ ps) all =
    ap (λ fs. fs ++ channel_frames channel qs) (all.0.frames channel)
    ∙ (ap (λ fs. (if is_of channel p then frames_read p else []) ++ fs) (frames_reflected channel qs ps all.1)
    ∙ sym (flat_filter (is_of channel) frames_read p ps))
