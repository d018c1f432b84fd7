-- The upgrade of the packets of pieces in the first profile.
use Rattle.std.proofs.Common.{ℕ, ◌+◌, ◌^◌, ◌≡◌, ◌<◌, ◌≤◌, true, false, List, [], ◌∷◌, ◌++◌, length, map, Option, None, All, refl, sym, ap, subst, ◌∙◌, arith}
use Rattle.std.specs.Prelude.{◌&&◌, not, nat_le}
use Rattle.std.proofs.lemmas.Bool.{and_from, le-leb, cond-true}
use Rattle.std.proofs.lemmas.List.{take_at, append-nil}
use Rattle.std.proofs.lemmas.List.Elements.{All-nil, All-cons, All-head, All-tail, All-weaker}
use Rattle.ch11_packet.specs.declared.header.TheConstants.{MAX_ETHERNET_PACKET_LEN}
use Rattle.ch11_packet.specs.declared.limit.TheConstants.{MAX_LIMIT}
use Rattle.ch11_packet.specs.Profiles.Profile.{WithoutSum, WithSum}
use Rattle.ch11_packet.specs.Header.{header_bytes}
use Rattle.ch11_packet.specs.PacketLen.{packet_len, written_len}
use Rattle.ch11_packet.specs.Packet.{packet_trailer}
use Rattle.ch11_packet.specs.Classes.{data_in}
use Rattle.rec_lane.specs.Pieces.{PieceData}
use Rattle.rec_lane.specs.Pieces.PieceData.{OfProgram, OfFrames, OfEnd}
use Rattle.rec_writer.specs.Encoding.{packet_channel, next_sequence, piece_bytes, header_in, packet_in, output_in, writer_output}
use Rattle.rec_reader.specs.declared.fault.ReadFaultKind.{ReadFaultKind}
use Rattle.rec_reader.specs.Packets.{PacketData}
use Rattle.rec_reader.specs.Reading.{Reads}
use Rattle.rec_reader.specs.Audits.{is_other}
use Rattle.rec_reader.specs.Upgrades.{is_old, with_checksum, upgraded, spelling_of, upgrade_bytes}
use Rattle.rec_theorem.specs.OldRecordings.{IsOldPiece, old_output}
use Rattle.rec_theorem.proofs.Spelled.{IsWritable, held_by, read_packet}
use Rattle.rec_theorem.proofs.PacketReadings.{packets_after, they_begin}

writable : (piece : PieceData) → IsOldPiece piece → IsWritable piece
writable (OfProgram channel counter version first program) is = is.in_range
writable (OfFrames channel body) is = (is.in_range.0, is.in_range.2)
writable (OfEnd channel counter offered kept) is = is.in_range

all_writable : (pieces : List PieceData) → All IsOldPiece pieces → All IsWritable pieces
all_writable pieces all = All-weaker IsOldPiece IsWritable writable pieces all

-- ---- one packet

holds_ours : (piece : PieceData) → not (is_other (held_by piece)) ≡ true
holds_ours (OfProgram channel counter version first program) = refl
holds_ours (OfFrames channel body) = refl
holds_ours (OfEnd channel counter offered kept) = refl

still_short : (n : ℕ) → packet_len n ≤ MAX_LIMIT → written_len WithSum n ≤ MAX_ETHERNET_PACKET_LEN
still_short n fits = omega (arith, fits)

module _ (piece : PieceData) (version sequence at : ℕ) (is : IsOldPiece piece) where
  is_old_packet : is_old (read_packet WithoutSum piece version sequence at) ≡ true
  is_old_packet =
      and_from (not (is_other (held_by piece)) && (true && true)) (nat_le (written_len WithSum (length (piece_bytes piece))) MAX_ETHERNET_PACKET_LEN)
      (and_from (not (is_other (held_by piece))) (true && true) (holds_ours piece) refl)
      (le-leb (written_len WithSum (length (piece_bytes piece))) MAX_ETHERNET_PACKET_LEN (still_short (length (piece_bytes piece)) is.fits))

  own_bytes : data_in (header_in WithoutSum piece version sequence) (piece_bytes piece ++ packet_trailer WithoutSum (piece_bytes piece)) ≡ piece_bytes piece
  own_bytes = take_at (piece_bytes piece) (packet_trailer WithoutSum (piece_bytes piece)) (length (piece_bytes piece)) refl

  spelled_anew : spelling_of (upgraded (read_packet WithoutSum piece version sequence at)) ≡ packet_in WithSum piece version sequence
  spelled_anew =
      ap spelling_of (cond-true (is_old (read_packet WithoutSum piece version sequence at)) (with_checksum (read_packet WithoutSum piece version sequence at))
      (read_packet WithoutSum piece version sequence at) is_old_packet)
      ∙ ap (λ l. header_bytes (header_in WithSum piece version sequence) ++ (l ++ packet_trailer WithSum l)) own_bytes

-- ---- all packets

upgraded_from : (version at : ℕ) (earlier pieces : List PieceData) → All IsOldPiece pieces
    → upgrade_bytes (packets_after WithoutSum version at earlier pieces) ≡ output_in WithSum version earlier pieces
upgraded_from version at earlier [] all = refl
upgraded_from version at earlier (p ∷ ps) all =
    let sequence = next_sequence earlier (packet_channel p) in
    let next = at + written_len WithoutSum (length (piece_bytes p)) in
    ap (λ l. l ++ upgrade_bytes (packets_after WithoutSum version next (earlier ++ p ∷ []) ps))
    (spelled_anew p version sequence at (All-head IsOldPiece p ps all))
    ∙ ap (λ l. packet_in WithSum p version sequence ++ l) (upgraded_from version next (earlier ++ p ∷ []) ps (All-tail IsOldPiece p ps all))

old_from : (version at : ℕ) (earlier pieces : List PieceData) → All IsOldPiece pieces
    → All (λ (packet : PacketData). is_old packet ≡ true) (packets_after WithoutSum version at earlier pieces)
old_from version at earlier [] all = All-nil (λ (packet : PacketData). is_old packet ≡ true)
old_from version at earlier (p ∷ ps) all =
    let sequence = next_sequence earlier (packet_channel p) in
    All-cons (λ (packet : PacketData). is_old packet ≡ true) (read_packet WithoutSum p version sequence at)
    (packets_after WithoutSum version (at + written_len WithoutSum (length (piece_bytes p))) (earlier ++ p ∷ []) ps)
    (is_old_packet p version sequence at (All-head IsOldPiece p ps all))
    (old_from version (at + written_len WithoutSum (length (piece_bytes p))) (earlier ++ p ∷ []) ps (All-tail IsOldPiece p ps all))

pub reads_old : (version : ℕ) (pieces : List PieceData) → version < 2 ^ 8 → All IsOldPiece pieces
    → Reads (old_output version pieces) (packets_after WithoutSum version 0 [] pieces) None
reads_old version pieces small all =
    subst (λ bs. Reads bs (packets_after WithoutSum version 0 [] pieces) None) (append-nil (old_output version pieces))
    (record { rest = []; held = they_begin WithoutSum version 0 [] pieces [] small (all_writable pieces all); ends = refl })

-- bytes have one reading
abbrev pub HaveOneReading : Type 0
HaveOneReading =
    (bytes : List ℕ) (packets others : List PacketData) (fault other : Option ReadFaultKind) → Reads bytes packets fault → Reads bytes others other
    → (packets ≡ others) × (fault ≡ other)

they_are : HaveOneReading → (version : ℕ) (pieces : List PieceData) (packets : List PacketData) → version < 2 ^ 8 → All IsOldPiece pieces
    → Reads (old_output version pieces) packets None
    → packets ≡ packets_after WithoutSum version 0 [] pieces
they_are one version pieces packets small all reads =
    (one (old_output version pieces) packets (packets_after WithoutSum version 0 [] pieces) None None reads (reads_old version pieces small all)).0

pub become_new : HaveOneReading → (version : ℕ) (pieces : List PieceData) (packets : List PacketData) → version < 2 ^ 8 → All IsOldPiece pieces
    → Reads (old_output version pieces) packets None
    → upgrade_bytes packets ≡ writer_output version pieces
become_new one version pieces packets small all reads =
    ap upgrade_bytes (they_are one version pieces packets small all reads) ∙ upgraded_from version 0 [] pieces all

pub each_is_old : HaveOneReading → (version : ℕ) (pieces : List PieceData) (packets : List PacketData) → version < 2 ^ 8 → All IsOldPiece pieces
    → Reads (old_output version pieces) packets None
    → All (λ (packet : PacketData). is_old packet ≡ true) packets
each_is_old one version pieces packets small all reads =
    subst (λ ps. All (λ (packet : PacketData). is_old packet ≡ true) ps) (sym (they_are one version pieces packets small all reads))
    (old_from version 0 [] pieces all)
