-- Packets of pieces and then a part of one more: how they are read.
use Rattle.std.proofs.Common.{ℕ, ◌^◌, ◌≡◌, ◌≢◌, ◌<◌, ◌⊎◌, inl, inr, List, [], ◌∷◌, ◌++◌, length, Some, None, All, refl, sym, ap, subst, ◌∙◌, arith}
use Rattle.std.specs.List.{flat_map, filter, Any}
use Rattle.std.proofs.lemmas.List.{append_assoc, append-nil, length-append}
use Rattle.std.proofs.lemmas.List.Elements.{All-head, All-weaker, filter-append}
use Rattle.std.proofs.lemmas.Grind.{flat_map-append}
use Rattle.ch11_packet.specs.Profiles.Profile.{WithSum}
use Rattle.ch11_packet.proofs.Lengths.{length-packet}
use Rattle.rec_lane.specs.Offered.{accepted}
use Rattle.rec_lane.specs.Pieces.{PieceData, channel_of}
use Rattle.rec_lane.proofs.FramesMet.{heads}
use Rattle.rec_writer.specs.Encoding.{piece_packet, packet_channel, next_sequence, piece_bytes, piece_header, writer_output}
use Rattle.rec_writer.specs.Recording.{RecordedChannel, is_of}
use Rattle.rec_reader.specs.declared.fault.ReadFaultKind.TheVariants.{Truncated}
use Rattle.rec_reader.specs.Packets.{PacketData, PacketStandsFirst}
use Rattle.rec_reader.specs.Reading.{IsTruncated as IsCutPacket, Reads}
use Rattle.rec_reader.specs.ChannelFrames.{channel_frames}
use Rattle.rec_reader.proofs.CutRecordings.{reads_as_front}
use Rattle.rec_theorem.specs.Recordable.{IsRecordable, AreRecordable}
use Rattle.rec_theorem.specs.Found.{HasNoOthers, HasAccepted, BeginsAccepted, ReadsBack, ReadsBackCut}
use Rattle.rec_run.specs.Recorded.{IsCutOf, BeginsChannel}
use Rattle.rec_theorem.specs.Cut.{IsCutRecording}
use Rattle.rec_theorem.proofs.JoinedLists.{All_front, All_back, All_with}
use Rattle.rec_theorem.proofs.Spelled.{IsWritable, read_packet, spells_piece, frames_read}
use Rattle.rec_theorem.proofs.PacketReadings.{packets_of, they_begin, all_reflect, frames_reflected, sequence_fits}
use Rattle.rec_theorem.proofs.Writable.{some_long}
use Rattle.rec_theorem.proofs.ReadBack.{OneReading}
use Rattle.rec_theorem.proofs.Recorded.{All_pieces, writable_channel, channel_read, no_others}

-- ---- a beginning of a recording

-- the frames of the first packets are the first frames
front_accepted : (channels : List RecordedChannel) (packets some more : List PacketData) → packets ≡ some ++ more → All (HasAccepted packets) channels
    → All (BeginsAccepted some) channels
front_accepted channels packets some more whole all =
    All-weaker (HasAccepted packets) (BeginsAccepted some) (λ c has. record {
      kept = has.kept;
      accepted = has.accepted;
      begins = (
        channel_frames c.settings.channel more,
        sym (flat_map-append _ some more) ∙ (ap (channel_frames c.settings.channel) (sym whole) ∙ has.found),
      );
    }) channels all

-- a reading that ends or is truncated
either_read : OneReading → (channels : List RecordedChannel) (bytes : List ℕ) (packets : List PacketData)
    → Reads bytes packets None ⊎ Reads bytes packets (Some Truncated) → All (BeginsAccepted packets) channels → HasNoOthers channels packets
    → ReadsBackCut channels bytes
either_read one channels bytes packets (inl reads) frames others_none =
    record {
      packets = packets;
      fault = None;
      cut = inl refl;
      reading =
          record { reads = reads; only = λ others other o. one bytes packets others None other reads o };
      frames = frames;
      no_others = others_none;
    }
either_read one channels bytes packets (inr reads) frames others_none =
    record {
      packets = packets;
      fault = Some Truncated;
      cut = inr refl;
      reading = record { reads = reads; only = λ others other o. one bytes packets others (Some Truncated) other reads o };
      frames = frames;
      no_others =
          others_none;
    }

-- what begins nothing is nothing
front_none : {X : Type 0} (xs ys : List X) → xs ++ ys ≡ [] → xs ≡ []
front_none [] ys none = refl
front_none (x ∷ xs) ys none = cc

-- a beginning of a recording is read as the first of its packets
pub front_read_back : OneReading → (channels : List RecordedChannel) (front rest : List ℕ) → ReadsBack channels (front ++ rest) → ReadsBackCut channels front
front_read_back one channels front rest back =
    let cut = reads_as_front front rest back.packets back.reading.reads in
    either_read one channels front cut.some cut.reads (front_accepted channels back.packets cut.some cut.more cut.whole back.frames)
    (λ channel apart. front_none (channel_frames channel cut.some) (channel_frames channel cut.more) (sym (flat_map-append _ cut.some cut.more)
    ∙ (ap (channel_frames channel) (sym cut.whole) ∙ back.no_others channel apart)))

-- ---- a part of a packet

-- whole packets are not shorter than themselves
too_long : (packet x : PacketData) (cut more_bytes : List ℕ) (xs more : List PacketData) → packet ∷ [] ≡ (x ∷ xs) ++ more
    → length cut < packet.header.packet_len → PacketStandsFirst 0 x cut more_bytes → ⊥
too_long packet x cut more_bytes xs more whole short first =
    let same : packet ≡ x = heads packet x [] (xs ++ more) whole in
    let long = first.spelled.long in
    let at = ap (λ (p : PacketData). p.header.packet_len) same in
    let bytes = ap length first.whole in
    let sum = length-append first.spelling more_bytes in
    omega (arith, long, at, bytes, sum, short)

-- what is read of a beginning that is shorter than the one packet
part_of : (packet : PacketData) (cut : List ℕ) (some more : List PacketData) → packet ∷ [] ≡ some ++ more → length cut < packet.header.packet_len
    → Reads cut some None ⊎ Reads cut some (Some Truncated) → (cut ≡ []) ⊎ IsCutPacket cut
part_of packet cut [] more whole short (inl reads) = inl (reads.held ∙ reads.ends)
part_of packet cut [] more whole short (inr reads) = inr (subst IsCutPacket (sym reads.held) reads.ends)
part_of packet cut (x ∷ xs) more whole short (inl reads) = absurd (too_long packet x cut reads.held.0 xs more whole short reads.held.1)
part_of packet cut (x ∷ xs) more whole short (inr reads) = absurd (too_long packet x cut reads.held.0 xs more whole short reads.held.1)

-- a proper beginning of a piece's packet is empty, or a packet that is cut
part_read : (version sequence : ℕ) (piece : PieceData) (cut rest : List ℕ) → IsWritable piece → version < 2 ^ 8 → sequence < 2 ^ 8
    → cut ++ rest ≡ piece_packet piece version sequence → rest ≢ [] → (cut ≡ []) ⊎ IsCutPacket cut
part_read version sequence piece cut rest is small fits whole some =
    let packet = read_packet WithSum piece version sequence 0 in
    let bytes = piece_packet piece version sequence in
    let reads : Reads (cut ++ rest) (packet ∷ []) None = record {
      rest = [];
      held = (
        [],
        record {
          place = refl;
          spelling = bytes;
          spelled = spells_piece WithSum piece version sequence 0 is small fits;
          whole = whole
              ∙ sym (append-nil bytes);
        },
        refl,
      );
      ends = refl;
    } in
    let long = length-packet WithSum (piece_header piece version sequence) (piece_bytes piece) in
    let both = ap length whole in
    let sum = length-append cut rest in
    let left = some_long rest some in
    let front = reads_as_front cut rest (packet ∷ []) reads in
    part_of packet cut front.some front.more front.whole (omega (arith, long, both, sum, left)) front.reads

-- packets of pieces and then such a beginning are read as these packets
cut_read : (version : ℕ) (pieces : List PieceData) (cut : List ℕ) → version < 2 ^ 8 → All IsWritable pieces → (cut ≡ []) ⊎ IsCutPacket cut
    → Reads (writer_output version pieces ++ cut) (packets_of version pieces) None
    ⊎ Reads (writer_output version pieces ++ cut) (packets_of version pieces) (Some Truncated)
cut_read version pieces cut small all (inl none) = inl (record { rest = cut; held = they_begin WithSum version 0 [] pieces cut small all; ends = none })
cut_read version pieces cut small all (inr part) = inr (record { rest = cut; held = they_begin WithSum version 0 [] pieces cut small all; ends = part })

-- a cut of one more piece, or of none
cut_of : (version : ℕ) (pieces begun : List PieceData) (cut : List ℕ) → version < 2 ^ 8 → All IsWritable begun → IsCutOf version pieces begun cut
    → (cut ≡ []) ⊎ IsCutPacket cut
cut_of version pieces [] cut small all is = inl is
cut_of version pieces (p ∷ []) cut small all is = part_read version (next_sequence pieces (packet_channel p)) p cut is.rest (All-head IsWritable p [] all)
    small (sequence_fits pieces (packet_channel p)) is.front is.some
cut_of version pieces (p ∷ q ∷ ps) cut small all is = absurd is

-- ---- what was taken of channels

-- those of the pieces that are of the channel are writable
taken_writable : (pieces : List PieceData) (c : RecordedChannel) → IsRecordable c → BeginsChannel pieces c
    → All IsWritable (filter (is_of c.settings.channel) pieces)
taken_writable pieces c is begin =
    All_front IsWritable (filter (is_of c.settings.channel) pieces) begin.2.0 (subst (All IsWritable) (sym begin.2.1) (writable_channel c begin.0 is begin.1))

-- the frames in these packets begin those of all pieces, since the pieces do
taken_frames : (version : ℕ) (pieces begun : List PieceData) (c : RecordedChannel) → All IsWritable pieces → BeginsChannel (pieces ++ begun) c
    → BeginsAccepted (packets_of version pieces) c
taken_frames version pieces begun c all begin =
    let channel = c.settings.channel in
    let mine = filter (is_of channel) pieces in
    let next = filter (is_of channel) begun in
    let rest = begin.2.0 in
    let whole : mine ++ (next ++ rest) ≡ begin.0 = sym (append_assoc mine next rest)
    ∙ (ap (λ ps. ps ++ rest) (sym (filter-append (is_of channel) pieces begun)) ∙ begin.2.1) in
    record {
      kept = accepted begin.1.0;
      accepted = (begin.1.0, begin.1.1, begin.1.2, refl);
      begins = (
        flat_map frames_read (next ++ rest),
        ap (λ fs. fs ++ flat_map frames_read (next ++ rest)) (frames_reflected channel (packets_of version pieces) pieces (all_reflect version pieces all))
            ∙ (sym (flat_map-append frames_read mine (next ++ rest))
            ∙ (ap (flat_map frames_read) (whole ∙ sym begin.1.3) ∙ channel_read c.settings begin.1.0)),
      );
    }

-- so a recording that was cut short is read back: a piece that was begun is not in the reading
pub cut_read_back : OneReading → (version : ℕ) (channels : List RecordedChannel) (bytes : List ℕ) → version < 2 ^ 8 → AreRecordable channels
    → IsCutRecording version channels bytes → ReadsBackCut channels bytes
cut_read_back one version channels bytes small are is =
    let taken = is.pieces ++ is.begun in
    let all = All_pieces IsWritable channels taken
    (All_with IsRecordable (BeginsChannel taken) (λ (c : RecordedChannel). All IsWritable (filter (is_of c.settings.channel) taken)) (taken_writable taken)
    channels are is.begin) is.named in
    let whole = All_front IsWritable is.pieces is.begun all in
    let packets = packets_of version is.pieces in
    either_read one channels bytes packets
    (subst (λ bs. Reads bs packets None ⊎ Reads bs packets (Some Truncated)) (sym is.bytes_are)
    (cut_read version is.pieces is.cut small whole (cut_of version is.pieces is.begun is.cut small (All_back IsWritable is.pieces is.begun all) is.cut_is)))
    (All-weaker (BeginsChannel taken) (BeginsAccepted packets) (λ c begin. taken_frames version is.pieces is.begun c whole begin) channels is.begin)
    (no_others packets is.pieces channels (all_reflect version is.pieces whole)
    (All_front (λ (piece : PieceData). Any (λ (c : RecordedChannel). c.settings.channel ≡ channel_of piece) channels) is.pieces is.begun is.named))
