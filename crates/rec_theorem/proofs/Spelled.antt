-- The packet of one piece as a reader has it, in either profile: its bytes spell a packet, whose
-- frames and whose saying are those of the piece.
-- idea: the writer's packet and the reader's are the same bytes by definition; what is left is that the fields which the
-- reader takes out of them are those which the writer put in, kind by kind of a piece.
use Rattle.std.proofs.Common.{ℕ, ◌+◌, ◌%◌, ◌^◌, ◌≡◌, ◌≤◌, ◌<◌, ◌==◌, List, [], ◌++◌, length, map, Some, true, false, refl, sym, ap, subst, ◌∙◌, arith}
use Rattle.std.specs.Prelude.{if◌then◌else◌}
use Rattle.std.proofs.lemmas.List.{take_at, length-map}
use Rattle.bpf_insn.specs.declared.insn.Insn.{Insn}
use Rattle.ch11_packet.specs.declared.class.What.{What}
use Rattle.ch11_packet.specs.declared.class.What.TheVariants.{Frames, Program, End}
use Rattle.ch11_packet.specs.declared.header.TheConstants.{HEADER_LEN, ETHERNET_DATA, COMPUTER_GENERATED_DATA, MAX_ETHERNET_PACKET_LEN}
use Rattle.ch11_packet.specs.Header.{IsHeader, header_of}
use Rattle.ch11_packet.specs.Profiles.{Profile, profile_flags}
use Rattle.ch11_packet.specs.Profiles.Profile.{WithoutSum, WithSum}
use Rattle.ch11_packet.specs.PacketLen.{packet_len, written_len}
use Rattle.ch11_packet.specs.Packet.{packet_trailer}
use Rattle.ch11_packet.specs.declared.limit.TheConstants.{MAX_LIMIT}
use Rattle.ch11_packet.specs.declared.sum.TheConstants.{CHECKSUM_LEN}
use Rattle.ch11_packet.specs.Frames.{data_bytes}
use Rattle.ch11_packet.specs.FramesRead.{ReadFrameData, body_frame}
use Rattle.ch11_packet.specs.Building.{EthernetBody, IsEthernetBody, first_counter}
use Rattle.ch11_packet.specs.Flags.{HasChecksum, IsPlain}
use Rattle.ch11_packet.specs.Classes.{HasClass, HasSum, data_in, said_frames}
use Rattle.ch11_packet.specs.Records.{EndData, IsEndRecord, program_bytes, end_bytes}
use Rattle.ch11_packet.specs.RecordsRead.{IsProgramRecord, SpellsRecord}
use Rattle.ch11_packet.specs.RecordsRead.RecordData.{OfProgram as ProgramRecord, OfEnd as EndRecord}
use Rattle.ch11_packet.proofs.Bodies.{SpellsBody-written, first_counter-fits}
use Rattle.ch11_packet.proofs.Classing.{said_by_body}
use Rattle.ch11_packet.proofs.Lengths.{length-packet, length-data, length-program, length-end}
use Rattle.ch11_packet.proofs.Summed.{written_sum}
use Rattle.rec_lane.specs.Pieces.{PieceData, channel_of}
use Rattle.rec_lane.specs.Pieces.PieceData.{OfProgram, OfFrames, OfEnd}
use Rattle.rec_writer.specs.Encoding.{piece_bytes, header_in, packet_in}
use Rattle.rec_writer.specs.Recording.{is_of}
use Rattle.rec_reader.specs.Packets.{PacketData, SpellsPacket}
use Rattle.rec_reader.specs.ChannelFrames.{packet_frames}
use Rattle.rec_reader.specs.Channels.{Saying, saying_of}
use Rattle.rec_reader.specs.Channels.Saying.{OfFrames as SaysFrames, OfProgram as SaysProgram, OfEnd as SaysEnd}
use Rattle.rec_reader.proofs.StoredPrograms.{says_record}
use Rattle.rec_theorem.proofs.JoinedLists.{nothing_if}

-- the piece's numbers fit its packet
abbrev pub IsWritable : PieceData → Type 0
IsWritable (OfProgram channel counter version first program) = IsProgramRecord channel version first program × (counter < 2 ^ 48)
IsWritable (OfFrames channel body) = IsEthernetBody body × (channel < 2 ^ 16)
IsWritable (OfEnd channel counter offered kept) = IsEndRecord (record { channel = channel; offered = offered; kept = kept }) × (counter < 2 ^ 48)

-- what the piece's packet holds
abbrev pub held_by : PieceData → What
held_by (OfProgram channel counter version first program) = Program channel version first (length program)
held_by (OfFrames channel body) = Frames (length body.frames)
held_by (OfEnd channel counter offered kept) = End channel offered kept

-- the packet itself in a profile, at a place
abbrev pub read_packet : Profile → PieceData → (version sequence at : ℕ) → PacketData
read_packet profile piece version sequence at = record {
  at = at;
  header = header_in profile piece version sequence;
  body = piece_bytes piece ++ packet_trailer profile (piece_bytes piece);
  what = held_by piece;
}

-- ---- its header

-- the packet's length of data of a length: it holds them and its header, and where the flags report
-- one the data checksum, and is a multiple of 4
len_holds : (profile : Profile) (n : ℕ) → HEADER_LEN + n ≤ written_len profile n
len_holds WithoutSum n = omega arith
len_holds WithSum n = omega arith

len_aligned : (profile : Profile) (n : ℕ) → written_len profile n % 4 ≡ 0
len_aligned WithoutSum n = omega arith
len_aligned WithSum n = omega arith

len_fits : (profile : Profile) (n : ℕ) → n < 2 ^ 31 → written_len profile n < 2 ^ 32
len_fits WithoutSum n few = omega (arith, few)
len_fits WithSum n few = omega (arith, few)

len_most : (profile : Profile) (n : ℕ) → packet_len n ≤ MAX_LIMIT → written_len profile n ≤ MAX_ETHERNET_PACKET_LEN
len_most WithoutSum n below = omega (arith, below)
len_most WithSum n below = omega (arith, below)

-- flags of 0 report no data checksum
not_checked : HasChecksum 0 → ⊥
not_checked has = let high : false ≡ true = has.high in cc

len_checked : (profile : Profile) (n : ℕ) → HasChecksum (profile_flags profile) → HEADER_LEN + n + CHECKSUM_LEN ≤ written_len profile n
len_checked WithoutSum n has = absurd (not_checked has)
len_checked WithSum n has = omega arith

flags_fit : (profile : Profile) → profile_flags profile < 2 ^ 8
flags_fit WithoutSum = omega arith
flags_fit WithSum = omega arith

-- a header of numbers in range, with the packet's length from the data's, is one
made_header : (profile : Profile) (channel n version sequence kind counter : ℕ) → channel < 2 ^ 16 → written_len profile n < 2 ^ 32 → version < 2 ^ 8
    → sequence < 2 ^ 8 → kind < 2 ^ 8 → counter < 2 ^ 48
    → (kind ≡ ETHERNET_DATA → written_len profile n ≤ MAX_ETHERNET_PACKET_LEN)
    → IsHeader (header_of channel (written_len profile n) n version sequence (profile_flags profile) kind counter)
made_header profile channel n version sequence kind counter a b c d e f most = record {
  channel = a;
  packet_len = b;
  version = c;
  sequence = d;
  flags = flags_fit profile;
  kind = e;
  counter = f;
  lengths = record { holds = len_holds profile n; checked = len_checked profile n; aligned = len_aligned profile n; most = most };
}

record_header : (profile : Profile) (n version sequence counter : ℕ) → n < 2 ^ 31 → version < 2 ^ 8 → sequence < 2 ^ 8 → counter < 2 ^ 48
    → IsHeader (header_of 0 (written_len profile n) n version sequence (profile_flags profile) COMPUTER_GENERATED_DATA counter)
record_header profile n version sequence counter few a b c =
    made_header profile 0 n version sequence COMPUTER_GENERATED_DATA counter (omega arith) (len_fits profile n few) a b (omega arith) c
    (λ other. absurd (omega (arith, other)))

-- so is that of each writable piece
is_header : (profile : Profile) (piece : PieceData) (version sequence : ℕ) → IsWritable piece → version < 2 ^ 8 → sequence < 2 ^ 8
    → IsHeader (header_in profile piece version sequence)
is_header profile (OfProgram channel counter v first program) version sequence is a b =
    let long = length-program channel v first program in
    let few = is.0.few in
    record_header profile (length (program_bytes channel v first program)) version sequence counter (omega (arith, long, few)) a b is.1
is_header profile (OfFrames channel body) version sequence is a b =
    let long = length-data body.net body.speed body.frames in
    let below : packet_len (length (data_bytes body.net body.speed body.frames)) ≤ MAX_LIMIT = subst (λ n. packet_len n ≤ MAX_LIMIT) (sym long) is.0.fits in
    let most = len_most profile (length (data_bytes body.net body.speed body.frames)) below in
    made_header profile channel (length (data_bytes body.net body.speed body.frames)) version sequence ETHERNET_DATA (first_counter body.frames) is.1
    (omega (arith, most)) a b (omega arith) (first_counter-fits body.frames is.0.in_range) (λ _. most)
is_header profile (OfEnd channel counter offered kept) version sequence is a b =
    let long = length-end (record { channel = channel; offered = offered; kept = kept }) in
    record_header profile (length (end_bytes (record { channel = channel; offered = offered; kept = kept }))) version sequence counter (omega (arith, long)) a
    b is.1

-- ---- what it holds

-- the flags are those of a plain packet
plain : (profile : Profile) → IsPlain (profile_flags profile)
plain WithoutSum = record { no_secondary_header = refl; no_secondary_times = refl; whole_checksum = refl }
plain WithSum = record { no_secondary_header = refl; no_secondary_times = refl; whole_checksum = refl }

-- the written records are spelled with zeros where anything may stand
spells_program : (channel version first : ℕ) (program : List Insn) → IsProgramRecord channel version first program
    → SpellsRecord (ProgramRecord channel version first program) (program_bytes channel version first program)
unfolding program_bytes
spells_program channel version first program is = (is, 0, 0, refl)

spells_end : (end : EndData) → IsEndRecord end → SpellsRecord (EndRecord end) (end_bytes end)
unfolding end_bytes
spells_end end is = (is, 0, refl)

-- the packet's data are the piece's body, without what stands behind it
data_are : (profile : Profile) (piece : PieceData) (version sequence : ℕ)
    → data_in (header_in profile piece version sequence) (piece_bytes piece ++ packet_trailer profile (piece_bytes piece)) ≡ piece_bytes piece
data_are profile piece version sequence = take_at (piece_bytes piece) (packet_trailer profile (piece_bytes piece)) (length (piece_bytes piece)) refl

-- the data checksum is right where there is one
summed : (profile : Profile) (body : List ℕ) → HasChecksum (profile_flags profile) → HasSum (body ++ packet_trailer profile body)
summed WithoutSum body has = absurd (not_checked has)
summed WithSum body has = written_sum body

-- a piece's body is what its kind says
has_class : (profile : Profile) (piece : PieceData) (version sequence : ℕ) → IsWritable piece
    → HasClass (header_in profile piece version sequence) (piece_bytes piece) (held_by piece)
has_class profile (OfProgram channel counter v first program) version sequence is =
    ((plain profile, refl, refl), program, spells_program channel v first program is.0, refl)
has_class profile (OfFrames channel body) version sequence is = (
  (plain profile, refl),
  map (body_frame body.net body.speed) body.frames,
  SpellsBody-written body is.0,
  length-map body.frames (body_frame body.net body.speed),
)
has_class profile (OfEnd channel counter offered kept) version sequence is =
    ((plain profile, refl, refl), spells_end (record { channel = channel; offered = offered; kept = kept }) is.0)

-- the bytes of a piece's packet spell it
pub spells_piece : (profile : Profile) (piece : PieceData) (version sequence at : ℕ) → IsWritable piece → version < 2 ^ 8 → sequence < 2 ^ 8
    → SpellsPacket (read_packet profile piece version sequence at) (packet_in profile piece version sequence)
spells_piece profile piece version sequence at is a b = record {
  is_header = is_header profile piece version sequence is a b;
  whole = refl;
  long = length-packet profile (header_in profile piece version sequence) (piece_bytes piece);
  holds = record {
    class = subst (λ l. HasClass (header_in profile piece version sequence) l (held_by piece)) (sym (data_are profile piece version sequence))
        (has_class profile piece version sequence is);
    summed = λ _ has. summed profile (piece_bytes piece) has;
  };
}

-- ---- what it says

-- the frames of a piece as they are read
abbrev pub frames_read : PieceData → List ReadFrameData
frames_read (OfFrames channel body) = map (body_frame body.net body.speed) body.frames
frames_read other = []

-- what a piece says of its channel
abbrev pub said_by : PieceData → Saying
said_by (OfProgram channel counter version first program) = SaysProgram (record { version = version; first = first; insns = program })
said_by (OfFrames channel body) = SaysFrames (map (body_frame body.net body.speed) body.frames)
said_by (OfEnd channel counter offered kept) = SaysEnd (record { offered = offered; kept = kept })

-- the packet has the piece's frames, and says what the piece says
pub record Reflects (packet : PacketData) (piece : PieceData) : Type 0 where
  pub frames : (channel : ℕ) → (if packet.header.channel == channel then packet_frames packet else []) ≡ (if is_of channel piece then frames_read piece else [])
  pub says : saying_of packet ≡ Some (channel_of piece, said_by piece)

-- the body of a packet of frames says these frames
frames_said : (profile : Profile) (channel : ℕ) (body : EthernetBody) (version sequence : ℕ) → IsEthernetBody body
    → said_frames (data_in (header_in profile (OfFrames channel body) version sequence)
    (piece_bytes (OfFrames channel body) ++ packet_trailer profile (piece_bytes (OfFrames channel body))))
    ≡ map (body_frame body.net body.speed) body.frames
frames_said profile channel body version sequence is =
    ap said_frames (data_are profile (OfFrames channel body) version sequence)
    ∙ said_by_body (map (body_frame body.net body.speed) body.frames) (data_bytes body.net body.speed body.frames) (SpellsBody-written body is)

-- each kind of piece is reflected by its packet
pub reflects : (profile : Profile) (piece : PieceData) (version sequence at : ℕ) → IsWritable piece
    → Reflects (read_packet profile piece version sequence at) piece
reflects profile (OfProgram channel counter v first program) version sequence at is = record {
  frames = λ other. sym (nothing_if (0 == other)) ∙ nothing_if (channel == other);
  says = says_record (read_packet profile (OfProgram channel counter v first program) version sequence at) channel v first program refl
      (subst (SpellsRecord (ProgramRecord channel v first program)) (sym (data_are profile (OfProgram channel counter v first program) version sequence))
      (spells_program channel v first program is.0));
}
reflects profile (OfFrames channel body) version sequence at is = record {
  frames = λ other. ap (λ fs. if channel == other then fs else []) (frames_said profile channel body version sequence is.0);
  says = ap (λ fs. Some (channel, SaysFrames fs)) (frames_said profile channel body version sequence is.0);
}
reflects profile (OfEnd channel counter offered kept) version sequence at is = record {
  frames = λ other. sym (nothing_if (0 == other)) ∙ nothing_if (channel == other);
  says = refl;
}
