-- The pieces of a recording's packets, by their places.
use Rattle.std.proofs.Common.{ℕ, ◌+◌, ◌≡◌, ◌≢◌, List, [], ◌∷◌, ◌++◌, drop, Option, None, Some, map}
use Rattle.std.proofs.Common.{refl, sym, ◌∙◌, ap, subst, arith, append-nil, inl, inr, true, false}
use Rattle.std.specs.Prelude.{◌==◌, if◌then◌else◌, Bool}
use Rattle.std.specs.List.{flat_map}
use Rattle.std.proofs.lemmas.Bool.{cases_Bool, ne_eqb, eqb-true}
use Rattle.std.proofs.lemmas.Grind.{flat_map-append}
use Rattle.std.proofs.lemmas.List.{drop-drop, drop_at}
use Rattle.ch11_packet.specs.declared.class.What.{What}
use Rattle.ch11_packet.specs.declared.class.What.TheVariants.{Frames as HoldsFrames, Program, End, Other}
use Rattle.ch11_packet.specs.Classes.{data_in, said_frames}
use Rattle.ch11_packet.specs.FramesRead.{ReadFrameData}
use Rattle.ch11_packet.specs.Header.{HeaderData}
use Rattle.ch11_merge.specs.Merging.{FilePiece}
use Rattle.ch11_merge.specs.Parts.{frames_pieces, frames_of_piece}
use Rattle.ch11_merge.specs.Pieces.{joined_frames}
use Rattle.ch11_merge.proofs.Cutting.{pieces_cut}
use Rattle.rec_reader.specs.Packets.{PacketData, PacketStandsFirst, BeginsPackets}
use Rattle.rec_reader.specs.Reading.{Reads}
use Rattle.rec_reader.specs.ChannelFrames.{channel_frames, packet_frames, frames_held}
use Rattle.rec_pieces.specs.declared.entry.PieceKind.{PieceKind}
use Rattle.rec_pieces.specs.declared.entry.PieceKind.TheVariants.{Record, Uncounted}
use Rattle.rec_pieces.specs.Entries.{named_by, pieces_of, pieces_at, packet_names, pieces_named, pieces_of_packet, pieces_of_channel}
use Rattle.rec_pieces.specs.Entries.{AreThere, IsThere, PacketPlaces, places_of}
use Rattle.rec_pieces.specs.Listings.{entry_named, entry_of_packet, channel_entries}
use Rattle.rec_pieces.specs.Sources.{pieces_to_come}
use Rattle.rec_pieces.proofs.PlacedPackets.{first_is_read}

-- ---- one packet

same_pieces : (kind : PieceKind) (place c d : ℕ) (xs ys : List ℕ) → c ≡ d → xs ≡ ys → pieces_of kind place c xs ≡ pieces_of kind place d ys
same_pieces kind place c d xs ys ec ex = ap (λ n. pieces_of kind place n xs) ec ∙ ap (pieces_of kind place d) ex

named_there : (channel at : ℕ) (places : PacketPlaces) (named : Option (ℕ × PieceKind)) (header : HeaderData) (held : List ℕ)
    → (places at).header ≡ header → (places at).held ≡ held
    → flat_map (pieces_at places) (entry_named channel at named) ≡ pieces_named channel named at header.counter held
named_there channel at places None header held h d = refl
named_there channel at places (Some (named, kind)) header held h d = here (named == channel)
  where
    here : (is : Bool) → flat_map (pieces_at places) (if is then record { at = at; kind = kind } ∷ [] else [])
        ≡ (if is then pieces_of kind at header.counter held else [])
    here true = append-nil _ ∙ same_pieces kind at _ _ _ _ (ap (λ (x : HeaderData). x.counter) h) d
    here false = refl

packet_there : (channel : ℕ) (places : PacketPlaces) (packet : PacketData) → IsThere (places packet.at) packet
    → flat_map (pieces_at places) (entry_of_packet channel packet) ≡ pieces_of_packet channel packet
packet_there channel places packet read =
    named_there channel packet.at places (packet_names packet) packet.header (data_in packet.header packet.body) read.header read.held

-- ---- all packets

pub placed_pieces : (places : PacketPlaces) (packets : List PacketData) → AreThere places packets → (channel : ℕ)
    → pieces_to_come (channel_entries channel packets) 0 places ≡ pieces_of_channel channel packets
placed_pieces places [] read channel = refl
placed_pieces places (p ∷ ps) read channel =
    flat_map-append (pieces_at places) (entry_of_packet channel p) (channel_entries channel ps)
    ∙ ap (λ l. l ++ flat_map (pieces_at places) (channel_entries channel ps)) (packet_there channel places p read.0)
    ∙ ap (λ l. pieces_of_packet channel p ++ l) (placed_pieces places ps read.1 channel)

-- ---- packets in bytes

behind_first : (at : ℕ) (packet : PacketData) (bytes more : List ℕ) → PacketStandsFirst at packet bytes more
    → drop packet.header.packet_len bytes ≡ more
behind_first at packet bytes more first =
    ap (drop packet.header.packet_len) first.whole ∙ drop_at first.spelling more packet.header.packet_len first.spelled.long

all_there : (at : ℕ) (bytes here rest : List ℕ) (packets : List PacketData) → here ≡ drop at bytes → BeginsPackets at packets here rest
    → AreThere (places_of bytes) packets
all_there at bytes here rest [] is begins = tt
all_there at bytes here rest (p ∷ ps) is begins =
    let first = begins.1 in
    let next : begins.0 ≡ drop (at + p.header.packet_len) bytes =
    sym (behind_first at p here begins.0 first) ∙ ap (drop p.header.packet_len) is ∙ drop-drop p.header.packet_len at bytes
    ∙ ap (λ n. drop n bytes) (omega arith) in (
      subst (λ n. IsThere (places_of bytes n) p) (sym first.place) (subst (λ l. IsThere (places_of l 0) p) is (first_is_read at p here begins.0 first)),
      all_there (at + p.header.packet_len) bytes begins.0 rest ps next begins.2,
    )

pub read_at_places : (bytes : List ℕ) (packets : List PacketData) → Reads bytes packets None → AreThere (places_of bytes) packets
read_at_places bytes packets reads = all_there 0 bytes bytes reads.rest packets refl reads.held

-- ---- the frames of a channel

joined : (pieces : List FilePiece) → joined_frames (map frames_of_piece pieces) ≡ flat_map frames_of_piece pieces
joined [] = refl
joined (p ∷ ps) = ap (λ l. frames_of_piece p ++ l) (joined ps)

frames_again : (place : ℕ) (frames : List ReadFrameData) → flat_map frames_of_piece (frames_pieces place frames) ≡ frames
frames_again place frames = sym (joined (frames_pieces place frames)) ∙ (pieces_cut place frames).whole

no_frames : (is uncounted : Bool) (place counter : ℕ) (bytes : List ℕ)
    → flat_map frames_of_piece (if is then pieces_of (if uncounted then Uncounted else Record) place counter bytes else []) ≡ []
no_frames true true place counter bytes = refl
no_frames true false place counter bytes = refl
no_frames false uncounted place counter bytes = refl

either_empty : (is : Bool) → ◌≡◌ {A = List ReadFrameData} [] (if is then [] else [])
either_empty true = refl
either_empty false = refl

of_frames : (place : ℕ) (is : Bool) (frames : List ReadFrameData)
    → flat_map frames_of_piece (if is then frames_pieces place frames else []) ≡ (if is then frames else [])
of_frames place true frames = frames_again place frames
of_frames place false frames = refl

-- the frames of channel 0 are none of another's
of_channel_0 : (channel own : ℕ) (frames : List ReadFrameData) → channel ≢ 0 → (own == 0) ≡ true → [] ≡ (if own == channel then frames else [])
of_channel_0 channel own frames some none =
    ap (λ b. if b then frames else []) (sym (ne_eqb own channel (λ e. some (sym e ∙ eqb-true own 0 none))))

frames_named : (channel own place counter : ℕ) (what : What) (bytes : List ℕ) → channel ≢ 0
    → flat_map frames_of_piece (pieces_named channel (named_by own what) place counter bytes) ≡ (if own == channel then frames_held what bytes else [])
frames_named channel own place counter (HoldsFrames count) bytes some = elim (cases_Bool (own == 0)) as (λ _.
    flat_map frames_of_piece (pieces_named channel (named_by own (HoldsFrames count)) place counter bytes)
    ≡ (if own == channel then said_frames bytes else [])) [
      | inl none ↦ rw none (of_channel_0 channel own (said_frames bytes) some none)
      | inr more ↦ rw more (of_frames place (own == channel) (said_frames bytes))
    ]
frames_named channel own place counter (Program named version first count) bytes some =
    no_frames (named == channel) false place counter bytes ∙ either_empty (own == channel)
frames_named channel own place counter (End named offered kept) bytes some =
    no_frames (named == channel) (offered == 0) place counter bytes ∙ either_empty (own == channel)
frames_named channel own place counter Other bytes some = either_empty (own == channel)

pub frames_in_pieces : (channel : ℕ) (packets : List PacketData) → channel ≢ 0
    → flat_map frames_of_piece (pieces_of_channel channel packets) ≡ channel_frames channel packets
frames_in_pieces channel [] some = refl
frames_in_pieces channel (p ∷ ps) some =
    flat_map-append frames_of_piece (pieces_of_packet channel p) (pieces_of_channel channel ps)
    ∙ ap (λ l. l ++ flat_map frames_of_piece (pieces_of_channel channel ps))
    (frames_named channel p.header.channel p.at p.header.counter p.what (data_in p.header p.body) some)
    ∙ ap (λ l. (if p.header.channel == channel then packet_frames p else []) ++ l) (frames_in_pieces channel ps some)
