-- A whole file keeps of each channel, also of one that isn't named, what its packets hold; and its packets are short.
use Rattle.std.proofs.Common.{ℕ, ◌^◌, ◌≡◌, ◌<◌, ◌⊎◌, inl, inr, List, [], ◌∷◌, ◌++◌, Option, None, Some, refl, sym, subst, ap, ◌∙◌}
use Rattle.std.specs.Prelude.{Bool, true, false, ◌==◌, if◌then◌else◌, slice_get}
use Rattle.std.specs.Option.{option_map}
use Rattle.std.specs.List.{AllByRecursion, flat_map}
use Rattle.std.proofs.lemmas.Bool.{cases_Bool, eqb-true, true≢false}
use Rattle.std.proofs.lemmas.Option.{none-some, same_Some, slice_get-map}
use Rattle.ch11_clock.specs.declared.origin.Origin.{Origin}
use Rattle.ch11_packet.specs.declared.class.What.{What}
use Rattle.ch11_packet.specs.declared.class.What.TheVariants.{Frames as HoldsFrames, Program, End, Other}
use Rattle.ch11_packet.specs.Header.{HeaderData, IsHeader}
use Rattle.ch11_packet.specs.Classes.{HasClass, data_in}
use Rattle.ch11_merge.specs.Merging.{FilePiece, ChannelLeft}
use Rattle.ch11_merge.specs.Merging.FilePiece.{OfFrames, OfRecord}
use Rattle.ch11_merge.specs.Kept.{held_in, held_of}
use Rattle.ch11_file.specs.declared.setup.FileSetup.{FileSetup}
use Rattle.ch11_file.specs.FileBlocks.{BlockContent, FileBlock, merged_in}
use Rattle.ch11_file.specs.FileBlocks.BlockContent.{SetupBlock, TimeBlock, PieceBlock, NodeBlock, RootBlock}
use Rattle.ch11_file.specs.WholeFile.{IsWholeFile}
use Rattle.ch11_file.proofs.FileMerges.{file_keeps, file_has_none_else}
use Rattle.rec_reader.specs.Packets.{PacketData}
use Rattle.rec_pieces.specs.declared.entry.PieceKind.{PieceKind}
use Rattle.rec_pieces.specs.declared.entry.PieceKind.TheVariants.{Frames, Record, Uncounted}
use Rattle.rec_pieces.specs.declared.entry.PieceEntry.{PieceEntry}
use Rattle.rec_pieces.specs.Entries.{named_by, packet_names, pieces_named, pieces_of, pieces_of_channel}
use Rattle.rec_pieces.specs.Listings.{channel_entries, entry_named, entry_of_packet}
use Rattle.rec_pieces.specs.PieceListings.{are_some, is_named, named_channels}
use Rattle.rec_whole.specs.WholeFrames.{HasShortFrames, held_in_packets}
use Rattle.rec_whole.specs.WholeRecordings.{channel_of_packets, channels_of_packets, facts_with}
use Rattle.rec_whole.proofs.ChannelsApart.{channel_nowhere, channel_there, channels_apart}
use Rattle.rec_whole.proofs.PiecesOut.{AllLeftHave, ContentHas, IsOut, file_out}
use Rattle.rec_whole.proofs.ReadPieces.{AreListedBy, IsListedSeen, IsReadPiece, IsSeenPiece, listed_what, parts_seen, pieces_seen}

-- ---- channels that aren't named

ahead_or_behind : (xs ys : List PieceEntry) → are_some (xs ++ ys) ≡ true → (are_some xs ≡ true) ⊎ (are_some ys ≡ true)
ahead_or_behind [] ys some = inr some
ahead_or_behind (x ∷ xs) ys some = inl refl

none_of_both : (xs ys : List PieceEntry) → are_some (xs ++ ys) ≡ false → (are_some xs ≡ false) × (are_some ys ≡ false)
none_of_both [] ys none = (refl, none)
none_of_both (x ∷ xs) ys none = absurd (true≢false none)

none_named : (channel at counter : ℕ) (named : Option (ℕ × PieceKind)) (bytes : List ℕ) → are_some (entry_named channel at named) ≡ false
    → pieces_named channel named at counter bytes ≡ []
none_named channel at counter None bytes none = refl
none_named channel at counter (Some (named, kind)) bytes none = here (named == channel) none
  where
    here : (is : Bool) → are_some (if is then record { at = at; kind = kind } ∷ [] else []) ≡ false
        → (if is then pieces_of kind at counter bytes else []) ≡ []
    here true none = absurd (true≢false none)
    here false none = refl

unnamed : (channel : ℕ) (packets : List PacketData) → is_named packets channel ≡ false → pieces_of_channel channel packets ≡ []
unnamed channel [] none = refl
unnamed channel (p ∷ ps) none =
    let both = none_of_both (entry_of_packet channel p) (channel_entries channel ps) none in
    ap (λ l. l ++ pieces_of_channel channel ps)
    (none_named channel p.at p.header.counter (packet_names p) (data_in p.header p.body) both.0)
    ∙ unnamed channel ps both.1

-- ---- channels that are named

some_named : (channel named at : ℕ) (kind : PieceKind) → are_some (entry_named channel at (Some (named, kind))) ≡ true → named ≡ channel
some_named channel named at kind some = here (named == channel) refl some
  where
    here : (is : Bool) → (named == channel) ≡ is → are_some (if is then record { at = at; kind = kind } ∷ [] else []) ≡ true → named ≡ channel
    here true same some = eqb-true named channel same
    here false same some = absurd (true≢false (sym some))

class_named : (header : HeaderData) (bytes : List ℕ) (what : What) (channel at : ℕ) → IsHeader header → HasClass header bytes what
    → are_some (entry_named channel at (named_by header.channel what)) ≡ true → channel < 2 ^ 16
class_named header bytes (HoldsFrames count) channel at is has some = of_frames (header.channel == 0) some
  where
    of_frames : (none : Bool) → are_some (entry_named channel at (if none then None else Some (header.channel, Frames))) ≡ true → channel < 2 ^ 16
    of_frames true some = absurd (true≢false (sym some))
    of_frames false some = subst (λ n. n < 2 ^ 16) (some_named channel header.channel at Frames some) is.channel
class_named header bytes (Program named version first count) channel at is has some =
    subst (λ n. n < 2 ^ 16) (some_named channel named at Record some) has.2.0.channel_fits
class_named header bytes (End named offered kept) channel at is has some =
    subst (λ n. n < 2 ^ 16) (some_named channel named at (if offered == 0 then Uncounted else Record) some) has.1.0.channel_fits
class_named header bytes Other channel at is has some = absurd (true≢false (sym some))

listed_fits : (hides : Bool) (header : HeaderData) (bytes : List ℕ) (told listed : What) (channel at : ℕ) → IsHeader header
    → HasClass header bytes told → IsListedSeen hides told listed → are_some (entry_named channel at (named_by header.channel listed)) ≡ true
    → channel < 2 ^ 16
listed_fits hides header bytes told listed channel at is has so some = elim (listed_what hides told listed so) as (λ _. channel < 2 ^ 16) [
  | inl same ↦ class_named header bytes told channel at is has
      (subst (λ what. are_some (entry_named channel at (named_by header.channel what)) ≡ true) same some)
  | inr end ↦ subst (λ n. n < 2 ^ 16)
      (some_named channel end.channel at Uncounted
      (subst (λ what. are_some (entry_named channel at (named_by header.channel what)) ≡ true) end.listed_is some))
      (subst (HasClass header bytes) end.told_is has).1.0.channel_fits
]

named_fit : (hides : Bool) (channel : ℕ) (told packets : List PacketData) → AreListedBy hides told packets → is_named packets channel ≡ true
    → channel < 2 ^ 16
named_fit hides channel [] [] listed some = absurd (true≢false (sym some))
named_fit hides channel [] (p ∷ ps) listed some = absurd listed.1
named_fit hides channel (t ∷ ts) [] listed some = absurd listed.1
named_fit hides channel (t ∷ ts) (p ∷ ps) listed some =
    elim (ahead_or_behind (entry_of_packet channel p) (channel_entries channel ps) some) as (λ _. channel < 2 ^ 16) [
      | inl here ↦
          let spelled = listed.0.0.1 in
          listed_fits hides t.header (data_in t.header t.body) t.what p.what channel t.at spelled.is_header spelled.holds.class listed.1.0.1
          (subst (λ (q : PacketData). are_some (entry_of_packet channel q) ≡ true) listed.1.0.0 here)
      | inr more ↦ named_fit hides channel ts ps (listed.0.1, listed.1.1) more
    ]

-- ---- all channels

pub file_held : (hides : Bool) (told packets : List PacketData) (rules : List Origin) (most : ℕ) (setup : FileSetup) (blocks : List FileBlock)
    → AreListedBy hides told packets → IsWholeFile (facts_with packets rules most setup) blocks → (channel : ℕ)
    → held_of channel (merged_in blocks) ≡ held_in_packets channel packets
file_held hides told packets rules most setup blocks listed whole channel =
    let facts = facts_with packets rules most setup in
    elim (cases_Bool (is_named packets channel)) as (λ _. held_of channel (merged_in blocks) ≡ held_in_packets channel packets) [
      | inl is ↦
          let there = channel_there packets channel (named_fit hides channel told packets listed is) is in
          file_keeps facts blocks whole (channels_apart packets) there.0 (channel_of_packets packets channel) there.1
      | inr off ↦ file_has_none_else facts blocks whole channel (channel_nowhere packets channel off)
          ∙ sym (ap (flat_map held_in) (unnamed channel packets off))
    ]

-- ---- the packets that go out

left_at : (P : ℕ → FilePiece → Type 0) (packets : List PacketData) → ((channel : ℕ) → AllByRecursion (P channel) (pieces_of_channel channel packets))
    → (id : Option ℕ) (c : ChannelLeft) → option_map (channel_of_packets packets) id ≡ Some c → AllByRecursion (P c.channel) c.pieces
left_at P packets all None c is = absurd (none-some c is)
left_at P packets all (Some id) c is =
    subst (λ (d : ChannelLeft). AllByRecursion (P d.channel) d.pieces) (same_Some (channel_of_packets packets id) c is) (all id)

all_left : (P : ℕ → FilePiece → Type 0) (packets : List PacketData) → ((channel : ℕ) → AllByRecursion (P channel) (pieces_of_channel channel packets))
    → AllLeftHave P (channels_of_packets packets)
all_left P packets all at c is =
    left_at P packets all (slice_get (named_channels packets) at) c
    (sym (slice_get-map (channel_of_packets packets) (named_channels packets) at) ∙ is)

pub blocks_out : (hides : Bool) (told packets : List PacketData) (rules : List Origin) (most : ℕ) (setup : FileSetup) (blocks : List FileBlock)
    → AreListedBy hides told packets → IsWholeFile (facts_with packets rules most setup) blocks
    → AllByRecursion (IsOut setup (IsSeenPiece hides)) blocks
blocks_out hides told packets rules most setup blocks listed whole =
    file_out (IsSeenPiece hides) (parts_seen hides) (facts_with packets rules most setup) blocks whole
    (all_left (IsSeenPiece hides) packets (pieces_seen hides told packets listed))

-- ---- short packets

short_content : (content : BlockContent) (counter : ℕ) → ContentHas IsReadPiece content counter → HasShortFrames content
short_content (SetupBlock text) counter has = tt
short_content (TimeBlock e time) counter has = tt
short_content (PieceBlock channel (OfFrames place frames)) counter has = has.0.short
short_content (PieceBlock channel (OfRecord place own body)) counter has = tt
short_content (NodeBlock entries) counter has = tt
short_content (RootBlock nodes last) counter has = tt

pub short_blocks : (setup : FileSetup) (blocks : List FileBlock) → AllByRecursion (IsOut setup IsReadPiece) blocks
    → AllByRecursion (λ (b : FileBlock). HasShortFrames b.content) blocks
short_blocks setup [] out = tt
short_blocks setup (b ∷ blocks) out = (short_content b.content b.counter out.0.content, short_blocks setup blocks out.1)
