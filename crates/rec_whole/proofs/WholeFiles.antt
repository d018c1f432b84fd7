-- The file of a recording's packets.
use Rattle.std.proofs.Common.{ℕ, ◌≡◌, List, [], ◌∷◌, map, length, Option, None, Some, inl, inr, refl, sym, ◌∙◌, ap, subst, arith}
use Rattle.std.specs.Prelude.{IfSome, Result, Ok, Err, MatchResult}
use Rattle.std.specs.Io.KnownBytes.{Appends}
use Rattle.std.proofs.lemmas.List.{take_all}
use Rattle.ch11_merge.specs.Merging.{ChannelLeft, channel_with}
use Rattle.ch11_file.specs.FileBlocks.{file_bytes}
use Rattle.ch11_file.specs.WholeFile.{FileFacts}
use Rattle.ch11_clock.specs.declared.origin.Origin.{Origin as Rule}
use Rattle.ch11_file.specs.declared.setup.FileSetup.{FileSetup}
use Rattle.ch11_file.specs.declared.counts.FileCounts.{FileCounts}
use Rattle.ch11_file.specs.declared.end.FileEnd.{FileEnd}
use Rattle.ch11_file.specs.declared.end.FileEnd.TheVariants.{Refused as IsRefusedFile, Pieces, Write}
use Rattle.ch11_file.specs.declared.end.FileFault.TheVariants.{Memory as LacksMemory, Output as OutputFails, Long}
use Rattle.ch11_file.specs.declared.end.Refusal.TheVariants.{Disorder, Gap, Origin, Year}
use Rattle.ch11_merge.specs.declared.source.PieceFault.{PieceFault}
use Rattle.ch11_merge.specs.declared.source.PieceFault.TheVariants.{Device, Memory}
use Rattle.ch11_file.specs.FileEnds.{FileFails, HasNoGap, HoldsFile, HoldsFront, HoldsUpTo}
use Rattle.rec_reader.specs.Packets.{PacketData}
use Rattle.rec_pieces.specs.Entries.{AreThere, PacketPlaces}
use Rattle.rec_pieces.specs.AllSources.{left_of}
use Rattle.rec_pieces.specs.Listings.{other_of}
use Rattle.rec_pieces.specs.PieceListings.{ListsPackets, listed_channels, named_channels}
use Rattle.rec_pieces.specs.Sources.{pieces_to_come}
use Rattle.rec_pieces.specs.declared.listing.PieceListing.{PieceListing}
use Rattle.rec_pieces.proofs.ChannelsListed.{listed_are_named}
use Rattle.rec_pieces.proofs.PiecesPlaced.{placed_pieces}
use Rattle.rec_whole.specs.Ends.{end_of_file, end_of_pieces}
use Rattle.rec_whole.specs.declared.names.FileNames.{FileNames}
use Rattle.rec_whole.specs.declared.refusal.WholeRefusal.TheVariants.{Other, Disorder as IsDisordered, Gap as HasGap, Full}
use Rattle.rec_whole.specs.declared.refusal.WholeRefusal.TheVariants.{Origin as LacksOrigin, Year as LacksYear}
use Rattle.rec_whole.specs.declared.refusal.WholeEnd.{WholeEnd}
use Rattle.rec_whole.specs.declared.refusal.WholeEnd.TheVariants.{Refused, Recording, Output as NoOutput, Memory as NoMemory}
use Rattle.rec_whole.specs.WholeRecordings.{EndsEarly, IsSetupOf, OfFile, WholeFails, WritesRecording, channel_of_packets, channels_of_packets, facts_with}

-- ---- what is left of the channels of a listing

same_at : (places : PacketPlaces) (packets : List PacketData) (listing : PieceListing) → AreThere places packets → ListsPackets packets listing
    → (channel : ℕ) → left_of places listing channel ≡ channel_of_packets packets channel
same_at places packets listing read had channel =
    ap (λ entries. channel_with channel (pieces_to_come entries 0 places)) (had.entries channel)
    ∙ ap (channel_with channel) (placed_pieces places packets read channel)

same_all : (f g : ℕ → ChannelLeft) → ((n : ℕ) → f n ≡ g n) → (xs : List ℕ) → map f xs ≡ map g xs
same_all f g same [] = refl
same_all f g same (x ∷ xs) = ap (λ c. c ∷ map f xs) (same x) ∙ ap (λ l. g x ∷ l) (same_all f g same xs)

pub left_of_packets : (places : PacketPlaces) (packets : List PacketData) (listing : PieceListing) → AreThere places packets
    → ListsPackets packets listing → map (left_of places listing) (listed_channels listing) ≡ channels_of_packets packets
left_of_packets places packets listing read had =
    ap (map (left_of places listing)) (listed_are_named packets listing had)
    ∙ same_all (left_of places listing) (channel_of_packets packets) (same_at places packets listing read had) (named_channels packets)

-- what sources say of a listing holds of its packets
pub said_of_packets : (known : Option PacketPlaces) (places : PacketPlaces) (packets : List PacketData) (listing : PieceListing)
    (Say : List ChannelLeft → Type 0) → known ≡ Some places → AreThere places packets → ListsPackets packets listing
    → IfSome known (λ places. Say (map (left_of places listing) (listed_channels listing))) → Say (channels_of_packets packets)
said_of_packets known places packets listing Say is read had say =
    subst Say (left_of_packets places packets listing read had)
    (subst (λ k. IfSome k (λ places. Say (map (left_of places listing) (listed_channels listing)))) is say)

-- ---- ends

front : (facts : FileFacts) (before held : Option (List ℕ)) → HoldsUpTo facts before held HasNoGap → HoldsFront facts before held
front facts before held whole = record {
  blocks = whole.blocks;
  now = whole.now;
  begins = whole.begins;
  len = length (file_bytes whole.blocks);
  grows = subst (Appends before held) (sym (take_all (length (file_bytes whole.blocks)) (file_bytes whole.blocks) (omega arith))) whole.grows;
}

pub ends_early : (facts : FileFacts) (before held : Option (List ℕ)) (end : FileEnd) → FileFails facts before held end
    → EndsEarly facts before held (end_of_file end)
ends_early facts before held (IsRefusedFile (Disorder at)) fails = fails
ends_early facts before held (IsRefusedFile (Gap at)) fails = fails
ends_early facts before held (IsRefusedFile Origin) fails = fails
ends_early facts before held (IsRefusedFile Year) fails = fails
ends_early facts before held (Pieces Device) fails = inr fails
ends_early facts before held (Pieces Memory) fails = inr (front facts before held fails)
ends_early facts before held (Write LacksMemory) fails = inr fails
ends_early facts before held (Write OutputFails) fails = fails
ends_early facts before held (Write Long) fails = fails

-- nothing went out
pub ends_empty : (facts : FileFacts) (before held : Option (List ℕ)) (fault : PieceFault) → Appends before held []
    → EndsEarly facts before held (end_of_pieces fault)
ends_empty facts before held Device nothing = inl nothing
ends_empty facts before held Memory nothing = inl nothing

-- ---- with the setup record of packets

fails_of : (packets : List PacketData) (names : FileNames) (rules : List Rule) (most : ℕ) (before held : Option (List ℕ)) (end : WholeEnd)
    → OfFile packets names rules most (λ facts. EndsEarly facts before held end) → WholeFails packets names rules most before held end
fails_of packets names rules most before held (Refused (Other at)) of = absurd of.stands
fails_of packets names rules most before held (Refused (IsDisordered at)) of = of
fails_of packets names rules most before held (Refused (HasGap at)) of = of
fails_of packets names rules most before held (Refused LacksOrigin) of = of
fails_of packets names rules most before held (Refused LacksYear) of = of
fails_of packets names rules most before held (Refused Full) of = absurd of.stands
fails_of packets names rules most before held Recording of = of
fails_of packets names rules most before held NoOutput of = of
fails_of packets names rules most before held NoMemory of = inr of

pub whole_of : (packets : List PacketData) (names : FileNames) (rules : List Rule) (most : ℕ) (before held : Option (List ℕ)) (setup : FileSetup)
    → other_of packets ≡ None → IsSetupOf packets names setup → (result : Result FileCounts WholeEnd)
    → MatchResult result (HoldsFile (facts_with packets rules most setup) before held) (EndsEarly (facts_with packets rules most setup) before held)
    → MatchResult result (WritesRecording packets names rules most before held) (WholeFails packets names rules most before held)
whole_of packets names rules most before held setup all_name is_setup (Ok counts) stands =
    record { all_name = all_name; setup = setup; is_setup = is_setup; stands = stands }
whole_of packets names rules most before held setup all_name is_setup (Err end) stands =
    fails_of packets names rules most before held end (record { all_name = all_name; setup = setup; is_setup = is_setup; stands = stands })
