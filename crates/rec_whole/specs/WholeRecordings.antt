-- The whole Chapter 11 file of a recording's packets: what it is made of, and why it is refused or
-- ends early.
use Rattle.std.specs.Prelude.{ℕ, ◌≡◌, ◌⊎◌, true, List, [], map, Option, None, Some}
use Rattle.std.specs.Option.{unwrap_or}
use Rattle.std.specs.Io.KnownBytes.{Appends}
use Rattle.ch11_clock.specs.declared.origin.Origin.{Origin}
use Rattle.ch11_merge.specs.Merging.{ChannelLeft, channel_with}
use Rattle.ch11_file.specs.declared.setup.FileSetup.{FileSetup}
use Rattle.ch11_file.specs.declared.counts.FileCounts.{FileCounts}
use Rattle.ch11_file.specs.declared.end.Refusal.TheVariants.{Disorder as IsDisordered}
use Rattle.ch11_file.specs.declared.end.Refusal.TheVariants.{Gap as HasGap, Origin as NoOrigin}
use Rattle.ch11_file.specs.declared.end.Refusal.TheVariants.{Year as NoYear}
use Rattle.ch11_file.specs.WholeFile.{FileFacts, facts_of}
use Rattle.ch11_file.specs.FileEnds.{HasNoGap, HoldsFile, HoldsFront, HoldsUpTo, IsRefused}
use Rattle.rec_reader.specs.Packets.{PacketData}
use Rattle.rec_pieces.specs.Entries.{pieces_of_channel}
use Rattle.rec_pieces.specs.Listings.{counters_of, least_of, other_of}
use Rattle.rec_pieces.specs.PieceListings.{is_named, named_channels}
use Rattle.rec_whole.specs.declared.names.FileNames.{FileNames}
use Rattle.rec_whole.specs.declared.refusal.WholeRefusal.TheVariants.{Other, Disorder, Gap}
use Rattle.rec_whole.specs.declared.refusal.WholeRefusal.TheVariants.{Origin as LacksOrigin, Year}
use Rattle.rec_whole.specs.declared.refusal.WholeRefusal.TheVariants.{Full}
use Rattle.rec_whole.specs.declared.refusal.WholeEnd.{WholeEnd}
use Rattle.rec_whole.specs.declared.refusal.WholeEnd.TheVariants.{Refused, Recording, Output}
use Rattle.rec_whole.specs.declared.refusal.WholeEnd.TheVariants.{Memory}
use Rattle.ch11_channels.specs.FreeIds.{AreAllTaken, IsLeastFree}
use Rattle.rec_whole.specs.NamedChannels.{AreNamed}

-- ---- what packets say

-- a channel with all its pieces
abbrev pub channel_of_packets : List PacketData → (channel : ℕ) → ChannelLeft
channel_of_packets packets channel = channel_with channel (pieces_of_channel channel packets)

-- the channels that packets name, the least first
abbrev pub channels_of_packets : List PacketData → List ChannelLeft
channels_of_packets packets = map (channel_of_packets packets) (named_channels packets)

-- their least counter: 0 where they have none
abbrev pub least_counter : List PacketData → ℕ
least_counter packets = unwrap_or (least_of (counters_of packets)) 0

-- the setup record says these names, and who held the clock
pub record SaysNames (names : FileNames) (setup : FileSetup) : Type 0 where
  pub host : setup.host.now ≡ names.host.now
  pub program : setup.program.now ≡ names.program.now
  pub source : setup.is_external ≡ names.is_external
  pub attributes : setup.attributes.now ≡ names.attributes.now

-- beside them it says that an index follows, the channels that packets name, and for the times the
-- least channel ID from 1 on that they don't
pub record IsSetupOf (packets : List PacketData) (names : FileNames)
    (setup : FileSetup) : Type 0 where
  pub said : SaysNames names setup
  pub indexed : setup.is_indexed ≡ true
  pub time_channel : IsLeastFree (is_named packets) setup.time_channel
  pub channels : AreNamed names.channels.now (named_channels packets) setup.channels.now

-- what their file is made of, with this setup record
abbrev pub facts_with : List PacketData → List Origin → (most : ℕ) → FileSetup → FileFacts
facts_with packets rules most setup =
    facts_of setup rules (least_counter packets) most (channels_of_packets packets)

-- each packet names a channel, and of what their file is made of this holds
pub record OfFile (packets : List PacketData) (names : FileNames) (rules : List Origin) (most : ℕ)
    (Stands : FileFacts → Type 0) : Type 0 where
  pub all_name : other_of packets ≡ None
  pub setup : FileSetup
  pub is_setup : IsSetupOf packets names setup
  pub stands : Stands (facts_with packets rules most setup)

-- ---- what is written

-- why a file that is made of this ended early: a refusal is true; else nothing went out, or what
-- went out begins the file, where the recording failed without a part of a packet, and where no
-- piece is refused as a gap
abbrev pub EndsEarly : FileFacts → (before held : Option (List ℕ)) → WholeEnd → Type 0
EndsEarly facts before held (Refused (Other at)) = ⊥
EndsEarly facts before held (Refused (Disorder at)) = IsRefused facts before held (IsDisordered at)
EndsEarly facts before held (Refused (Gap at)) = IsRefused facts before held (HasGap at)
EndsEarly facts before held (Refused LacksOrigin) = IsRefused facts before held NoOrigin
EndsEarly facts before held (Refused Year) = IsRefused facts before held NoYear
EndsEarly facts before held (Refused Full) = ⊥
EndsEarly facts before held Recording =
    Appends before held [] ⊎ HoldsUpTo facts before held HasNoGap
EndsEarly facts before held Output = HoldsFront facts before held
EndsEarly facts before held Memory = Appends before held [] ⊎ HoldsFront facts before held

-- the output grew by the whole file of these packets, of which these are the counts
abbrev pub WritesRecording : List PacketData → FileNames → List Origin → (most : ℕ)
    → (before held : Option (List ℕ)) → FileCounts → Type 0
WritesRecording packets names rules most before held counts =
    OfFile packets names rules most (λ facts. HoldsFile facts before held counts)

-- the file ended early for this reason
abbrev pub FileEndsEarly : List PacketData → FileNames → List Origin → (most : ℕ)
    → (before held : Option (List ℕ)) → WholeEnd → Type 0
FileEndsEarly packets names rules most before held end =
    OfFile packets names rules most (λ facts. EndsEarly facts before held end)

-- nothing went out
abbrev pub WritesNothing : List PacketData → (before held : Option (List ℕ)) → Type 0
WritesNothing packets before held = (other_of packets ≡ None) × Appends before held []

-- why the file of these packets ended early. The first packet that names no channel is refused
-- ahead of all else, then that no channel ID is free. Memory may be out before there is a setup
-- record.
abbrev pub WholeFails : List PacketData → FileNames → List Origin → (most : ℕ)
    → (before held : Option (List ℕ)) → WholeEnd → Type 0
WholeFails packets names rules most before held (Refused (Other at)) =
    (other_of packets ≡ Some at) × Appends before held []
WholeFails packets names rules most before held (Refused (Disorder at)) =
    FileEndsEarly packets names rules most before held (Refused (Disorder at))
WholeFails packets names rules most before held (Refused (Gap at)) =
    FileEndsEarly packets names rules most before held (Refused (Gap at))
WholeFails packets names rules most before held (Refused LacksOrigin) =
    FileEndsEarly packets names rules most before held (Refused LacksOrigin)
WholeFails packets names rules most before held (Refused Year) =
    FileEndsEarly packets names rules most before held (Refused Year)
WholeFails packets names rules most before held (Refused Full) =
    WritesNothing packets before held × AreAllTaken (is_named packets)
WholeFails packets names rules most before held Recording =
    FileEndsEarly packets names rules most before held Recording
WholeFails packets names rules most before held Output =
    FileEndsEarly packets names rules most before held Output
WholeFails packets names rules most before held Memory =
    WritesNothing packets before held ⊎ FileEndsEarly packets names rules most before held Memory
