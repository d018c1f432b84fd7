-- What a reader finds in the bytes of an export.
use Rattle.std.specs.Prelude.{ℕ, ◌≡◌, ◌<◌, ◌≤◌, ◌==◌, List, [], ◌∷◌, ◌++◌, map, length, take}
use Rattle.std.specs.Prelude.{slice_get, Contains, Option, Some, IsSomeAnd}
use Rattle.std.specs.Option.{option_map}
use Rattle.std.specs.List.{IsDistinct}
use Rattle.std.specs.Int.{w64, to_le_bytes}
use Rattle.std.specs.Io.KnownBytes.{Appends}
use Rattle.pcapng_blocks.specs.Options.{option_of}
use Rattle.pcapng_blocks.specs.Blocks.{BlockData, CapturedData, InterfaceData}
use Rattle.pcapng_blocks.specs.Blocks.BlockData.{OfSection, OfInterface, OfPacket}
use Rattle.pcapng_blocks.specs.Reading.{HoldsBlocks}
use Rattle.rec_reader.specs.Packets.{PacketData}
use Rattle.rec_reader.specs.ChannelFrames.{channel_frames}
use Rattle.rec_export.specs.Interfaces.{channel_name}
use Rattle.rec_export.specs.Comments.{sayings_on, only_text, frame_comments, interface_comments}
use Rattle.rec_export.specs.Shown.{option_values, comments_in, uncommented, interfaces_in}
use Rattle.rec_export.specs.Shown.{frame_shown, frames_on, comments_on, names_in}

-- bytes are read as these blocks, and as no others
pub record AreReadAs (bytes : List ℕ) (blocks : List BlockData) : Type 0 where
  pub held : HoldsBlocks bytes blocks
  pub alone : (others : List BlockData) → HoldsBlocks bytes others → others ≡ blocks

-- no section header stands among blocks
abbrev pub HasNoSection : List BlockData → Type 0
HasNoSection [] = Unit {0}
HasNoSection (OfSection ∷ blocks) = ⊥
HasNoSection (OfInterface interface ∷ blocks) = HasNoSection blocks
HasNoSection (OfPacket packet ∷ blocks) = HasNoSection blocks

-- one section header stands among blocks, ahead of all others
abbrev pub IsOneSection : List BlockData → Type 0
IsOneSection blocks =
    (behind : List BlockData) × (blocks ≡ OfSection ∷ behind) × HasNoSection behind

-- the interface of each packet is described ahead of it
abbrev pub AreDescribedAhead : List BlockData → Type 0
AreDescribedAhead blocks = (before behind : List BlockData) (packet : CapturedData)
    → blocks ≡ before ++ OfPacket packet ∷ behind → packet.interface < length (interfaces_in before)

-- an interface is described as that of a channel: frames are Ethernet frames of any length, with
-- check sequences of 4 bytes; times are in units of 10^-7 seconds, since the origin, if there is
-- one. Each of these options is the only one of its code. The unit stands first, and the comments
-- last, since a reader may stop at one
pub record DescribesChannel (origin : Option ℕ) (channel : ℕ) (comments : List (List ℕ))
    (interface : InterfaceData) : Type 0 where
  pub link : interface.link_type ≡ 1
  pub any_length : interface.snap_len ≡ 0
  pub unit_first : take 1 interface.options ≡ option_of 9 (7 ∷ []) ∷ []
  pub unit : option_values 9 interface.options ≡ (7 ∷ []) ∷ []
  pub name : option_values 2 interface.options ≡ channel_name channel ∷ []
  pub check_sequence : option_values 13 interface.options ≡ (4 ∷ []) ∷ []
  pub offset : option_values 14 interface.options
      ≡ only_text (option_map (λ (seconds : ℕ). to_le_bytes w64 seconds) origin)
  pub comment : comments_in interface.options ≡ comments
  pub comment_last : interface.options ≡ uncommented interface.options
      ++ map (λ (text : List ℕ). option_of 1 text) comments

-- blocks have one section header, first, and the interface of each packet is described ahead of it.
-- They have an interface for each of these channels, as it is to be described, and on it stand the
-- channel's frames in the packets, in order and once each, with their comments; no channel has two
-- interfaces, no frame stands on another one, and a channel without an interface has no frames
pub record ShowChannels (origin : Option ℕ) (channels : List ℕ) (packets : List PacketData)
    (blocks : List BlockData) : Type 0 where
  pub section : IsOneSection blocks
  pub ahead : AreDescribedAhead blocks
  pub names : names_in blocks ≡ map (λ (channel : ℕ). Some (channel_name channel)) channels
  pub once : IsDistinct (λ (channel other : ℕ). channel == other) channels
  pub described : (number channel : ℕ) → slice_get channels number ≡ Some channel
      → IsSomeAnd (slice_get (interfaces_in blocks) number)
      (DescribesChannel origin channel (interface_comments (sayings_on channel packets)))
  pub frames : (number channel : ℕ) → slice_get channels number ≡ Some channel
      → frames_on number blocks ≡ map frame_shown (channel_frames channel packets)
  pub comments : (number channel : ℕ) → slice_get channels number ≡ Some channel
      → comments_on number blocks ≡ frame_comments (sayings_on channel packets)
  pub beyond : (number : ℕ) → length channels ≤ number → frames_on number blocks ≡ []
  pub others : (channel : ℕ) → ¬ Contains channels channel → channel_frames channel packets ≡ []

-- the output took bytes that are read as blocks, as one list of them and no other, and these show
-- the frames of the packets, channel by channel
pub record ShowsPackets (origin : Option ℕ) (packets : List PacketData) (old new : Option (List ℕ))
    : Type 0 where
  pub bytes : List ℕ
  pub taken : Appends old new bytes
  pub blocks : List BlockData
  pub read : AreReadAs bytes blocks
  pub channels : List ℕ
  pub shown : ShowChannels origin channels packets blocks
