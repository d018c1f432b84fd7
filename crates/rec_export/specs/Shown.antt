-- What a reader of an export finds of a recording's channels.
use Rattle.std.specs.Prelude.{ℕ, ◌==◌, if◌then◌else◌, List, [], ◌∷◌, map, Option, None, Some}
use Rattle.ch11_packet.specs.FramesRead.{ReadFrameData}
use Rattle.pcapng_blocks.specs.Options.{OptionData}
use Rattle.pcapng_blocks.specs.Blocks.{CapturedData, InterfaceData, BlockData}
use Rattle.pcapng_blocks.specs.Blocks.BlockData.{OfSection, OfInterface, OfPacket}
use Rattle.rec_export.specs.Frames.{flag_options}
use Rattle.rec_export.specs.Interfaces.{Interface, channel_name}

-- ---- packets

-- the packets of an interface among blocks, in order
abbrev pub packets_on : (interface : ℕ) → List BlockData → List CapturedData
packets_on interface [] = []
packets_on interface (OfSection ∷ blocks) = packets_on interface blocks
packets_on interface (OfInterface other ∷ blocks) = packets_on interface blocks
packets_on interface (OfPacket packet ∷ blocks) =
    if packet.interface == interface
    then packet ∷ packets_on interface blocks
    else packets_on interface blocks

-- the values of the options of a code, in order
abbrev pub option_values : (code : ℕ) → List OptionData → List (List ℕ)
option_values code [] = []
option_values code (option ∷ options) =
    if option.code == code
    then option.value ∷ option_values code options
    else option_values code options

-- the comments in options, whose code is 1
abbrev pub comments_in : List OptionData → List (List ℕ)
comments_in options = option_values 1 options

-- options without the comments
abbrev pub uncommented : List OptionData → List OptionData
uncommented [] = []
uncommented (option ∷ options) =
    if option.code == 1 then uncommented options else option ∷ uncommented options

-- what a packet says of a frame: its time, its bytes, and its options without comments
pub record FrameShown : Type 0 where
  pub time : ℕ
  pub bytes : List ℕ
  pub marks : List OptionData

-- the frame that a packet shows
abbrev pub packet_shown : CapturedData → FrameShown
packet_shown packet = record {
  time = packet.time;
  bytes = packet.bytes;
  marks = uncommented packet.options;
}

-- a frame as it is to be shown: its counter, its bytes with the check sequence, and its marks
abbrev pub frame_shown : ReadFrameData → FrameShown
frame_shown frame = record {
  time = frame.counter;
  bytes = frame.bytes;
  marks = flag_options frame.crc_error frame.frame_error;
}

-- the frames that blocks show on an interface
abbrev pub frames_on : (interface : ℕ) → List BlockData → List FrameShown
frames_on interface blocks = map packet_shown (packets_on interface blocks)

-- the comments of a packet, and of each packet of an interface
abbrev pub packet_comments : CapturedData → List (List ℕ)
packet_comments packet = comments_in packet.options

abbrev pub comments_on : (interface : ℕ) → List BlockData → List (List (List ℕ))
comments_on interface blocks = map packet_comments (packets_on interface blocks)

-- ---- interfaces

-- the name in the options of an interface: the value of the first one of code 2
abbrev pub name_in : List OptionData → Option (List ℕ)
name_in [] = None
name_in (option ∷ options) = if option.code == 2 then Some option.value else name_in options

-- the interfaces among blocks, in order
abbrev pub interfaces_in : List BlockData → List InterfaceData
interfaces_in [] = []
interfaces_in (OfSection ∷ blocks) = interfaces_in blocks
interfaces_in (OfInterface interface ∷ blocks) = interface ∷ interfaces_in blocks
interfaces_in (OfPacket packet ∷ blocks) = interfaces_in blocks

-- the names of the interfaces among blocks, in order
abbrev pub names_in : List BlockData → List (Option (List ℕ))
names_in blocks =
    map (λ (interface : InterfaceData). name_in interface.options) (interfaces_in blocks)

-- the name of a channel's interface
abbrev pub interface_name : Interface → Option (List ℕ)
interface_name interface = Some (channel_name interface.channel)
