-- A channel's frames as the packets of an interface.
use Rattle.std.specs.Prelude.{ℕ, ◌+◌, ◌*◌, ◌<◌, ◌^◌, ◌==◌, ◌||◌, Bool, IfSome, codes, nat_lt}
use Rattle.std.specs.Prelude.{length, if◌then◌else◌, List, [], ◌∷◌, ◌++◌, Option, None, Some}
use Rattle.std.specs.Borrow.{Bor}
use Rattle.std.specs.Option.{option_map}
use Rattle.std.specs.Fmt.{decimal}
use Rattle.eth_frame.specs.declared.frame.TheConstants.{MIN_FRAME_LEN}
use Rattle.ch11_packet.specs.FramesRead.{ReadFrameData}
use Rattle.pcapng_blocks.specs.Options.{OptionData, comment_option, flags_option}
use Rattle.pcapng_blocks.specs.Blocks.{BlockData}
use Rattle.pcapng_blocks.specs.Blocks.BlockData.{OfPacket}

-- a text as its bytes
abbrev pub text_of : Option (Bor (List ℕ)) → Option (List ℕ)
text_of text = option_map (λ (bytes : Bor (List ℕ)). bytes.now) text

-- a text that has room in an option
abbrev pub IsShort : Option (List ℕ) → Type 0
IsShort text = IfSome text (λ bytes. length bytes < 2 ^ 16)

-- the comment with this text, if there is one
abbrev pub comment_options : Option (List ℕ) → List OptionData
comment_options None = []
comment_options (Some text) = comment_option text ∷ []

-- the flags of a frame with an error: four bytes of check sequence from bit 5, a wrong check
-- sequence at bit 24, and another fault, as that of a symbol, at bit 31
abbrev pub packet_flags : (crc_error frame_error : Bool) → ℕ
packet_flags crc_error frame_error =
    4 * 2 ^ 5 + (if crc_error then 2 ^ 24 else 0) + (if frame_error then 2 ^ 31 else 0)

-- the option with the flags of a frame: none for a frame without an error
abbrev pub flag_options : (crc_error frame_error : Bool) → List OptionData
flag_options crc_error frame_error =
    if crc_error || frame_error
    then flags_option (packet_flags crc_error frame_error) ∷ []
    else []

-- a frame as a packet of an interface, with these options
abbrev pub packet_with : (interface : ℕ) → ReadFrameData → List OptionData → BlockData
packet_with interface frame options = OfPacket (record {
  interface = interface;
  time = frame.counter;
  bytes = frame.bytes;
  options = options;
})

-- what is said of this many bytes of this content, if they are no Ethernet frame with its check
-- sequence: their content isn't 0, or they are too few
abbrev pub note_for : (content len : ℕ) → Option (List ℕ)
note_for content len =
    if content == 0
    then (if nat_lt len MIN_FRAME_LEN
    then Some (codes "too short for an Ethernet frame with its FCS") else None)
    else Some (codes "content " ++ (decimal content
    ++ codes ": no Ethernet frame with its FCS"))

-- what is said of a frame that is none
abbrev pub note_of : ReadFrameData → Option (List ℕ)
note_of frame = note_for frame.content (length frame.bytes)

-- the options of a frame: its flags, this comment, and what is said of bytes that are no frame
abbrev pub frame_options : (comment : Option (List ℕ)) → ReadFrameData → List OptionData
frame_options comment frame =
    flag_options frame.crc_error frame.frame_error
    ++ (comment_options comment ++ comment_options (note_of frame))

-- a frame as a packet of an interface, with this comment: its counter is the time, and its bytes
-- end with its check sequence
abbrev pub captured : (interface : ℕ) (comment : Option (List ℕ)) → ReadFrameData → BlockData
captured interface comment frame = packet_with interface frame (frame_options comment frame)

-- frames as the packets of an interface: each of them in order, and the comment on the first
abbrev pub frame_blocks :
    (interface : ℕ) (comment : Option (List ℕ)) → List ReadFrameData → List BlockData
frame_blocks interface comment [] = []
frame_blocks interface comment (frame ∷ frames) =
    captured interface comment frame ∷ frame_blocks interface None frames
