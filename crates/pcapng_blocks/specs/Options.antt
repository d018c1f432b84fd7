-- The options of a block (pcapng, Options): a list of fields, each with its code, its length and
-- its value, padded to 32 bits, and behind the last one the end of options.
use Rattle.std.specs.Prelude.{ℕ, ◌≢◌, ◌<◌, ◌^◌, List, [], ◌∷◌, ◌++◌, length}
use Rattle.std.specs.List.{flat_map}
use Rattle.std.specs.Int.{w16, w32, w64, to_le_bytes}
use Rattle.pcapng_blocks.specs.declared.option.TheConstants.{COMMENT, PACKET_FLAGS, INTERFACE_NAME}
use Rattle.pcapng_blocks.specs.declared.option.TheConstants.{TIME_RESOLUTION, FCS_LEN, TIME_OFFSET}
use Rattle.pcapng_blocks.specs.Bytes.{padding}

-- an option: its code and its value
pub record OptionData : Type 0 where
  pub code : ℕ
  pub value : List ℕ

-- the option of these parts
abbrev pub option_of : (code : ℕ) (value : List ℕ) → OptionData
option_of code value = record { code = code; value = value }

-- ---- the options that are written

-- opt_comment: a text on any block
abbrev pub comment_option : (text : List ℕ) → OptionData
comment_option text = option_of COMMENT text

-- if_name: the name of an interface
abbrev pub name_option : (name : List ℕ) → OptionData
name_option name = option_of INTERFACE_NAME name

-- if_tsresol: times are in units of 10 to the power of minus this, below 128
abbrev pub resolution_option : (power : ℕ) → OptionData
resolution_option power = option_of TIME_RESOLUTION (power ∷ [])

-- if_fcslen: the length of the check sequences, in bytes, as readers take it
abbrev pub fcs_len_option : (len : ℕ) → OptionData
fcs_len_option len = option_of FCS_LEN (len ∷ [])

-- if_tsoffset: what is added to times
abbrev pub offset_option : (seconds : ℕ) → OptionData
offset_option seconds = option_of TIME_OFFSET (to_le_bytes w64 seconds)

-- epb_flags: the flags of a packet
abbrev pub flags_option : (flags : ℕ) → OptionData
flags_option flags = option_of PACKET_FLAGS (to_le_bytes w32 flags)

-- ---- their bytes

-- its code is another one than that of the end of options, and its length has 16 bits
pub record IsOption (option : OptionData) : Type 0 where
  pub not_end : option.code ≢ 0
  pub code : option.code < 2 ^ 16
  pub value : length option.value < 2 ^ 16

-- each of the options is one
abbrev pub AreOptions : List OptionData → Type 0
AreOptions [] = Unit {0}
AreOptions (option ∷ options) = IsOption option × AreOptions options

-- the bytes of an option: its code, the length of its value without padding, its value, and padding
abbrev pub option_bytes : OptionData → List ℕ
option_bytes option =
    to_le_bytes w16 option.code ++ to_le_bytes w16 (length option.value)
    ++ (option.value ++ padding (length option.value))

-- opt_endofopt: the code 0 and the length 0
abbrev pub end_of_options : List ℕ
end_of_options = 0 ∷ 0 ∷ 0 ∷ 0 ∷ []

-- the bytes of a block's options: each of them in order, and the end of options; no bytes, if there
-- are no options
abbrev pub options_bytes : List OptionData → List ℕ
options_bytes [] = []
options_bytes (option ∷ options) = flat_map option_bytes (option ∷ options) ++ end_of_options
