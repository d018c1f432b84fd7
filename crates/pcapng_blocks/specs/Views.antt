-- The code's values as data.
use Rattle.std.specs.Prelude.{List, map}
use Rattle.pcapng_blocks.specs.declared.option.BlockOption.{BlockOption}
use Rattle.pcapng_blocks.specs.declared.option.BlockOption.TheVariants.{Comment, InterfaceName}
use Rattle.pcapng_blocks.specs.declared.option.BlockOption.TheVariants.{TimeResolution, FcsLen}
use Rattle.pcapng_blocks.specs.declared.option.BlockOption.TheVariants.{TimeOffset, PacketFlags}
use Rattle.pcapng_blocks.specs.declared.block.Block.{Block}
use Rattle.pcapng_blocks.specs.declared.block.Block.TheVariants.{Section, Interface, Packet}
use Rattle.pcapng_blocks.specs.Options.{OptionData, comment_option, name_option, resolution_option}
use Rattle.pcapng_blocks.specs.Options.{fcs_len_option, offset_option, flags_option}
use Rattle.pcapng_blocks.specs.Blocks.{BlockData}
use Rattle.pcapng_blocks.specs.Blocks.BlockData.{OfSection, OfInterface, OfPacket}

-- an option's code and value
abbrev pub option_data : BlockOption → OptionData
option_data (Comment text) = comment_option text.now
option_data (InterfaceName name) = name_option name.now
option_data (TimeResolution power) = resolution_option power
option_data (FcsLen len) = fcs_len_option len
option_data (TimeOffset seconds) = offset_option seconds
option_data (PacketFlags flags) = flags_option flags

-- options, one by one
abbrev pub options_data : List BlockOption → List OptionData
options_data options = map option_data options

-- a block's fields
abbrev pub block_data : Block → BlockData
block_data Section = OfSection
block_data (Interface link_type snap_len options) =
    OfInterface (record {
      link_type = link_type;
      snap_len = snap_len;
      options = options_data options.now;
    })
block_data (Packet interface time bytes options) =
    OfPacket (record {
      interface = interface;
      time = time;
      bytes = bytes.now;
      options = options_data options.now;
    })
