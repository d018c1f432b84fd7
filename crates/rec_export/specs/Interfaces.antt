-- The channels of a recording as the interfaces of a pcapng file.
use Rattle.std.specs.Prelude.{ℕ, ◌==◌, Bool, codes, nat_lt, slice_set, slice_get, if◌then◌else◌}
use Rattle.std.specs.Prelude.{List, [], ◌∷◌, ◌++◌, map, length, Option, None, Some}
use Rattle.std.specs.Option.{option_map, option_and_then}
use Rattle.std.specs.List.{position_or_len}
use Rattle.std.specs.Fmt.{decimal}
use Rattle.pcapng_blocks.specs.Options.{OptionData, name_option, resolution_option, fcs_len_option}
use Rattle.pcapng_blocks.specs.Options.{offset_option}
use Rattle.pcapng_blocks.specs.Blocks.{BlockData}
use Rattle.pcapng_blocks.specs.Blocks.BlockData.{OfInterface}
use Rattle.rec_export.specs.declared.version.FilterVersion.{FilterVersion}
use Rattle.rec_export.specs.declared.version.LaterVersions.{LaterVersions}
use Rattle.rec_export.specs.Frames.{comment_options}
use Rattle.rec_export.specs.Versions.{version_text}

-- ---- the description of an interface

-- the name of a channel
abbrev pub channel_name : (channel : ℕ) → List ℕ
channel_name channel = codes "channel " ++ decimal channel

-- what is added to its times, if anything is
abbrev pub offset_options : (origin : Option ℕ) → List OptionData
offset_options None = []
offset_options (Some seconds) = offset_option seconds ∷ []

-- its options: times in units of 10^-7 seconds; its name; check sequences of 4 bytes; the origin of
-- times; and a comment, if there is one, behind all that a reader needs
abbrev pub description_options :
    (comment : Option (List ℕ)) (name : List ℕ) (origin : Option ℕ) → List OptionData
description_options comment name origin =
    (resolution_option 7 ∷ name_option name ∷ fcs_len_option 4 ∷ offset_options origin)
    ++ comment_options comment

-- the interface of a channel, of Ethernet frames of any length: the filter's version is a comment,
-- if it is known, and the channel the name
abbrev pub interface_block :
    (origin : Option ℕ) (channel : ℕ) → Option FilterVersion → BlockData
interface_block origin channel version = OfInterface (record {
  link_type = 1;
  snap_len = 0;
  options = description_options (option_map version_text version) (channel_name channel) origin;
})

-- ---- the interfaces so far, in the order of their descriptions

-- the interface of a channel, with the filter's later versions that no frame was shown of
pub record Interface : Type 0 where
  pub channel : ℕ
  pub later : Option LaterVersions

-- the interfaces of channels with these later versions
abbrev pub interfaces_of : List (ℕ × Option LaterVersions) → List Interface
interfaces_of channels =
    map (λ (entry : ℕ × Option LaterVersions).
    record { channel = entry.0; later = entry.1 }) channels

-- the number of a channel's interface; that of the next one, if the channel has none
abbrev pub number_of : (channel : ℕ) → List Interface → ℕ
number_of channel interfaces =
    position_or_len (λ (interface : Interface). interface.channel == channel) interfaces

-- whether the channel has an interface
abbrev pub is_described : (channel : ℕ) → List Interface → Bool
is_described channel interfaces = nat_lt (number_of channel interfaces) (length interfaces)

-- the filter's later versions that no frame was shown of
abbrev pub later_of : (channel : ℕ) → List Interface → Option LaterVersions
later_of channel interfaces =
    option_and_then (λ (interface : Interface). interface.later)
    (slice_get interfaces (number_of channel interfaces))

-- the interfaces with this one of the channel, in the place of the one that it had, or behind all
abbrev pub with_interface :
    (channel : ℕ) (later : Option LaterVersions) → List Interface → List Interface
with_interface channel later interfaces =
    let interface : Interface = record { channel = channel; later = later } in
    if is_described channel interfaces
    then slice_set interfaces (number_of channel interfaces) interface
    else interfaces ++ interface ∷ []
