-- The attributes of the setup record of a recording, all of them.
use Rattle.std.specs.Prelude.{ℕ, ◌+◌, ◌<◌, ◌^◌, Bool, if◌then◌else◌, List, [], ◌∷◌, ◌++◌, map}
use Rattle.std.specs.Prelude.{length, bytes_eq, codes}
use Rattle.std.specs.List.{AllByRecursion}
use Rattle.ch11_clock.specs.CivilTime.{IsCivilTime}
use Rattle.ch11_setup.specs.declared.setup.Setup.{Setup}
use Rattle.ch11_setup.specs.declared.setup.SetupChannel.{SetupChannel}
use Rattle.ch11_setup.specs.declared.attribute.Attribute.{Attribute}
use Rattle.ch11_setup.specs.Attributes.{AttributeData, attribute_of, AreAttributes}
use Rattle.ch11_setup.specs.Names.{cleaned, source_name}
use Rattle.ch11_setup.specs.Lines.{general_attributes, recorder_attributes, content_attributes}
use Rattle.ch11_setup.specs.Lines.{time_attributes}
use Rattle.ch11_setup.specs.Lines.{channel_attributes, comment_attribute}

-- Ethernet channels, in order, from the n-th data source on
abbrev pub channels_attributes : (n : ℕ) → List SetupChannel → List AttributeData
channels_attributes n [] = []
channels_attributes n (channel ∷ channels) =
    channel_attributes n channel.id channel.net (source_name channel.name.now channel.id)
    (cleaned channel.name.now)
    ++ channels_attributes (n + 1) channels

-- what a user adds
abbrev pub given_attribute : Attribute → AttributeData
given_attribute attribute = attribute_of attribute.name.now attribute.value.now

-- whether it is the name of the test, which stands first in a setup record
abbrev pub is_test_name : Attribute → Bool
is_test_name attribute = bytes_eq attribute.name.now (codes "G\\PN")

-- the first name of the test that is given: that of the recorder where none is
abbrev pub test_name : List Attribute → List ℕ
test_name [] = codes "bpfrec"
test_name (attribute ∷ attributes) =
    if is_test_name attribute then attribute.value.now else test_name attributes

-- the others, which stand last
abbrev pub given_attributes : List Attribute → List AttributeData
given_attributes [] = []
given_attributes (attribute ∷ attributes) =
    if is_test_name attribute then given_attributes attributes
    else given_attribute attribute ∷ given_attributes attributes

-- what is said of the recording and its recorder
abbrev pub recording_attributes : Setup → List AttributeData
recording_attributes setup =
    general_attributes (test_name setup.attributes.now) (cleaned setup.host.now) setup.time
    ++ (recorder_attributes (cleaned setup.host.now) (cleaned setup.program.now) setup.time
    ++ content_attributes setup.is_indexed (length setup.channels.now + 1))

-- the data sources: the time channel, and the Ethernet channels
abbrev pub source_attributes : Setup → List AttributeData
source_attributes setup =
    time_attributes setup.time_channel setup.is_external
    ++ channels_attributes 2 setup.channels.now

-- all attributes of a setup record, in order
abbrev pub setup_attributes : Setup → List AttributeData
setup_attributes setup =
    recording_attributes setup
    ++ (source_attributes setup ++ (comment_attribute ∷ given_attributes setup.attributes.now))

-- a channel's numbers have their widths
pub record IsSetupChannel (channel : SetupChannel) : Type 0 where
  pub id_in : channel.id < 2 ^ 16
  pub net_in : channel.net < 2 ^ 8

-- the numbers of a setup record have their widths, its time is in the calendar, and what a user
-- adds are attributes
pub record IsSetup (setup : Setup) : Type 0 where
  pub time : IsCivilTime setup.time
  pub time_channel : setup.time_channel < 2 ^ 16
  pub number : length setup.channels.now < 2 ^ 16
  pub channels : AllByRecursion IsSetupChannel setup.channels.now
  pub given : AreAttributes (map given_attribute setup.attributes.now)
