-- The setup of a file and its faults as data.
use Rattle.std.specs.Prelude.{◌≡◌, map, string_bytes, Result, Err}
use Rattle.ch11_clock.specs.declared.origin.Origin.{Origin}
use Rattle.ch11_setup.specs.Attributes.{AttributeData, attribute_of}
use Rattle.rec_words.specs.declared.keys.fault.KeyFault.{KeyFault}
use Rattle.rec_words.specs.declared.keys.fault.KeyFault.TheVariants.{Unknown as KeyUnknown}
use Rattle.rec_words.specs.declared.keys.fault.KeyFault.TheVariants.{Missing as KeyMissing}
use Rattle.rec_words.specs.declared.keys.fault.KeyFault.TheVariants.{Value as KeyValue}
use Rattle.rec_words.specs.declared.keys.fault.KeyFault.TheVariants.{Memory as KeyMemory}
use Rattle.rec_words.specs.declared.setup_file.FileSettings.{FileSettings}
use Rattle.rec_words.specs.declared.setup_file.AddedAttribute.{AddedAttribute}
use Rattle.rec_words.specs.declared.setup_file.ChannelSetup.{ChannelSetup}
use Rattle.rec_words.specs.declared.setup_file.GeneralSettings.{GeneralSettings}
use Rattle.rec_words.specs.declared.setup_file.RecordingSettings.{RecordingSettings}
use Rattle.rec_words.specs.declared.setup_file.fault.SetupFault.{SetupFault}
use Rattle.rec_words.specs.declared.setup_file.fault.SetupFault.TheVariants.{Syntax, Unknown}
use Rattle.rec_words.specs.declared.setup_file.fault.SetupFault.TheVariants.{Missing, Value, Memory}
use Rattle.rec_words.specs.Settings.{Fault, syntax, unknown, missing, value}
use Rattle.rec_words.specs.SetupFile.{OriginData, ChannelSetupData, RecordingData, GeneralData}
use Rattle.rec_words.specs.SetupFile.{FileData}

abbrev pub origin_data : Origin → OriginData
origin_data origin = record { counter = origin.counter; nanos = origin.nanos }

abbrev pub attribute_data : AddedAttribute → AttributeData
attribute_data attribute =
    attribute_of (string_bytes attribute.name) (string_bytes attribute.value)

abbrev pub setup_channel_data : ChannelSetup → ChannelSetupData
setup_channel_data channel =
    record { id = channel.id; name = string_bytes channel.name; net = channel.net }

abbrev pub recording_data : RecordingSettings → RecordingData
recording_data recording =
    record {
      origins = map origin_data recording.origins.items;
      after = recording.after;
      channels = map setup_channel_data recording.channels.items;
    }

abbrev pub general_data : GeneralSettings → GeneralData
general_data general =
    record {
      host = string_bytes general.host;
      program = string_bytes general.program;
      is_external = general.is_external;
      attributes = map attribute_data general.attributes.items;
    }

abbrev pub file_data : FileSettings → FileData
file_data setup =
    record {
      recordings = map recording_data setup.recordings.items;
      general = general_data setup.general;
    }

-- the fault is the one that the definition has; out of memory may be at any text
abbrev pub SetupReports : {A : Type 0} → Result A Fault → SetupFault → Type 0
SetupReports said Syntax = said ≡ Err syntax
SetupReports said (Unknown key) = said ≡ Err (unknown (string_bytes key))
SetupReports said (Missing key) = said ≡ Err (missing key.now)
SetupReports said (Value key) = said ≡ Err (value key.now)
SetupReports said Memory = Unit {0}

-- the fault of a table's keys, as one of a file's setup
abbrev pub setup_fault : KeyFault → SetupFault
setup_fault (KeyUnknown key) = Unknown key
setup_fault (KeyMissing key) = Missing key
setup_fault (KeyValue key) = Value key
setup_fault KeyMemory = Memory
