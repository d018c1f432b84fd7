-- Settings and their faults as data.
use Rattle.std.specs.Prelude.{◌≡◌, map, string_bytes, Result, Err}
use Rattle.rec_words.specs.declared.settings.Settings.{Settings}
use Rattle.rec_words.specs.declared.settings.ChannelSettings.{ChannelSettings}
use Rattle.rec_words.specs.declared.settings.fault.SettingsFault.{SettingsFault}
use Rattle.rec_words.specs.declared.settings.fault.SettingsFault.TheVariants.{Syntax, Unknown}
use Rattle.rec_words.specs.declared.settings.fault.SettingsFault.TheVariants.{Missing, Value}
use Rattle.rec_words.specs.declared.settings.fault.SettingsFault.TheVariants.{Channels, SameChannel}
use Rattle.rec_words.specs.declared.settings.fault.SettingsFault.TheVariants.{Memory}
use Rattle.rec_words.specs.declared.keys.fault.KeyFault.{KeyFault}
use Rattle.rec_words.specs.declared.keys.fault.KeyFault.TheVariants.{Unknown as KeyUnknown}
use Rattle.rec_words.specs.declared.keys.fault.KeyFault.TheVariants.{Missing as KeyMissing}
use Rattle.rec_words.specs.declared.keys.fault.KeyFault.TheVariants.{Value as KeyValue}
use Rattle.rec_words.specs.declared.keys.fault.KeyFault.TheVariants.{Memory as KeyMemory}
use Rattle.rec_words.specs.Settings.{Fault, syntax, unknown, missing, value, channels, same_channel}
use Rattle.rec_words.specs.Settings.{ChannelData, SettingsData}

abbrev pub channel_data : ChannelSettings → ChannelData
channel_data channel =
    record {
      id = channel.id;
      feed = string_bytes channel.feed;
      filter = string_bytes channel.filter;
      net = channel.net;
      speed = channel.speed;
      max = channel.max;
      span = channel.span;
    }

abbrev pub settings_data : Settings → SettingsData
settings_data settings =
    record {
      limit = settings.limit;
      ring = settings.ring;
      version = settings.version;
      channels = map channel_data settings.channels.items;
    }

-- the fault is the one that the definition has; out of memory may be at any text
abbrev pub Reports : {A : Type 0} → Result A Fault → SettingsFault → Type 0
Reports said Syntax = said ≡ Err syntax
Reports said (Unknown key) = said ≡ Err (unknown (string_bytes key))
Reports said (Missing key) = said ≡ Err (missing key.now)
Reports said (Value key) = said ≡ Err (value key.now)
Reports said Channels = said ≡ Err channels
Reports said (SameChannel id) = said ≡ Err (same_channel id)
Reports said Memory = Unit {0}

-- the fault of a table's keys, as one of settings
abbrev pub settings_fault : KeyFault → SettingsFault
settings_fault (KeyUnknown key) = Unknown key
settings_fault (KeyMissing key) = Missing key
settings_fault (KeyValue key) = Value key
settings_fault KeyMemory = Memory
