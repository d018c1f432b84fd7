-- The channels of a stream: those that are named before it begins.
use Rattle.std.specs.Prelude.{ℕ, ◌≡◌, ◌==◌, ◌^◌, Bool, false, List}
use Rattle.std.specs.List.{filter, list_any, range_with_len}
use Rattle.ch11_file.specs.declared.setup.FileSetup.{FileSetup}
use Rattle.ch11_setup.specs.declared.setup.SetupChannel.{SetupChannel}
use Rattle.rec_whole.specs.declared.names.FileNames.{FileNames}
use Rattle.ch11_channels.specs.FreeIds.{IsLeastFree}
use Rattle.rec_whole.specs.NamedChannels.{AreNamed}
use Rattle.rec_whole.specs.WholeRecordings.{SaysNames}

-- whether one of these channels has this ID
abbrev pub is_said : List SetupChannel → (id : ℕ) → Bool
is_said channels id = list_any (λ (channel : SetupChannel). channel.id == id) channels

-- their IDs below a number, the least first, and all of them
unfoldable pub said_below : List SetupChannel → (end : ℕ) → List ℕ
said_below channels end = filter (is_said channels) (range_with_len 0 end)

abbrev pub said_ids : List SetupChannel → List ℕ
said_ids channels = said_below channels (2 ^ 16)

-- the setup record of a stream says these names, no index, and all channels that are named; its
-- times stand on the least channel ID from 1 on that isn't named
pub record IsStreamSetup (names : FileNames) (setup : FileSetup) : Type 0 where
  pub said : SaysNames names setup
  pub unindexed : setup.is_indexed ≡ false
  pub time_channel : IsLeastFree (is_said names.channels.now) setup.time_channel
  pub channels : AreNamed names.channels.now (said_ids names.channels.now) setup.channels.now
