use Rattle.std.proofs.Common.{◌≡◌, map, take}
use Rattle.rec_words.specs.SetupViews.{setup_channel_data}
use Rattle.cli_chapter11.specs.WholeFiles.{channel_said}
use Rattle.cli_chapter11.proofs.channels.channels_of.Given as goal

abbrev pub invariant-channels : goal.invariant-channels
invariant-channels l = map channel_said l.channels.items ≡ map setup_channel_data (take l.channel-index l.said)
