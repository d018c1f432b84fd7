use Rattle.std.proofs.Common.{◌≡◌, take}
use Rattle.std.specs.List.{flat_map}
use Rattle.ch11_channels.specs.NamedIds.{named_by_recording}
use Rattle.cli_chapter11.specs.JoinedChannels.{listed_channels_of}
use Rattle.cli_chapter11.proofs.joined_channels.named_in.Given as goal

-- what those so far name
abbrev pub invariant-recordings : goal.invariant-recordings
invariant-recordings l = flat_map named_by_recording l.named.items ≡ flat_map listed_channels_of (take l.listed-index l.all)
