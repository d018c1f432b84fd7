use Rattle.std.proofs.Common.{◌≡◌, map, take}
use Rattle.ch11_channels.specs.Runs.{FollowEarlier}
use Rattle.cli_chapter11.specs.JoinedChannels.{after_of}
use Rattle.cli_chapter11.proofs.joined_channels.runs_in.Given as goal

-- those so far follow earlier ones
abbrev pub invariant-recordings : goal.invariant-recordings
invariant-recordings l = record {
  afters : l.afters.items ≡ map after_of (take l.place l.recordings);
  earlier : FollowEarlier l.afters.items;
}
