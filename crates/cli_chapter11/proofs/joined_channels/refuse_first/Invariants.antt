use Rattle.std.proofs.Common.{ℕ, ◌≡◌, ◌<◌, None, get_or, map}
use Rattle.cli_chapter11.specs.JoinedChannels.{listed_refusal}
use Rattle.cli_chapter11.proofs.joined_channels.refuse_first.Given as goal

-- the recordings so far can be in a file
abbrev pub invariant-recordings : goal.invariant-recordings
invariant-recordings l = (earlier : ℕ) → earlier < l.place → get_or (map listed_refusal l.all) earlier None ≡ None
