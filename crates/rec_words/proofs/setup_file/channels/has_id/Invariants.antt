use Rattle.std.proofs.Common.{◌≡◌, ◌==◌, drop, map}
use Rattle.std.specs.List.{list_any}
use Rattle.rec_words.specs.SetupViews.{setup_channel_data}
use Rattle.rec_words.proofs.setup_file.channels.has_id.Given as goal

-- the channels so far have other IDs
abbrev pub invariant-channels : goal.invariant-channels
invariant-channels l =
    list_any (λ channel. channel.id == l.id) (map setup_channel_data l.channels)
    ≡ list_any (λ channel. channel.id == l.id) (map setup_channel_data (drop l.channel-index l.channels))
