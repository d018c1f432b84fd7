use Rattle.std.proofs.Common.{◌≡◌, map, drop}
use Rattle.std.specs.List.{find}
use Rattle.rec_words.specs.SetupViews.{setup_channel_data}
use Rattle.cli_chapter11.specs.Joining.{has_id}
use Rattle.cli_chapter11.proofs.joining.name_by.Given as goal

-- those so far don't name the channel
abbrev pub invariant-said : goal.invariant-said
invariant-said l =
    find (has_id l.channel.of.channel) (map setup_channel_data l.said-items)
    ≡ find (has_id l.channel.of.channel) (map setup_channel_data (drop l.said-index l.said-items))
