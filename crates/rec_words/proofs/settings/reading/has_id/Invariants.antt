use Rattle.std.proofs.Common.{◌≡◌, ◌==◌, drop, map}
use Rattle.std.specs.List.{list_any}
use Rattle.rec_words.proofs.settings.reading.has_id.Given as goal

-- the channels so far have other IDs
abbrev pub invariant-channels : goal.invariant-channels
invariant-channels l =
    list_any (λ before. before == l.id) (map (λ c. c.id) l.channels)
    ≡ list_any (λ before. before == l.id) (map (λ c. c.id) (drop l.channel-index l.channels))
