use Rattle.std.proofs.Common.{◌≡◌, List, Some, map, drop}
use Rattle.toml.specs.Data.{Members}
use Rattle.toml.specs.View.{items_view}
use Rattle.rec_words.specs.Settings.{tables_in}
use Rattle.rec_words.specs.SettingsViews.{channel_data}
use Rattle.rec_words.proofs.SettingsRead.{IsAhead}
use Rattle.rec_words.proofs.settings.reading.channels_in.Given as goal

-- the values that are left give the channels after those that were read
abbrev pub invariant-values : goal.invariant-values
invariant-values l =
    (tables : List Members) → tables_in (items_view l.values) ≡ Some tables
    → IsAhead tables (map channel_data l.channels.items) (drop l.value-index l.values)
