use Rattle.std.proofs.Common.{◌≡◌, List, Some, map, drop}
use Rattle.toml.specs.Data.{Members}
use Rattle.toml.specs.View.{items_view}
use Rattle.rec_words.specs.Settings.{tables_in}
use Rattle.rec_words.specs.SetupFile.{setup_channel_in}
use Rattle.rec_words.specs.SetupViews.{setup_channel_data}
use Rattle.rec_words.proofs.SetupRead.{IsLeft}
use Rattle.rec_words.proofs.setup_file.channels.channels_of.Given as goal

-- the values that are left give the channels after those that were read
abbrev pub invariant-values : goal.invariant-values
invariant-values l =
    (tables : List Members) → tables_in (items_view l.values) ≡ Some tables
    → IsLeft setup_channel_in tables (map setup_channel_data l.channels.items) (drop l.value-index l.values)
