use Rattle.std.proofs.Common.{◌≡◌, List, Some, map, drop, length}
use Rattle.toml.specs.Data.{Members}
use Rattle.toml.specs.View.{items_view}
use Rattle.rec_words.specs.Settings.{tables_in}
use Rattle.rec_words.specs.SetupFile.{origin_in}
use Rattle.rec_words.specs.SetupViews.{origin_data}
use Rattle.rec_words.proofs.SetupRead.{IsLeft}
use Rattle.rec_words.proofs.setup_file.origins.origins_of.Given as goal

-- the values that are left give the origins after those that were read
abbrev pub invariant-values : goal.invariant-values
invariant-values l =
    (tables : List Members) → tables_in (items_view l.values) ≡ Some tables
    → IsLeft (λ _ members. origin_in l.unknown members) tables (map origin_data l.origins.items) (drop l.value-index l.values)
    × (length l.origins.items ≡ l.value-index)
