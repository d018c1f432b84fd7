use Rattle.std.proofs.Common.{◌≡◌, List, Some, map, drop, length}
use Rattle.toml.specs.Data.{Members}
use Rattle.toml.specs.View.{items_view}
use Rattle.rec_words.specs.Settings.{tables_in}
use Rattle.rec_words.specs.SetupFile.{recording_in}
use Rattle.rec_words.specs.SetupViews.{recording_data}
use Rattle.rec_words.proofs.SetupRead.{IsLeft}
use Rattle.rec_words.proofs.setup_file.recordings.recordings_of.Given as goal

-- the values that are left give the recordings after those that were read
abbrev pub invariant-values : goal.invariant-values
invariant-values l =
    (tables : List Members) → tables_in (items_view l.values) ≡ Some tables
    → IsLeft (recording_in l.unknown) tables (map recording_data l.recordings.items) (drop l.value-index l.values)
    × (length l.recordings.items ≡ l.value-index)
