use Rattle.std.proofs.Common.{refl}
use Rattle.toml.specs.View.{view, items_view}
use Rattle.rec_words.specs.Settings.{tables_in}
use Rattle.rec_words.proofs.SettingsRead.{some_tables}
use Rattle.rec_words.proofs.SetupRead.{tables_listed}
use Rattle.rec_words.proofs.keys.tables_of.Goals as goal

pub returns-in-Some : goal.returns-in-Some
returns-in-Some c =
    let items = items_view c.in-Some.values.now.items in
    let some = some_tables (tables_in items) (rw c.as_slice.ensures.value at (c.if-are_tables.ensures.0 refl)) in (
      some.0,
      rw c.as_slice-in-Some.ensures.value some.1,
      tables_listed c.args.key.now (view c.args.value.now) items some.0 c.in-Some.ensures some.1,
    )
