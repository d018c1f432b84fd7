use Rattle.std.proofs.Common.{◌↔◌, drop, IsSome}
use Rattle.toml.specs.View.{items_view}
use Rattle.rec_words.specs.Settings.{tables_in}
use Rattle.rec_words.proofs.keys.are_tables.Given as goal

-- the values so far are tables
abbrev pub invariant-values : goal.invariant-values
invariant-values l =
    IsSome (tables_in (items_view l.values)) ↔ IsSome (tables_in (items_view (drop l.value-index l.values)))
