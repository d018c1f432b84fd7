use Rattle.std.proofs.Common.{◌∙◌, length, arith, ◌≡◌, ◌<◌, inl, inr, true}
use Rattle.toml.specs.View.{table_view, view}
use Rattle.rec_words.proofs.SettingsRead.{channel_tables_of, enough_tables, no_tables, tables_length, too_many_tables}
use Rattle.rec_words.proofs.settings.reading.channel_tables.Goals.{then-is_empty-via-then-is_empty, then-is_empty-via-else-is_empty+then-values-gt-MAX_CHANNELS}
use Rattle.rec_words.proofs.settings.reading.channel_tables.Goals as goal

pub returns-then-is_empty : goal.returns-then-is_empty
returns-then-is_empty c =
    let values = c.in_ok-values.values.now in
    let tables = c.in_ok-values.ensures in
    let of = channel_tables_of (table_view c.args.table.now) (view c.in-Some.value.now) tables.0 c.in-Some.ensures tables.2 in
    let none : c.is_empty.result ≡ true → length values ≡ 0 = λ e. grind (arith, c.is_empty.ensures, e) in
    elim c.then-is_empty.either [
      | inl empty ↦ of ∙ no_tables tables.0 (length values) (tables_length values tables.0 tables.1) (none empty)
      | inr many ↦ of ∙ too_many_tables tables.0 (length values) (tables_length values tables.0 tables.1) many.1
    ]

pub returns : goal.returns
returns c =
    let values = c.in_ok-values.values.now in
    let tables = c.in_ok-values.ensures in
    let of = channel_tables_of (table_view c.args.table.now) (view c.in-Some.value.now) tables.0 c.in-Some.ensures tables.2 in
    let least : 0 < length values = grind (arith, c.is_empty.ensures, c.if-is_empty.false) in (
      tables.0,
      tables.1,
      of ∙ enough_tables tables.0 (length values) (tables_length values tables.0 tables.1) least c.if-values-gt-MAX_CHANNELS.false,
    )
