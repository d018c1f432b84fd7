use Rattle.std.proofs.Common.{◌≡◌, ◌<◌, length, true, inl, inr, arith}
use Rattle.toml.specs.View.{view}
use Rattle.rec_words.proofs.SettingsRead.{tables_length}
use Rattle.rec_words.proofs.SetupRead.{no_origins, too_many_origins, origins_of_tables}
use Rattle.rec_words.proofs.setup_file.origins.noted_origins.Goals.{then-is_empty-via-then-is_empty, then-is_empty-via-else-is_empty+then-values-gt-MAX_ORIGINS}
use Rattle.rec_words.proofs.setup_file.origins.noted_origins.Goals as goal

pub returns-then-is_empty-clause-found : goal.returns-then-is_empty-clause-found
returns-then-is_empty-clause-found c =
    let values = c.in_ok-values.values.now in
    let tables = c.in_ok-values.ensures in
    let as_many = tables_length values tables.0 tables.1 in
    let none : c.is_empty.result ≡ true → length values ≡ 0 = λ e. grind (arith, c.is_empty.ensures, e) in
    elim c.then-is_empty.either [
      | inl empty ↦ no_origins c.args.unknown (view c.args.value.now) tables.0 (length values) tables.2 as_many (none empty)
      | inr many ↦ too_many_origins c.args.unknown (view c.args.value.now) tables.0 (length values) tables.2 as_many many.1
    ]

pub returns-clause-found : goal.returns-clause-found
returns-clause-found c =
    let values = c.in_ok-values.values.now in
    let tables = c.in_ok-values.ensures in
    let as_many = tables_length values tables.0 tables.1 in
    let some : 0 < length values = grind (arith, c.is_empty.ensures, c.if-is_empty.false) in
    rw (origins_of_tables c.args.unknown (view c.args.value.now) tables.0 (length values) tables.2 as_many some c.if-values-gt-MAX_ORIGINS.false)
    (c.origins_of.ensures.found tables.0 tables.1)
