use Rattle.std.proofs.Common.{inl, inr}
use Rattle.toml.specs.View.{table_view, view}
use Rattle.rec_words.proofs.SettingsRead.{tables_length}
use Rattle.rec_words.proofs.SetupRead.{not_recordings, recordings_of_tables}
use Rattle.rec_words.proofs.setup_file.recordings.recordings_from.Goals.{then-values-count-via-then-values-count}
use Rattle.rec_words.proofs.setup_file.recordings.recordings_from.Goals.{then-values-count-via-else-values-count+then-not-stands_alone}
use Rattle.rec_words.proofs.setup_file.recordings.recordings_from.Goals as goal

pub returns-then-values-count-clause-found : goal.returns-then-values-count-clause-found
returns-then-values-count-clause-found c =
    let values = c.in_ok-values.values.now in
    let tables = c.in_ok-values.ensures in
    not_recordings c.args.count c.args.unknown (table_view c.args.document.now) (view c.args.value.now) tables.0 _ tables.2
    (tables_length values tables.0 tables.1) (elim c.then-values-count.branch [
      | then-values-count-via-then-values-count w ↦ inl w.if-values-count.true
      | then-values-count-via-else-values-count+then-not-stands_alone w ↦ inr (rw w.stands_alone.ensures at w.if-not-stands_alone.true)
    ])

pub returns-clause-found : goal.returns-clause-found
returns-clause-found c =
    let values = c.in_ok-values.values.now in
    let tables = c.in_ok-values.ensures in
    rw (recordings_of_tables c.args.count c.args.unknown (table_view c.args.document.now) (view c.args.value.now) tables.0 _ tables.2
    (tables_length values tables.0 tables.1) c.if-values-count.false (rw c.stands_alone.ensures at c.if-not-stands_alone.false))
    (c.recordings_of.ensures.found tables.0 tables.1)
