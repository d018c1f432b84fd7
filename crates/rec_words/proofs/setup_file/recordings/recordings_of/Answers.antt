use Rattle.std.proofs.Common.{◌∙◌, map, [], ◌∷◌}
use Rattle.std.proofs.lemmas.List.{map-append}
use Rattle.std.proofs.lemmas.Option.{none-some}
use Rattle.std.proofs.lemmas.Result.{err_from_is_err_and}
use Rattle.toml.specs.View.{table_view}
use Rattle.rec_words.specs.SetupFile.{recording_in, each_after}
use Rattle.rec_words.specs.SetupViews.{recording_data}
use Rattle.rec_words.proofs.SettingsRead.{reports_like, table_here}
use Rattle.rec_words.proofs.SetupRead.{left_fault, left_more, length_more}
use Rattle.rec_words.proofs.setup_file.recordings.recordings_of.Goals.{in-Some+in_ok-recording+in_ok-push, in_default}
use Rattle.rec_words.proofs.setup_file.recordings.recordings_of.Goals as goal

pub returns-in_err-recording-clause-found : goal.returns-in_err-recording-clause-found
returns-in_err-recording-clause-found c tables h =
    let p = err_from_is_err_and c.from_residual.result c.from_residual.ensures.1 in
    let before = map recording_data c.values.recordings.items in
    rw (p.1, p.2) (reports_like (recording_in c.args.unknown before (table_view c.in-Some.table.now)) (each_after (recording_in c.args.unknown) [] tables)
    (λ fault e. left_fault (recording_in c.args.unknown) tables before c.args.values.now c.values.value-index c.value-item.result
    (table_view c.in-Some.table.now) fault c.values-test.true c.value-item.is (rw c.in-Some.is at c.as_table.ensures) (c.values.invariant tables h).0 e)
    c.in_err-recording.field-0.0 (rw c.deref.ensures.value at c.in_err-recording.ensures))

pub values-preserved : goal.values-preserved
values-preserved c tables h =
    let left = c.values.invariant tables h in
    let before = map recording_data c.values.recordings.items in
    elim c.match-as_table.branch [
      | in-Some+in_ok-recording+in_ok-push w ↦ (
        rw (w.recordings-is, w.in_ok-push.ensures.items, map-append recording_data c.values.recordings.items (w.in_ok-recording.recording ∷ []))
            (left_more (recording_in c.args.unknown) tables before c.args.values.now c.values.value-index c.value-item.result
            (table_view w.in-Some.table.now) (recording_data w.in_ok-recording.recording) c.values-test.true c.value-item.is
            (rw w.in-Some.is at c.as_table.ensures) (rw w.deref.ensures.value at w.in_ok-recording.ensures) left.0),
        rw (w.recordings-is, w.in_ok-push.ensures.items)
            (length_more c.values.recordings.items w.in_ok-recording.recording c.values.value-index left.1),
      )
      | in_default w ↦
          let here = table_here c.args.values.now c.values.value-index c.value-item.result left.0.0 c.values-test.true c.value-item.is left.0.1 in
          absurd (none-some here.0 (w.in_default.ensures ∙ here.2))
    ]
