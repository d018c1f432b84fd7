use Rattle.std.proofs.Common.{map, take, ap, sym, ◌≡◌, ◌∙◌, ◌∷◌, ◌++◌, [], eq-eqb, ne_eqb}
use Rattle.cli_chapter11.specs.declared.joined_channels.ListedRecording.{ListedRecording}
use Rattle.cli_chapter11.specs.RecordsInRuns.{left_by, left_by_ids}
use Rattle.cli_chapter11.proofs.JoinedRecordings.{taken_more}
use Rattle.cli_chapter11.proofs.RecordsInRuns.{left_one_of_others, left_one_of_run, none_later}
use Rattle.cli_chapter11.proofs.joining.leave_ends.Goals.{then-listed-run, else-listed-run}
use Rattle.cli_chapter11.proofs.joining.leave_ends.Goals as goal

pub later-init : goal.later-init
later-init c = sym (none_later c.args.run c.args.records.now)

pub later-preserved : goal.later-preserved
later-preserved c =
    let later = c.args.later.now in
    let k = c.later.listed-index in
    let listed : ListedRecording = c.listed-item.result in
    let run = c.args.run in
    let records = c.args.records.now in
    let so : c.if-listed-run.records ≡ map (left_by run (take k later ++ listed ∷ [])) records = elim c.if-listed-run.branch [
      | then-listed-run w ↦
          w.records-is ∙ w.leave_ends_of.ensures
          ∙ ap (λ l. map (left_by_ids l) c.later.records) w.as_slice.ensures.value
          ∙ ap (map (left_by_ids listed.ids.items)) c.later.invariant
          ∙ left_one_of_run run (take k later) listed records (eq-eqb listed.run run w.if-listed-run.true)
      | else-listed-run w ↦
          w.records-is ∙ c.later.invariant
          ∙ left_one_of_others run (take k later) listed records (ne_eqb listed.run run w.if-listed-run.false)
    ] in
    so ∙ ap (λ l. map (left_by run l) records) (sym (taken_more later k listed c.later-test.true c.listed-item.is))
