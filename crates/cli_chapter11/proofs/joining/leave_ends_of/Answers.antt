use Rattle.std.proofs.Common.{map, take, slice_index_or, ap, sym, ◌∙◌}
use Rattle.std.proofs.lemmas.List.{take_more}
use Rattle.rec_runs.specs.Moves.{continued_in}
use Rattle.cli_chapter11.specs.RecordsInRuns.{left_by_ids}
use Rattle.cli_chapter11.proofs.RecordsInRuns.{left_one_id, none_left}
use Rattle.cli_chapter11.proofs.joining.leave_ends_of.Goals as goal

pub ids-init : goal.ids-init
ids-init c = sym (none_left c.args.records.now)

pub ids-preserved : goal.ids-preserved
ids-preserved c =
    let ids = c.args.ids.now in
    let k = c.ids.id-index in
    let id = slice_index_or ids k 0 in
    c.continue_in.ensures
    ∙ ap (map (continued_in id)) c.ids.invariant
    ∙ left_one_id (take k ids) id c.args.records.now
    ∙ ap (λ l. map (left_by_ids l) c.args.records.now) (sym (take_more ids k 0 c.ids-test.true))
