use Rattle.std.proofs.Common.{length, sym, ap, ◌∙◌}
use Rattle.std.proofs.lemmas.List.{length-map}
use Rattle.std.specs.Arc.{arc_value}
use Rattle.rec_channel.specs.History.{Version}
use Rattle.rec_run.proofs.report.report_of.Goals as goal

-- there are as many programs as marks: each version has one of both
pub are_served-requires-clause-same : goal.are_served-requires-clause-same
are_served-requires-clause-same g c =
    let history = c.args.slot.history in
    let parts = c.into_parts-versions in
    ap length c.as_slice-programs.ensures.value
    ∙ (sym (length-map parts.result.versions.items arc_value)
    ∙ (ap length parts.ensures.versions
    ∙ (length-map history (λ (v : Version). v.program)
    ∙ (sym (length-map history (λ (v : Version). v.mark))
    ∙ (sym (ap length parts.ensures.marks)
    ∙ sym (ap length c.as_slice-numbers.ensures.value))))))
