use Rattle.std.proofs.Common.{Ok, inr, ◌∙◌, ap}
use Rattle.std.proofs.lemmas.Result.{err_from_is_err_and}
use Rattle.bpf_asm.specs.FirstFault.LineBreaks.{InTokens}
use Rattle.bpf_asm.specs.Views.{line_in, labels_in, reading_data}
use Rattle.bpf_asm.specs.Drafts.{label_shape}
use Rattle.bpf_asm.proofs.LineReadings.{fault_is}
use Rattle.bpf_asm.proofs.Assembling.{labels_break, insn_breaks, read_none, insn_added}
use Rattle.bpf_asm.proofs.draft.Draft.add_line.Goals as goal

pub returns-in-Err-clause-added : goal.returns-in-Err-clause-added
returns-in-Err-clause-added c = λ shapes at h. rw c.in_line.ensures
    (inr (InTokens c.in-Err.fault (fault_is (line_in c.args.text) c.in-Err.fault c.in-Err.ensures)))

pub returns-in_err-add_labels-clause-added : goal.returns-in_err-add_labels-clause-added
returns-in_err-add_labels-clause-added c = λ shapes at h.
    let p = err_from_is_err_and c.from_residual.result c.from_residual.ensures.1 in
    rw (p.1, p.2) (labels_break shapes (line_in c.args.text) c.args.line (reading_data c.in-Ok.reading) c.in_err-add_labels.field-0.0 c.in-Ok.ensures
    (c.in_err-add_labels.ensures.added shapes at h))

pub returns-in-None-clause-added : goal.returns-in-None-clause-added
returns-in-None-clause-added c = λ shapes at h.
    let names = labels_in c.in-Ok.reading.labels in (
      label_shape names,
      read_none (line_in c.args.text) names c.in-Ok.reading.insn c.in-Ok.ensures (c.in-Ok-insn.is ∙ ap Ok c.in-None.is),
      c.in_ok-add_labels.ensures.added shapes at h,
    )

pub returns-in-Some-clause-added : goal.returns-in-Some-clause-added
returns-in-Some-clause-added c = λ shapes at h.
    let names = labels_in c.in-Ok.reading.labels in
    let drafted = c.in_ok-add_labels.ensures.added shapes at h in
    insn_added shapes (line_in c.args.text) c.args.line names c.in-Ok.reading.insn
    c.in-Some.template c.add_labels.new.self c.add_insn.new.self c.add_insn.result
    c.in-Ok.ensures (c.in-Ok-insn.is ∙ ap Ok c.in-Some.is) drafted (c.add_insn.ensures.added shapes names at drafted)

pub returns-in-Err-insn-clause-added : goal.returns-in-Err-insn-clause-added
returns-in-Err-insn-clause-added c = λ shapes at h.
    rw c.in_line-in-Err-insn.ensures (inr (insn_breaks shapes (line_in c.args.text) c.args.line
    (labels_in c.in-Ok.reading.labels) c.in-Ok.reading.insn c.in-Err-insn.fault c.add_labels.new.self c.in-Ok.ensures c.in-Err-insn.is
    (c.in_ok-add_labels.ensures.added shapes at h)))
