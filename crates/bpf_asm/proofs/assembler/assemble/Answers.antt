use Rattle.std.proofs.Common.{inr}
use Rattle.std.proofs.lemmas.Result.{err_from_is_err_and}
use Rattle.bpf_asm.specs.Blanked.{without_comments, lines_of}
use Rattle.bpf_asm.specs.Denotes.{labels_from}
use Rattle.bpf_asm.proofs.Assembling.{line_refused, unfollowed, followed, reported_program, reported_fault, reported_memory}
use Rattle.bpf_asm.proofs.assembler.assemble.Goals as goal

pub returns-in_err-draft-clause-refused : goal.returns-in_err-draft-clause-refused
returns-in_err-draft-clause-refused c =
    let p = err_from_is_err_and c.from_residual.result c.from_residual.ensures.1 in
    rw (p.1, p.2) (line_refused c.args.text.now c.in_err-draft.field-0.0 c.in_err-draft.ensures.lines)

pub returns-in-Some-clause-refused : goal.returns-in-Some-clause-refused
returns-in-Some-clause-refused c =
    let d = c.in_ok-draft.ensures.lines in
    inr (unfollowed c.args.text.now d.0 c.in_ok-draft.draft c.in-Some.line d.1 d.2 c.in-Some.is)

pub returns-clause-memory : goal.returns-clause-memory
returns-clause-memory c =
    let d = c.in_ok-draft.ensures.lines in
    reported_memory c.link.result (lines_of (without_comments c.args.text.now)) d.0 c.in_ok-draft.draft d.1 d.2 c.link.ensures.memory

pub returns-clause-program : goal.returns-clause-program
returns-clause-program c =
    let d = c.in_ok-draft.ensures.lines in
    reported_program c.link.result c.args.text.now d.0 c.in_ok-draft.draft d.1 d.2 (followed d.0 c.in_ok-draft.draft d.2 c.in_default.is)
    (c.link.ensures.program (labels_from 0 d.0) d.2.labels)

pub returns-clause-refused : goal.returns-clause-refused
returns-clause-refused c =
    let d = c.in_ok-draft.ensures.lines in
    reported_fault c.link.result c.args.text.now d.0 c.in_ok-draft.draft d.1 d.2 (followed d.0 c.in_ok-draft.draft d.2 c.in_default.is)
    (c.link.ensures.program (labels_from 0 d.0) d.2.labels)
