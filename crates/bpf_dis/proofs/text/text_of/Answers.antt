use Rattle.std.proofs.Common.{ℕ, List, Err, sym, ap, subst}
use Rattle.bpf_asm.specs.Denotes.{Denotes}
use Rattle.bpf_dis.proofs.ProgramFaults.{no_fault, one_fault}
use Rattle.bpf_dis.proofs.ProgramTexts.{text_denotes}
use Rattle.bpf_dis.proofs.text.text_of.Goals as goal

pub returns-in-Some-clause-first : goal.returns-in-Some-clause-first
returns-in-Some-clause-first c = λ fault h. ap Err (one_fault c.args.program.now c.in-Some.fault fault c.in-Some.ensures.fault h)

pub returns-clause-first : goal.returns-clause-first
returns-clause-first c = λ fault h. absurd (no_fault c.args.program.now fault c.in_default.ensures.fault h)

pub returns-clause-denotes : goal.returns-clause-denotes
returns-clause-denotes c =
    λ size.
    let P : List ℕ → Type 0 = λ bs. Denotes bs c.args.program.now in
    subst P (sym c.in_ok-write_lines.ensures) (text_denotes c.args.program.now c.in_default.ensures.range size c.in_default.ensures.fault)

pub returns-in_err-write_lines-clause-first : goal.returns-in_err-write_lines-clause-first
returns-in_err-write_lines-clause-first c = λ fault h. absurd (no_fault c.args.program.now fault c.in_default.ensures.fault h)
