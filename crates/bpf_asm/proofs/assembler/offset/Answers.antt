use Rattle.std.proofs.Common.{rules, sym, ◌∙◌, arith}
use Rattle.bpf_asm.specs.FirstFault.LabelBreaks.{Missing, Back}
use Rattle.bpf_asm.proofs.LabelTables.{table_missing, label_there}
use Rattle.bpf_asm.proofs.assembler.offset.Goals as goal

pub returns-in_default : goal.returns-in_default
returns-in_default c = λ known is. Missing (table_missing known c.args.labels.now c.args.name.now is (sym c.index_of.ensures ∙ c.in_default.is))

pub returns-then-target-at : goal.returns-then-target-at
returns-then-target-at c = λ known is.
    let there = (is c.args.name.now c.in-Some.target).0 (sym c.index_of.ensures ∙ c.in-Some.is) in
    let low = c.if-target-at.true in
    search (rules, Back)

pub returns : goal.returns
returns c = λ known is.
    label_there known c.args.name.now c.in-Some.target _ ((is c.args.name.now c.in-Some.target).0 (sym c.index_of.ensures ∙ c.in-Some.is))
    (omega (arith, c.if-target-at.false))
