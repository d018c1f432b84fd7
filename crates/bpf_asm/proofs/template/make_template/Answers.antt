use Rattle.std.proofs.Common.{sym, ◌∙◌, ap}
use Rattle.bpf_asm.specs.Templates.{with_operand}
use Rattle.bpf_asm.specs.Views.{operand_data}
use Rattle.bpf_asm.proofs.OperandTable.{table_of_others}
use Rattle.bpf_asm.proofs.template.make_template.Goals as goal

pub returns-in_default : goal.returns-in_default
returns-in_default c =
    c.with_meaning.ensures ∙ ap (with_operand c.args.mnemonic) c.meaning.ensures
    ∙ sym (table_of_others c.args.mnemonic (operand_data c.args.operand) c.in_default.not-Jmp)
