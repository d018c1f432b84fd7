use Rattle.bpf_asm.proofs.Shapes.{operand_is, operand_read}
use Rattle.bpf_asm.proofs.laws.operands_are_read_by_the_grammar.Goals as goal

pub returns : goal.returns
returns c = λ tokens operand. (operand_is tokens operand, operand_read operand tokens)
