use Rattle.bpf_asm.proofs.LineReadings.{shape_is, shape_read, one_shape}
use Rattle.bpf_asm.proofs.laws.lines_are_read_by_the_grammar.Goals as goal

pub returns : goal.returns
returns c = record {
  grammar = λ line shape. (shape_is line shape, shape_read line shape);
  once = one_shape;
}
