use Rattle.std.proofs.lemmas.Slice.Eq.{slice_eq-Decides}
use Rattle.bpf_insn.proofs.Equal.{insns_decide}
use Rattle.bpf_verify.proofs.verified.are_same.Goals as goal

pub returns : goal.returns
returns c = record { decides = slice_eq-Decides insns_decide c.args.insns.now c.args.others.now c.eq.result c.eq.ensures }
