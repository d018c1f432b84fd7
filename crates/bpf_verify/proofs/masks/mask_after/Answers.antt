use Rattle.std.proofs.Common.{refl}
use Rattle.bpf_verify.proofs.masks.mask_after.Goals as goal

pub with_word-requires : goal.with_word-requires
with_word-requires c = c.requires c.args.insn.k ((c.writes_scratch.ensures.decides c.args.insn c.args.insn.k).1 (c.if-writes_scratch.true, refl))
