use Rattle.std.proofs.Common.{refl}
use Rattle.bpf_asm.proofs.MnemonicNames.{op_read, cond_read}
use Rattle.bpf_asm.proofs.laws.mnemonics_of_instructions_are_read.Goals as goal

pub returns : goal.returns
returns c = record { loads = (refl, refl, refl); ops = op_read; conds = cond_read }
