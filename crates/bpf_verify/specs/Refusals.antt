-- When a refusal of the verifier is true of a program: it names the first condition of a valid
-- program that is broken, and a path where that is an unset read.
use Rattle.std.specs.Prelude.{List}
use Rattle.bpf_insn.specs.declared.insn.Insn.{Insn}
use Rattle.bpf_verify.specs.declared.fault.VerifyFault.{VerifyFault}
use Rattle.bpf_verify.specs.declared.fault.VerifyFault.TheVariants.{Empty, TooLong, BadOpcode}
use Rattle.bpf_verify.specs.declared.fault.VerifyFault.TheVariants.{BadScratch}
use Rattle.bpf_verify.specs.declared.fault.VerifyFault.TheVariants.{ZeroDivisor, JumpOut, NoReturn}
use Rattle.bpf_verify.specs.declared.fault.VerifyFault.TheVariants.{Unset}
use Rattle.bpf_verify.specs.declared.flaw.Flaw.TheVariants as flaw
use Rattle.bpf_verify.specs.ControlFlow.{UnsetReadAt}
use Rattle.bpf_verify.specs.Flaws.{HasFlaw, IsWellFormed, NoUnsetReadBelow}

-- the refusal is true of the program
abbrev pub Refuses : List Insn → VerifyFault → Type 0
Refuses program Empty = HasFlaw program flaw.Empty
Refuses program TooLong = HasFlaw program flaw.TooLong
Refuses program (BadOpcode at) = HasFlaw program (flaw.BadOpcode at)
Refuses program (BadScratch at) = HasFlaw program (flaw.BadScratch at)
Refuses program (ZeroDivisor at) = HasFlaw program (flaw.ZeroDivisor at)
Refuses program (JumpOut at) = HasFlaw program (flaw.JumpOut at)
Refuses program NoReturn = HasFlaw program flaw.NoReturn
Refuses program (Unset at word path) =
    IsWellFormed program × NoUnsetReadBelow program at × UnsetReadAt program at path.items word
