-- What decides validity: a well-formed program without an unset read is valid, and a program of which a refusal is true is not.
use Rattle.std.proofs.Common.{ℕ, ◌<◌, inl, inr, List, length, arith}
use Rattle.std.proofs.lemmas.Option.{slice_get_within}
use Rattle.bpf_insn.specs.declared.insn.Insn.{Insn}
use Rattle.bpf_verify.specs.declared.fault.VerifyFault.{VerifyFault}
use Rattle.bpf_verify.specs.declared.fault.VerifyFault.TheVariants.{Empty, TooLong, BadOpcode, BadScratch, ZeroDivisor, JumpOut, NoReturn, Unset}
use Rattle.bpf_verify.specs.ControlFlow.{ReadsWord}
use Rattle.bpf_verify.specs.Validity.{Valid}
use Rattle.bpf_verify.specs.Flaws.{BreaksAt, IsWellFormed, NoUnsetReadBelow}
use Rattle.bpf_verify.specs.Refusals.{Refuses}

inside : (p : List Insn) (at : ℕ) → BreaksAt p at → at < length p
inside p at (inl (inl lacks)) = slice_get_within p at lacks.0 lacks.1
inside p at (inl (inr (word, inl reads, past))) = slice_get_within p at reads.0 reads.1
inside p at (inl (inr (word, inr writes, past))) = slice_get_within p at writes.0 writes.1
inside p at (inr (inl zero)) = slice_get_within p at zero.0 zero.1
inside p at (inr (inr out)) = slice_get_within p at out.0 out.1

-- no instruction of a well-formed program breaks a condition of its own
pub unbroken : (p : List Insn) → IsWellFormed p → (at : ℕ) → BreaksAt p at → ⊥
unbroken p formed at breaks = formed.unbroken at (inside p at breaks) breaks

pub valid_from : (p : List Insn) → IsWellFormed p → NoUnsetReadBelow p (length p) → Valid p
valid_from p formed none = record {
  some = formed.sized.0;
  fits = formed.sized.1;
  formed = λ at lacks. unbroken p formed at (inl (inl lacks));
  scratch = λ at uses. unbroken p formed at (inl (inr uses));
  divisors = λ at zero. unbroken p formed at (inr (inl zero));
  targets = λ at out. unbroken p formed at (inr (inr out));
  ends = formed.ends;
  no_unset_read = λ path word unset. let reads : ReadsWord p unset.0 word = unset.1.3 in
      none unset.0 path word (slice_get_within p unset.0 reads.0 reads.1) unset.1;
}

-- a program of which a refusal is true is not valid
pub refused_not_valid : (p : List Insn) (fault : VerifyFault) → Refuses p fault → Valid p → ⊥
refused_not_valid p Empty refused valid = absurd (omega (arith, refused, valid.some))
refused_not_valid p TooLong refused valid = absurd (omega (arith, refused, valid.fits))
refused_not_valid p (BadOpcode at) refused valid = valid.formed at refused.2
refused_not_valid p (BadScratch at) refused valid = valid.scratch at refused.2
refused_not_valid p (ZeroDivisor at) refused valid = valid.divisors at refused.2
refused_not_valid p (JumpOut at) refused valid = valid.targets at refused.2
refused_not_valid p NoReturn refused valid = refused.2 valid.ends
refused_not_valid p (Unset at word path) refused valid = valid.no_unset_read path.items word (at, refused.2)
