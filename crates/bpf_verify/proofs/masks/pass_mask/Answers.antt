use Rattle.std.proofs.Common.{refl, subst, inl, inr}
use Rattle.bpf_insn.specs.Flow.{IsOneOf}
use Rattle.bpf_verify.proofs.masks.pass_mask.Goals as goal

pub narrow-requires : goal.narrow-requires
narrow-requires c = c.requires.within c.in-One.next (subst (λ all. IsOneOf all c.in-One.next) c.in-One.ensures.successors refl)

pub narrow-requires-in-Two : goal.narrow-requires-in-Two
narrow-requires-in-Two c = c.requires.within c.in-Two.one (subst (λ all. IsOneOf all c.in-Two.one) c.in-Two.ensures.successors (inl refl))

pub narrow-requires-in-Two-2 : goal.narrow-requires-in-Two-2
narrow-requires-in-Two-2 c = c.requires.within c.in-Two.other (subst (λ all. IsOneOf all c.in-Two.other) c.in-Two.ensures.successors (inr refl))
