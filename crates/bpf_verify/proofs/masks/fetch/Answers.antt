use Rattle.std.proofs.Common.{inl, inr, arith}
use Rattle.std.proofs.lemmas.Option.{slice_get_cases}
use Rattle.bpf_verify.proofs.WellFormed.{has_form}
use Rattle.bpf_verify.proofs.masks.fetch.Goals as goal

pub unreachable-requires : goal.unreachable-requires
unreachable-requires c = elim (slice_get_cases c.args.insns.now c.args.at).1 [
  | inl there ↦ has_form c.args.insns.now c.args.at there.0 c.requires.well_formed there.2 (c.in-None.ensures.none there.0 there.2)
  | inr past ↦ absurd (omega (arith, c.requires.place, past.0))
]
