use Rattle.std.proofs.Common.{refl, sym}
use Rattle.std.proofs.lemmas.Bool.{both_ways}
use Rattle.bpf_verify.proofs.Breaks.{no_break, uses_word_past_scratch}
use Rattle.bpf_verify.proofs.verifier.break_at.Goals as goal

pub returns-then-uses_word_past_scratch-clause-flaw : goal.returns-then-uses_word_past_scratch-clause-flaw
returns-then-uses_word_past_scratch-clause-flaw c = (
  refl,
  uses_word_past_scratch c.args.insns.now c.args.at c.args.insn c.in-Some.form (c.requires.insn, sym c.in-Some.ensures.table)
      (c.uses_word_past_scratch.ensures.0 c.if-uses_word_past_scratch.true),
)

pub returns-else-jumps_out-clause-flaw : goal.returns-else-jumps_out-clause-flaw
returns-else-jumps_out-clause-flaw c =
    no_break c.args.insns.now c.args.at c.args.insn c.in-Some.form (c.requires.insn, sym c.in-Some.ensures.table)
    (λ uses. both_ways _ c.if-uses_word_past_scratch.false (c.uses_word_past_scratch.ensures.1 uses))
    (λ divides. both_ways _ c.if-divides_by_zero.false (c.divides_by_zero.ensures.1 divides))
    (λ out. both_ways _ c.if-jumps_out.false (c.jumps_out.ensures.decides.1 out))
