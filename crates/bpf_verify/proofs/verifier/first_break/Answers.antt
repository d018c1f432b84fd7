use Rattle.std.proofs.Common.{◌<◌, get_or, below_more, arith}
use Rattle.std.proofs.lemmas.Option.{slice_get-get_or}
use Rattle.bpf_insn.specs.declared.insn.Insn.{Insn}
use Rattle.bpf_insn.proofs.Ranges.{all_in_range}
use Rattle.bpf_verify.proofs.Breaks.{breaks_first}
use Rattle.bpf_verify.proofs.verifier.first_break.Goals as goal

pub returns-in-Some-clause-flaw : goal.returns-in-Some-clause-flaw
returns-in-Some-clause-flaw c = breaks_first c.args.insns.now c.places.at c.in-Some.flaw c.requires c.places.invariant.unbroken c.in-Some.ensures.flaw

pub places-preserved : goal.places-preserved
places-preserved c =
    let none : Insn = record { code = 0; jt = 0; jf = 0; k = 0 } in
    let insn : Insn = get_or c.args.insns.now c.places.at none in
    record {
      unbroken = below_more _ _ c.places.invariant.unbroken c.in_default.ensures.flaw;
      ranged = below_more _ _ c.places.invariant.ranged (
        insn,
        slice_get-get_or c.args.insns.now c.places.at none c.places-test.true,
        c.in_default.ensures.in_range,
      );
    }

pub returns-clause-flaw : goal.returns-clause-flaw
returns-clause-flaw c = λ at below breaks. c.places.invariant.unbroken at (let h : at < c.places.at = omega arith in h) breaks

pub returns-clause-in_range : goal.returns-clause-in_range
returns-clause-in_range c = all_in_range c.args.insns.now (λ at below. c.places.invariant.ranged at (omega (arith, below)))
