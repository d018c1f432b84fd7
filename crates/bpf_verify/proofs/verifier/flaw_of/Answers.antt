use Rattle.std.proofs.Common.{◌<◌, length, sym, ◌∙◌, arith}
use Rattle.std.proofs.lemmas.Bool.{eqb-false}
use Rattle.bpf_verify.proofs.UnsetReads.{valid_or_unset}
use Rattle.bpf_verify.proofs.verifier.flaw_of.Goals as goal

pub unset_read-requires : goal.unset_read-requires
unset_read-requires c =
    let some : 0 < length c.args.insns.now = let ne = eqb-false _ _ (sym c.is_empty.ensures ∙ c.if-is_empty.false) in omega (arith, ne) in
    record {
      sized = (some, c.if-insns-gt-MAX_INSNS.false);
      unbroken = c.in_default.ensures.flaw;
      ends = c.ends_with_return.ensures.0 c.if-not-ends_with_return.false;
    }

pub returns-clause-flaw : goal.returns-clause-flaw
returns-clause-flaw c =
    let some : 0 < length c.args.insns.now = let ne = eqb-false _ _ (sym c.is_empty.ensures ∙ c.if-is_empty.false) in omega (arith, ne) in
    valid_or_unset c.args.insns.now c.unset_read.result
    (record {
      sized = (some, c.if-insns-gt-MAX_INSNS.false);
      unbroken = c.in_default.ensures.flaw;
      ends = c.ends_with_return.ensures.0 c.if-not-ends_with_return.false;
    })
    c.unset_read.ensures
