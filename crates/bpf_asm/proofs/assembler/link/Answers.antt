use Rattle.std.proofs.Common.{◌≡◌, ◌<◌, length, inr, ◌∙◌, arith}
use Rattle.std.proofs.lemmas.Result.{err_from_is_err_and}
use Rattle.bpf_insn.specs.declared.form.Form.TheVariants.{LdImm}
use Rattle.bpf_asm.specs.declared.draft.Unlinked.{Unlinked}
use Rattle.bpf_asm.specs.declared.template.Jump.TheVariants.{NoJump}
use Rattle.bpf_asm.proofs.Assembling.{link_more, link_breaks}
use Rattle.bpf_asm.proofs.assembler.link.Goals as goal

-- what stands where the list has no element
nothing : Unlinked
nothing = record { template = record { form = LdImm; k = 0; jump = NoJump }; line = 0 }

pub returns-in_err-insn-clause-program : goal.returns-in_err-insn-clause-program
unfolding nothing
returns-in_err-insn-clause-program c = λ labels is.
    let i = c.insns.unlinked-index in
    let items = c.args.draft.now.insns.items in
    let other = c.deref-unlinked-items.result.now in
    let same : other ≡ items = c.deref-unlinked-items.ensures.value in
    let below : i < length items = rw same at c.insns-test.true in
    let p = err_from_is_err_and c.from_residual.result c.from_residual.ensures.1 in
    rw (p.1, p.2) (inr (link_breaks labels items other i c.len.result nothing c.insns.program.items c.in_err-insn.field-0.0 same below
    (c.len.ensures ∙ c.insns.invariant.count) (c.insns.invariant.linked labels is) (c.in_err-insn.ensures labels is)))

pub insns-preserved : goal.insns-preserved
unfolding nothing
insns-preserved c =
    let i = c.insns.unlinked-index in
    let items = c.args.draft.now.insns.items in
    let other = c.deref-unlinked-items.result.now in
    let same : other ≡ items = c.deref-unlinked-items.ensures.value in
    let below : i < length items = rw same at c.insns-test.true in
    record {
      count = omega (arith, c.in_ok-push.ensures.len, c.insns.invariant.count);
      linked = λ labels is. rw c.in_ok-push.ensures.items
          (link_more labels items other i c.len.result nothing c.insns.program.items c.in_ok-insn.insn same below (c.len.ensures ∙ c.insns.invariant.count)
          (c.insns.invariant.linked labels is) (c.in_ok-insn.ensures labels is));
    }
