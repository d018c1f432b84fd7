use Rattle.std.proofs.Common.{◌∙◌, ◌↔◌, length, ap, sym, subst, arith}
use Rattle.std.specs.Prelude.{slice_index}
use Rattle.bpf_insn.specs.declared.insn.TheConstants.{MAX_INSNS}
use Rattle.bpf_insn.specs.Uses.{FormWritesWord}
use Rattle.bpf_verify.proofs.InsnPlaces.{there}
use Rattle.bpf_verify.specs.Masks.{IsClear}
use Rattle.bpf_verify.proofs.Arrivals.{ArrivesFromBelow, arrives_after, arrives_from_below, first_masks_arrive, first_masks_long}
use Rattle.bpf_verify.proofs.WellFormed.{leads_within, write_below}
use Rattle.bpf_verify.proofs.masks.written_masks.Goals as goal

pub places-init : goal.places-init
places-init c =
    let is = c.first_masks-masks.ensures in
    record {
      long = ap length is ∙ first_masks_long MAX_INSNS;
      masks = λ to word inside below. subst
          (λ masks. IsClear (slice_index masks to) word ↔ ArrivesFromBelow c.args.insns.now 0 to word)
          (sym is)
          (first_masks_arrive c.args.insns.now MAX_INSNS to word (omega (arith, inside, c.requires.sized.1)) below);
    }

pub mask_after-mask-requires : goal.mask_after-mask-requires
mask_after-mask-requires c =
    let i = c.fetch-form.result.1 in
    let f = c.fetch-form.result.0 in
    λ word writes. write_below c.args.insns.now c.places.at word c.requires (
      i,
      c.fetch-form.ensures.0,
      there (λ o j. FormWritesWord o j word) i f c.fetch-form.ensures.1 writes,
    )

pub pass_mask-requires-clause-within : goal.pass_mask-requires-clause-within
pass_mask-requires-clause-within c = λ to leads.
    let inside = leads_within c.args.insns.now c.places.at to c.fetch-form.result.0 c.fetch-form.result.1 c.requires c.fetch-form.ensures leads in
    omega (arith, inside, c.requires.sized.1)

pub places-preserved : goal.places-preserved
places-preserved c =
    let masks = c.places.invariant.masks in
    record {
      long = c.pass_mask.array_long;
      masks = λ to word inside below. arrives_after c.args.insns.now c.places.at to word c.fetch-form.result.0 c.fetch-form.result.1 _ _ _ _
          c.fetch-form.ensures c.places-test.true
          (masks to word inside below)
          (masks c.places.at word c.places-test.true below)
          (c.mask_after-mask.ensures word below)
          (c.pass_mask.ensures to word);
    }

pub returns : goal.returns
returns c = λ at word inside below.
    let told = c.places.invariant.masks at word inside below in
    let all = arrives_from_below c.args.insns.now c.places.at at word inside (omega (arith, inside, c.places-test.false)) in
    (λ clear. all.1 (told.0 clear), λ arrives. told.1 (all.0 arrives))
