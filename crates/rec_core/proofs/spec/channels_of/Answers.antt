use Rattle.std.proofs.Common.{◌≢◌, ℕ, get_or, ◌∙◌, ap, subst, sym, arith, ◌++◌, ◌∷◌, []}
use Rattle.std.specs.Prelude.{All}
use Rattle.std.proofs.lemmas.List.Elements.{All-push}
use Rattle.rec_core.proofs.Openings.{channels_more}
use Rattle.rec_core.proofs.spec.channels_of.Goals as goal

pub specs-preserved : goal.specs-preserved
specs-preserved c =
    let spec = get_or c.args.specs.now c.specs.k c.index-specs-k.result in
    let channel = spec.lane.channel in
    let inv = c.specs.invariant in (
      c.push.ensures.items ∙ (ap (λ ns. ns ++ channel ∷ []) inv.0 ∙ sym (channels_more c.args.specs.now c.specs.k c.index-specs-k.result (omega arith))),
      omega (arith, c.push.ensures.len, inv.1),
      subst (λ ns. All (λ (n : ℕ). n ≢ 0) ns) (sym c.push.ensures.items)
          (All-push (λ (n : ℕ). n ≢ 0) c.specs.channels.items channel inv.2 (let named = spec.lane.named in λ e. omega (arith, e, named))),
    )
