use Rattle.std.proofs.Common.{◌∙◌, ◌∷◌, ◌≢◌, ℕ, ap, subst}
use Rattle.std.specs.Prelude.{All}
use Rattle.rec_core.specs.Views.{specs_data, all_parts}
use Rattle.rec_core.proofs.Opening.{opening_core}
use Rattle.rec_core.proofs.world.World.new.Goals as goal

pub invariant_of-result : goal.invariant_of-result
invariant_of-result g c =
    let w = c.new-writer.ensures in
    let ids = c.channels_of.ensures in
    opening_core c.args.ring (g.W.Write.contents c.args.out) (specs_data c.args.specs.now) (all_parts c.in_ok-channels.channels.items) c.new-writer.result
    c.in_ok-channels.ensures.opening w.stands w.works (w.channels ∙ ap (λ ns. 0 ∷ ns) (c.as_slice.ensures.value ∙ ids.channels))
    c.in_ok-channels.ensures.channels
    (subst (λ ns. All (λ (channel : ℕ). channel ≢ 0) ns) ids.channels ids.named)
