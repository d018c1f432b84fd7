use Rattle.std.proofs.Common.{rules, refl, sym, ap, ◌∙◌, subst, List, Some}
use Rattle.std.specs.BinaryHeap.{IsHeap, heap_items}
use Rattle.std.specs.declared.cmp.Reverse.{Reverse}
use Rattle.std.proofs.lemmas.Option.{slice_get-get_or}
use Rattle.ch11_merge.specs.declared.waiting.Waiting.{Waiting}
use Rattle.ch11_merge.specs.Waiting.{AreStands, reverse_order}
use Rattle.ch11_merge.proofs.Stands.{no_stands, one_more_stand}
use Rattle.ch11_merge.proofs.channels.MergedChannels.new.Goals as goal

pub channels-init : goal.channels-init
channels-init g c =
    let stands = g.S.PieceSource.stands in
    let channels = c.args.channels.items in
    let none = c.new-waiting.ensures.items in
    subst (λ (heap : List (Reverse Waiting)). AreStands stands channels 0 heap) (sym none)
    (no_stands stands channels (subst (λ (heap : List (Reverse Waiting)). IsHeap reverse_order heap) none c.new-waiting.ensures.heap_order))

pub channels-preserved : goal.channels-preserved
channels-preserved g c =
    let stands = g.S.PieceSource.stands in
    let channels = c.args.channels.items in
    let next = c.index-next.result.now in
    one_more_stand stands channels c.channels.at _ (heap_items c.channels.waiting) (heap_items c.push.new.self) c.channels.invariant
    (record {
      of = next;
      there = slice_get-get_or channels c.channels.at next (search rules) ∙ ap Some (sym c.index-next.ensures);
      head_is = c.head.ensures;
      channel_is = refl;
    })
    refl c.in_ok-push.ensures.permutation (c.in_ok-push.ensures.heap_order c.channels.invariant.ordered)
