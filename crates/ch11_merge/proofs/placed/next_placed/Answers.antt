use Rattle.std.proofs.Common.{refl, sym, ◌∙◌, ap, subst, ◌≡◌, List, All}
use Rattle.std.specs.Prelude.{slice_set}
use Rattle.std.specs.BinaryHeap.{heap_items}
use Rattle.std.proofs.lemmas.List.{set-get_or}
use Rattle.ch11_merge.specs.Merging.{is_due}
use Rattle.ch11_merge.specs.Placing.{SayLeft}
use Rattle.ch11_merge.specs.declared.channels.MergedChannel.{MergedChannel}
use Rattle.ch11_merge.specs.declared.source.Head.TheVariants.{End}
use Rattle.ch11_merge.proofs.Answering.{nothing_left, next_said_there, stands_there, time_next, piece_next, least_there_stands}
use Rattle.ch11_merge.proofs.Stands.{stands_again}
use Rattle.ch11_merge.proofs.placed.next_placed.Goals as goal

pub returns-in_default : goal.returns-in_default
returns-in_default g c = λ old said. (
  old,
  said,
  (
    nothing_left g.S.PieceSource.left g.S.PieceSource.stands c.args.channels.now old g.met.S.PieceSource.stands_first said
        (subst (λ (cs : List (MergedChannel g.row.S.Denot)). All (λ d. g.S.PieceSource.stands d.source ≡ End) cs)
        (c.as_slice.ensures.value ∙ c.channels.view_is) c.in_default.ensures.none),
    refl,
  ),
)

pub returns-then-is_due : goal.returns-then-is_due
returns-then-is_due g c = λ old said.
    let left = g.S.PieceSource.left in
    let stands = g.S.PieceSource.stands in
    let items = c.channels.inside.channels.items in
    let first = c.index_mut-first.result.now in
    let is = c.index_mut-first.ensures.value in
    let kept : slice_set items c.in-Some.at first ≡ items = ap (λ d. slice_set items c.in-Some.at d) is ∙ set-get_or items c.in-Some.at first in
    let there = stands_there items _ c.in-Some.at first c.as_slice.ensures.value c.in-Some.ensures.within is in
    let n = next_said_there left stands items old c.in-Some.at first g.met.S.PieceSource.stands_first (rw c.channels.view_is said)
    (rw (← c.as_slice.ensures.value) c.in-Some.ensures.least) there in (
      old,
      rw (kept, c.channels.view_is) said,
      (
        refl,
        time_next left stands old c.in-Some.at c.args.tick first n
            (ap (is_due c.args.tick) (sym c.head.ensures) ∙ (sym c.is_due.ensures ∙ c.if-is_due.true)),
        refl,
      ),
    )

pub take-taken-requires : goal.take-taken-requires
take-taken-requires g c =
    let items = c.channels.inside.channels.items in
    let first = c.index_mut-first.result.now in
    let there = stands_there items _ c.in-Some.at first c.as_slice.ensures.value c.in-Some.ensures.within c.index_mut-first.ensures.value in
    record {
      some = least_there_stands g.S.PieceSource.stands items c.in-Some.at first (rw (← c.as_slice.ensures.value) c.in-Some.ensures.least) there;
      early = ap (is_due c.args.tick) (sym c.head.ensures) ∙ (sym c.is_due.ensures ∙ c.if-is_due.false);
    }

pub invariant_of-channels-in_err-piece : goal.invariant_of-channels-in_err-piece
invariant_of-channels-in_err-piece g c =
    let items = c.channels.inside.channels.items in
    let first = c.index_mut-first.result.now in
    let there = stands_there items _ c.in-Some.at first c.as_slice.ensures.value c.in-Some.ensures.within c.index_mut-first.ensures.value in
    stands_again g.S.PieceSource.stands items (heap_items c.channels.inside.waiting) (heap_items c.stand_again.new.waiting) c.in-Some.at c.head-head.result
    (record { channel = first.channel; source = c.take-taken.new.self }) first c.channels.invariant c.in-Some.ensures.first c.stand_again.ensures there
    c.head-head.ensures refl

pub invariant_of-channels-2 : goal.invariant_of-channels-2
invariant_of-channels-2 g c =
    let items = c.channels.inside.channels.items in
    let first = c.index_mut-first.result.now in
    let there = stands_there items _ c.in-Some.at first c.as_slice.ensures.value c.in-Some.ensures.within c.index_mut-first.ensures.value in
    stands_again g.S.PieceSource.stands items (heap_items c.channels.inside.waiting) (heap_items c.stand_again.new.waiting) c.in-Some.at c.head-head.result
    (record { channel = first.channel; source = c.take-taken.new.self }) first c.channels.invariant c.in-Some.ensures.first c.stand_again.ensures there
    c.head-head.ensures refl

pub returns : goal.returns
returns g c = λ old said.
    let left = g.S.PieceSource.left in
    let stands = g.S.PieceSource.stands in
    let items = c.channels.inside.channels.items in
    let first = c.index_mut-first.result.now in
    let there = stands_there items _ c.in-Some.at first c.as_slice.ensures.value c.in-Some.ensures.within c.index_mut-first.ensures.value in
    let said_items : SayLeft left items old = rw c.channels.view_is said in
    piece_next left stands items old c.in-Some.at c.args.tick first (record { channel = first.channel; source = c.take-taken.new.self }) _ said_items
    (next_said_there left stands items old c.in-Some.at first g.met.S.PieceSource.stands_first said_items
    (rw (← c.as_slice.ensures.value) c.in-Some.ensures.least) there)
    (ap (is_due c.args.tick) (sym c.head.ensures) ∙ (sym c.is_due.ensures ∙ c.if-is_due.false)) c.in_ok-piece.ensures.taken refl
