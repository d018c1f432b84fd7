use Rattle.std.proofs.Common.{subst, ◌∙◌, ◌≡◌, List, All}
use Rattle.ch11_merge.specs.Merging.{FilePiece, StandsFirst}
use Rattle.ch11_merge.specs.declared.channels.MergedChannel.{MergedChannel}
use Rattle.ch11_merge.specs.declared.source.Head.TheVariants.{End}
use Rattle.ch11_merge.proofs.Answering.{nothing_left, next_said_there, least_there_stands, some_at, stands_there}
use Rattle.ch11_merge.proofs.placed.next_piece.Goals as goal

pub place-requires : goal.place-requires
place-requires g c =
    let items = c.channels.inside.channels.items in
    let first = c.index-first.result.now in
    least_there_stands g.S.PieceSource.stands items c.in-Some.at first (rw (← c.as_slice.ensures.value) c.in-Some.ensures.least)
    (stands_there items _ c.in-Some.at first c.as_slice.ensures.value c.in-Some.ensures.within c.index-first.ensures)

pub returns-in-Some : goal.returns-in-Some
returns-in-Some g c = λ old said.
    let stands = g.S.PieceSource.stands in
    let at = c.in-Some.at in
    let items = c.channels.inside.channels.items in
    let first = c.index-first.result.now in
    let n = next_said_there g.S.PieceSource.left stands items old at first g.met.S.PieceSource.stands_first (rw c.channels.view_is said)
    (rw (← c.as_slice.ensures.value) c.in-Some.ensures.least)
    (stands_there items _ at first c.as_slice.ensures.value c.in-Some.ensures.within c.index-first.ensures) in
    record {
      at = at;
      of = n.of;
      is_next = n.is_next;
      head_is = c.head.ensures ∙ n.says.stands_is;
      place_is = some_at (g.S.PieceSource.left first.source) (λ (pieces : List FilePiece). StandsFirst pieces c.place.result) n.of.pieces n.says.left_is
          c.place.ensures;
    }

pub returns-in-None : goal.returns-in-None
returns-in-None g c = λ old said.
    nothing_left g.S.PieceSource.left g.S.PieceSource.stands c.args.channels.now old g.met.S.PieceSource.stands_first said
    (subst (λ (cs : List (MergedChannel g.row.S.Denot)). All (λ d. g.S.PieceSource.stands d.source ≡ End) cs)
    (c.as_slice.ensures.value ∙ c.channels.view_is) c.in-None.ensures.none)
