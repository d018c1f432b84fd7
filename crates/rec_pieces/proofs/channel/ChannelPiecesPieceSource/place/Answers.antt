use Rattle.std.proofs.Common.{sym, subst, ◌≢◌}
use Rattle.std.specs.Prelude.{IfSome}
use Rattle.ch11_merge.specs.Merging.{StandsFirst}
use Rattle.ch11_merge.specs.declared.source.Head.TheVariants.{End}
use Rattle.rec_pieces.specs.Sources.{SourceState, stands_by}
use Rattle.rec_pieces.proofs.SourcesTaken.{first_in_source, some_in_source}
use Rattle.rec_pieces.proofs.channel.ChannelPiecesPieceSource.place.Goals as goal

pub place-requires : goal.place-requires
place-requires g c =
    some_in_source (g.P.PacketsAt.there c.self.inside.packets.now) c.self.inside.entries.now c.self.inside.next c.self.inside.hand c.in-Some.hand
    (sym c.in-Some.is) c.self.invariant (subst (λ (s : SourceState). stands_by s.left s.head ≢ End) (sym c.self.view_is) c.requires)

pub returns : goal.returns
returns g c =
    subst (λ (s : SourceState). IfSome s.left (λ pieces. StandsFirst pieces c.place.result)) c.self.view_is
    (first_in_source (g.P.PacketsAt.there c.self.inside.packets.now) c.self.inside.entries.now c.self.inside.next c.place.result c.self.inside.hand
    c.in-Some.hand (sym c.in-Some.is) c.place.ensures)
