use Rattle.std.proofs.Common.{sym, subst, ◌∙◌, ◌≢◌}
use Rattle.ch11_merge.specs.declared.source.Head.TheVariants.{End}
use Rattle.rec_pieces.specs.Sources.{SourceState, stands_by}
use Rattle.rec_pieces.proofs.SourcesTaken.{some_in_source}
use Rattle.rec_pieces.proofs.channel.ChannelPiecesPieceSource.take.Goals as goal

pub take_from-requires-clause-some : goal.take_from-requires-clause-some
take_from-requires-clause-some g c =
    some_in_source (g.P.PacketsAt.there c.self.inside.packets.now) c.self.inside.entries.now c.self.inside.next c.self.inside.hand c.in-Some.hand
    (sym c.in-Some.is ∙ c.take.ensures.value) c.self.invariant
    (subst (λ (s : SourceState). stands_by s.left s.head ≢ End) (sym c.self.view_is) c.requires.some)
