use Rattle.std.proofs.Common.{map, take}
use Rattle.std.specs.Prelude.{IfSome}
use Rattle.ch11_merge.specs.Placing.{SayLeft}
use Rattle.rec_pieces.specs.AllSources.{left_of, source_left}
use Rattle.rec_pieces.proofs.sources.channel_sources.Given as goal

-- the sources so far
abbrev pub invariant-channels : goal.invariant-channels
invariant-channels g l =
    IfSome (g.P.PacketsAt.there l.packets) (λ places. SayLeft source_left l.sources.items (map (left_of places l.listing) (take l.k l.channels.items)))
