use Rattle.std.proofs.Common.{drop}
use Rattle.rec_joined.specs.JoinedPackets.{joined_places}
use Rattle.rec_joined.proofs.PartsRead.{SameAt}
use Rattle.rec_joined.proofs.joined.JoinedPacketsPacketsAt.packet_at.Given as goal

-- the place is of none of the recordings so far
abbrev pub invariant-parts : goal.invariant-parts
invariant-parts g l =
    SameAt (joined_places g.P.PacketsAt.there l.fn.self.parts.now) (joined_places g.P.PacketsAt.there (drop l.part-index l.fn.self.parts.now)) l.fn.at
