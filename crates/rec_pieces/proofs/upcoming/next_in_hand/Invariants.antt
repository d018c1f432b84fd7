use Rattle.std.proofs.Common.{◌≡◌, ◌-◌, length}
use Rattle.std.specs.Prelude.{IfSome}
use Rattle.rec_pieces.specs.Sources.{pieces_to_come}
use Rattle.rec_pieces.proofs.upcoming.next_in_hand.Given as goal

-- the packets so far have no pieces
abbrev pub invariant-packets : goal.invariant-packets
invariant-packets g l =
    IfSome (g.P.PacketsAt.there l.fn.packets) (λ places. pieces_to_come l.fn.entries l.fn.next places ≡ pieces_to_come l.fn.entries l.next places)

abbrev pub decreases-packets : goal.decreases-packets
decreases-packets g l = length l.fn.entries - l.next
