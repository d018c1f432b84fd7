use Rattle.rec_joined.proofs.PartsRead.{item_there, same_from_all, same_later, there_result}
use Rattle.rec_joined.specs.JoinedPackets.{joined_places}
use Rattle.rec_joined.proofs.joined.JoinedPacketsPacketsAt.packet_at.Goals as goal

pub parts-init : goal.parts-init
parts-init g c = same_from_all (joined_places g.P.PacketsAt.there c.args.self.now.parts.now) c.args.at

pub returns-then-at-part : goal.returns-then-at-part
returns-then-at-part g c =
    there_result g.P.PacketsAt.there c.args.self.now.parts.now c.parts.part-index c.part-item.result c.args.at c.packet_of.result
    (item_there c.args.self.now.parts.now c.parts.part-index c.part-item.result c.parts-test.true c.part-item.is)
    c.parts.invariant c.if-at-part.true c.packet_of.ensures

pub parts-preserved : goal.parts-preserved
parts-preserved g c =
    same_later g.P.PacketsAt.there c.args.self.now.parts.now c.parts.part-index c.part-item.result c.args.at
    (item_there c.args.self.now.parts.now c.parts.part-index c.part-item.result c.parts-test.true c.part-item.is)
    c.parts.invariant c.if-at-part.false
