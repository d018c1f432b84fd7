use Rattle.std.proofs.Common.{◌∙◌}
use Rattle.rec_pieces.proofs.PlacedPackets.{read_there}
use Rattle.rec_pieces.proofs.packets.FilePacketsPacketsAt.packet_at.Goals as goal

pub returns-in-Ok-Some : goal.returns-in-Ok-Some
returns-in-Ok-Some g c =
    read_there (g.F.PlacedRead.held c.args.self.now.file.now) c.new-reader.result.left c.next.new.self.left c.args.at c.new-reader.result.at c.in-Ok-Some.packet
    c.in-Ok-Some.field-0 c.in-Ok-Some.field-0-is (c.new-reader.ensures.left ∙ c.new.ensures) (c.in-Ok-Some.ensures.answer c.new-reader.ensures.open)
