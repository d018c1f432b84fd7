use Rattle.std.proofs.Common.{◌∙◌}
use Rattle.std.proofs.Props.{props}
use Rattle.std.proofs.Math.Logic.{∥∥₁_elim, ∥∥₁_map}
use Rattle.ch11_packet.specs.Views.{header_data}
use Rattle.rec_reader.proofs.HeldFrames.{body_held, frames_said}
use Rattle.rec_reader.proofs.packet.Packet.frames.Goals as goal

pub held_frames-requires : goal.held_frames-requires
held_frames-requires c = ∥∥₁_map c.args.self.now.holds (λ holds.
    body_held (header_data c.args.self.now.header) c.args.self.now.body.now c.data.result.now c.args.self.now.what c.in-Frames.count c.data.ensures
    c.in-Frames.is holds)

pub returns-in-Frames-clause-frames : goal.returns-in-Frames-clause-frames
returns-in-Frames-clause-frames c = ∥∥₁_elim c.args.self.now.holds (hlevel props) (λ holds.
    let packet = c.args.self.now in
    let held = body_held (header_data packet.header) packet.body.now c.data.result.now packet.what c.in-Frames.count c.data.ensures c.in-Frames.is holds in
    let said = c.a_packet_holds_one_thing.ensures.frames held.0 c.data.result.now held.1 in
    c.held_frames.ensures.read held.0 held.1
    ∙ frames_said (header_data packet.header) packet.body.now c.data.result.now packet.what c.in-Frames.count held.0 c.data.ensures c.in-Frames.is said)
