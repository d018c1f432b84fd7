use Rattle.std.proofs.Common.{ap, sym, ◌∙◌, length, arith}
use Rattle.std.proofs.Props.{props}
use Rattle.std.proofs.Math.Logic.{∥∥₁_elim, ∥∥₁_map}
use Rattle.std.proofs.lemmas.List.{length-drop}
use Rattle.ch11_packet.specs.Classes.{said_frames}
use Rattle.ch11_packet.specs.Views.{header_data}
use Rattle.ch11_packet.proofs.ReadBodies.{word_held, frames_held, held_read}
use Rattle.rec_reader.proofs.HeldFrames.{body_held}
use Rattle.rec_pieces.proofs.frames.frames_bytes.Goals as goal

pub returns-clause-frames : goal.returns-clause-frames
returns-clause-frames c = ∥∥₁_elim c.args.packet.now.holds (hlevel props) (λ holds.
    let packet = c.args.packet.now in
    let held = body_held (header_data packet.header) packet.body.now c.data.result.now packet.what c.args.count c.data.ensures c.requires holds in
    held_read c.args.count held.0 c.data.result.now ∣ held ∣₁ held.1
    ∙ sym (c.a_packet_holds_one_thing.ensures.frames held.0 c.data.result.now held.1)
    ∙ ap said_frames c.data.ensures)

pub returns-clause-held : goal.returns-clause-held
returns-clause-held c =
    frames_held c.args.count c.data.result.now (∥∥₁_map c.args.packet.now.holds (λ holds.
    let packet = c.args.packet.now in
    body_held (header_data packet.header) packet.body.now c.data.result.now packet.what c.args.count c.data.ensures c.requires holds))

pub returns-clause-len : goal.returns-clause-len
returns-clause-len c =
    let word = word_held c.args.count c.data.result.now (∥∥₁_map c.args.packet.now.holds (λ holds.
    let packet = c.args.packet.now in
    body_held (header_data packet.header) packet.body.now c.data.result.now packet.what c.args.count c.data.ensures c.requires holds)) in
    omega (arith, length-drop 4 c.data.result.now, word, ap length c.data.ensures)
