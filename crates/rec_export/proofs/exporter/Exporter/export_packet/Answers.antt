use Rattle.std.proofs.Common.{List, ◌≡◌, subst, refl}
use Rattle.std.specs.Prelude.{OnOk, OnErr}
use Rattle.std.specs.Io.KnownBytes.{Appends}
use Rattle.pcapng_blocks.specs.Blocks.{BlockData, blocks_bytes}
use Rattle.pcapng_blocks.specs.Outputs.{TakesStart}
use Rattle.rec_reader.specs.Views.{packet_data}
use Rattle.rec_export.specs.Export.{ExportState, export_state}
use Rattle.rec_export.proofs.Sayings.{says_frames, frames_blocks_are, frames_state_is, version_blocks_are, version_state_is}
use Rattle.rec_export.proofs.exporter.Exporter.export_packet.Goals as goal

pub returns-in-Some-clause-whole : goal.returns-in-Some-clause-whole
returns-in-Some-clause-whole g c =
    let packet = packet_data c.args.packet.now in
    let held = c.in-Some.ensures.some.0 refl in
    subst (λ (blocks : List BlockData). OnOk c.export_frames.result
    (Appends (g.W.Write.contents c.args.out.now) (g.W.Write.contents c.export_frames.new.out) (blocks_bytes blocks)))
    (frames_blocks_are (export_state c.self.inside.origin c.self.inside.interfaces) c.args.self.now packet packet.header.channel c.in-Some.frames
    c.self.view_is
    (says_frames packet held.0 c.in-Some.frames held.1 c.in-Some.ensures.frames))
    c.export_frames.ensures.whole

pub returns-in-Some-clause-state : goal.returns-in-Some-clause-state
returns-in-Some-clause-state g c =
    let packet = packet_data c.args.packet.now in
    let held = c.in-Some.ensures.some.0 refl in
    subst (λ (state : ExportState). OnOk c.export_frames.result (export_state c.self.inside.origin c.export_frames.new.interfaces ≡ state))
    (frames_state_is (export_state c.self.inside.origin c.self.inside.interfaces) c.args.self.now packet packet.header.channel c.in-Some.frames
    c.self.view_is
    (says_frames packet held.0 c.in-Some.frames held.1 c.in-Some.ensures.frames))
    c.export_frames.ensures.state

pub returns-in-Some-clause-part : goal.returns-in-Some-clause-part
returns-in-Some-clause-part g c =
    let packet = packet_data c.args.packet.now in
    let held = c.in-Some.ensures.some.0 refl in
    subst (λ (blocks : List BlockData). OnErr c.export_frames.result
    (TakesStart (g.W.Write.contents c.args.out.now) (g.W.Write.contents c.export_frames.new.out) (blocks_bytes blocks)))
    (frames_blocks_are (export_state c.self.inside.origin c.self.inside.interfaces) c.args.self.now packet packet.header.channel c.in-Some.frames
    c.self.view_is
    (says_frames packet held.0 c.in-Some.frames held.1 c.in-Some.ensures.frames))
    c.export_frames.ensures.part

pub returns-clause-whole : goal.returns-clause-whole
returns-clause-whole g c =
    subst (λ (blocks : List BlockData). OnOk c.export_version.result
    (Appends (g.W.Write.contents c.args.out.now) (g.W.Write.contents c.export_version.new.out) (blocks_bytes blocks)))
    (version_blocks_are (export_state c.self.inside.origin c.self.inside.interfaces) c.args.self.now (packet_data c.args.packet.now)
    c.in-Some-program.program
    c.self.view_is c.in-Some-program.ensures.program)
    c.export_version.ensures.whole

pub returns-clause-state : goal.returns-clause-state
returns-clause-state g c =
    subst (λ (state : ExportState). OnOk c.export_version.result (export_state c.self.inside.origin c.export_version.new.interfaces ≡ state))
    (version_state_is (export_state c.self.inside.origin c.self.inside.interfaces) c.args.self.now (packet_data c.args.packet.now)
    c.in-Some-program.program
    c.self.view_is c.in-Some-program.ensures.program)
    c.export_version.ensures.state

pub returns-clause-part : goal.returns-clause-part
returns-clause-part g c =
    subst (λ (blocks : List BlockData). OnErr c.export_version.result
    (TakesStart (g.W.Write.contents c.args.out.now) (g.W.Write.contents c.export_version.new.out) (blocks_bytes blocks)))
    (version_blocks_are (export_state c.self.inside.origin c.self.inside.interfaces) c.args.self.now (packet_data c.args.packet.now)
    c.in-Some-program.program
    c.self.view_is c.in-Some-program.ensures.program)
    c.export_version.ensures.part
