use Rattle.std.proofs.Common.{ap, sym, ◌∙◌, drop}
use Rattle.ch11_packet.specs.FramesRead.{first_reads}
use Rattle.ch11_packet.specs.Views.{read_frame_data}
use Rattle.ch11_packet.specs.Classes.{data_in, said_frames}
use Rattle.rec_reader.specs.Packets.{PacketData}
use Rattle.rec_pieces.proofs.HandPieces.{all_in_hand, some_in_hand}
use Rattle.rec_pieces.proofs.frames.FramesInHand.of.Goals as goal

pub returns-clause-some : goal.returns-clause-some
returns-clause-some c =
    let same = ap (λ (p : PacketData). data_in p.header p.body) c.packet-2.ensures.same in
    let there = ap (first_reads c.args.count) (c.frames_bytes.ensures.bytes ∙ ap (drop 4) same) in
    rw c.before-ahead.ensures (all_in_hand c.args.place c.args.count (data_in c.args.packet.header c.args.packet.body) (read_frame_data c.in_ok-first.first) _ _
    (sym there ∙ c.in_ok-first.ensures.first) (sym there ∙ c.frames_bytes.ensures.frames ∙ ap said_frames same))

pub returns-clause-more : goal.returns-clause-more
returns-clause-more c =
    let same = ap (λ (p : PacketData). data_in p.header p.body) c.packet-2.ensures.same in
    let there = ap (first_reads c.args.count) (c.frames_bytes.ensures.bytes ∙ ap (drop 4) same) in
    some_in_hand c.args.place c.before-ahead.result c.args.count 4 (data_in c.args.packet.header c.args.packet.body) (read_frame_data c.in_ok-first.first) _
    (sym there ∙ c.in_ok-first.ensures.first)
