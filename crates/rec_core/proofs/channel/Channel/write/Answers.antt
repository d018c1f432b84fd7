use Rattle.rec_lane.specs.Views.{piece_data}
use Rattle.rec_core.specs.Views.{channel_parts}
use Rattle.rec_core.proofs.Writing.{front_known, write_fails, write_writes}
use Rattle.rec_core.proofs.channel.Channel.write.Goals as goal

pub put-requires : goal.put-requires
put-requires g c = front_known c.pieces_are_of_their_channel.ensures c.pieces_so_far_begin_all_pieces.ensures.frames (channel_parts c.args.self.now)
    c.args.writer.now (piece_data c.in-Some.piece.now) c.requires.held c.requires.known c.in-Some.ensures.some

pub returns-in-Err-clause-serves : goal.returns-in-Err-clause-serves
returns-in-Err-clause-serves g c = λ size channel. write_fails size channel (channel_parts c.args.self.now) c.args.writer.now c.put.new.self
    (piece_data c.in-Some.piece.now) c.in-Err.field-0 c.in-Some.ensures.some c.in-Err.ensures.fault

pub returns-clause-serves : goal.returns-clause-serves
returns-clause-serves g c = λ size channel. write_writes size channel (channel_parts c.args.self.now) c.pop.new.self c.args.writer.now c.put.new.self
    (piece_data c.in-Some.piece.now) c.packet_len-bytes.result c.in-Some.ensures.some c.pop.ensures c.packet_len-bytes.ensures c.in-Ok.ensures.whole
