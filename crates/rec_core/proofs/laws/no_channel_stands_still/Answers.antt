use Rattle.ch11_packet.specs.Profiles.Profile.{WithSum}
use Rattle.rec_writer.specs.Encoding.{piece_bytes, piece_header}
use Rattle.rec_core.proofs.BufferMoves.{each_moves, some_moves}
use Rattle.rec_core.proofs.laws.no_channel_stands_still.Goals as goal

pub returns-clause-each : goal.returns-clause-each
returns-clause-each c = each_moves
    (λ piece version sequence. c.packets_have_their_lengths.ensures.packet WithSum (piece_header piece version sequence) (piece_bytes piece))
    c.few_pieces_become_certain_at_a_time.ensures.end

pub returns-clause-some : goal.returns-clause-some
returns-clause-some c = some_moves
    (λ piece version sequence. c.packets_have_their_lengths.ensures.packet WithSum (piece_header piece version sequence) (piece_bytes piece))
    c.few_pieces_become_certain_at_a_time.ensures.end
