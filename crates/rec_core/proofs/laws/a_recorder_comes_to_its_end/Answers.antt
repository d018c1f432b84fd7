use Rattle.ch11_packet.specs.Profiles.Profile.{WithSum}
use Rattle.rec_writer.specs.Encoding.{piece_bytes, piece_header}
use Rattle.rec_core.proofs.BufferMoves.{goes_to_end}
use Rattle.rec_core.proofs.BufferWork.{each_falls, few_steps}
use Rattle.rec_core.proofs.laws.a_recorder_comes_to_its_end.Goals as goal

pub returns-clause-falls : goal.returns-clause-falls
returns-clause-falls c = each_falls

pub returns-clause-few : goal.returns-clause-few
returns-clause-few c = few_steps

pub returns-clause-end : goal.returns-clause-end
returns-clause-end c = goes_to_end
    (λ piece version sequence. c.packets_have_their_lengths.ensures.packet WithSum (piece_header piece version sequence) (piece_bytes piece))
    c.few_pieces_become_certain_at_a_time.ensures.end
