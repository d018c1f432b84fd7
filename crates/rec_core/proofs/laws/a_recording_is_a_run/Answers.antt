use Rattle.ch11_packet.specs.Profiles.Profile.{WithSum}
use Rattle.rec_writer.specs.Encoding.{piece_bytes, piece_header}
use Rattle.rec_core.proofs.Ties.{tied}
use Rattle.rec_core.proofs.laws.a_recording_is_a_run.Goals as goal

pub returns : goal.returns
returns c = λ ring specs channels pieces some are zip of_channels.
    tied (λ piece version sequence. c.packets_have_their_lengths.ensures.packet WithSum (piece_header piece version sequence) (piece_bytes piece)) ring pieces
    some specs channels are zip of_channels
