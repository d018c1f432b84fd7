use Rattle.ch11_packet.proofs.Lengths.{fits_by_packet}
use Rattle.ch11_packet.proofs.laws.a_frame_fits_if_its_packet_does.Goals as goal

pub returns : goal.returns
returns c = fits_by_packet
