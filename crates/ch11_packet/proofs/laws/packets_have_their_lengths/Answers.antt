use Rattle.ch11_packet.proofs.Lengths.{length-packet, length-data, length-packet_of_frames, length-program, length-end}
use Rattle.ch11_packet.proofs.laws.packets_have_their_lengths.Goals as goal

pub returns-clause-packet : goal.returns-clause-packet
returns-clause-packet c = length-packet

pub returns-clause-frames : goal.returns-clause-frames
returns-clause-frames c = length-data

pub returns-clause-packet_of_frames : goal.returns-clause-packet_of_frames
returns-clause-packet_of_frames c = length-packet_of_frames

pub returns-clause-program : goal.returns-clause-program
returns-clause-program c = length-program

pub returns-clause-ending : goal.returns-clause-ending
returns-clause-ending c = length-end
