use Rattle.ch11_packet.proofs.ReadBodies.{Passed}
use Rattle.ch11_packet.proofs.frames.decode.decode_frames.Given as goal

abbrev pub invariant-frames : goal.invariant-frames
invariant-frames l = Passed l.counter l.bytes l.rest
