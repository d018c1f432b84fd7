use Rattle.std.proofs.Common.{length}
use Rattle.rec_reader.specs.Packets.{BeginsPackets}
use Rattle.rec_reader.specs.Views.{packets_data}
use Rattle.rec_reader.proofs.read.read_recording.Given as goal

abbrev pub invariant-packets : goal.invariant-packets
invariant-packets l = BeginsPackets 0 (packets_data l.packets.items) l.bytes l.rest

abbrev pub decreases-packets : goal.decreases-packets
decreases-packets l = length l.rest
