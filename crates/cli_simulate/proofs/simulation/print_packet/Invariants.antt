use Rattle.std.proofs.Common.{take}
use Rattle.std.specs.List.{flat_map}
use Rattle.std.specs.Io.KnownBytes.{Appends}
use Rattle.cli_simulate.specs.Replies.{byte_text}
use Rattle.cli_simulate.proofs.simulation.print_packet.Given as goal

-- the output took the bytes so far
abbrev pub invariant-bytes : goal.invariant-bytes
invariant-bytes g l =
    Appends (g.O.Write.contents l.initial.output) (g.O.Write.contents l.output) (flat_map byte_text (take l.byte-index l.packet))
