use Rattle.std.proofs.Common.{ℕ, List, drop, take}
use Rattle.rec_reader.specs.Packets.{PacketData}
use Rattle.rec_joined.specs.JoinedPackets.{IsJoined}
use Rattle.cli_chapter11.specs.Joining.{packets_there}
use Rattle.cli_chapter11.specs.Joining.{AreHeld, AreMovedBefore, AreReadings}
use Rattle.cli_chapter11.proofs.joining.join_in.Given as goal

-- those so far are joined
abbrev pub invariant-files : goal.invariant-files
invariant-files g l =
    AreMovedBefore g.F.PlacedRead.held l.fn.start l.fn.channels (drop l.place l.fn.all) (take l.place l.fn.files) (take l.place l.fn.recordings)
    (take l.place l.fn.all) l.joined.parts.items
    × ((bytes : List (List ℕ)) → AreHeld g.F.PlacedRead.held l.fn.files bytes
    → (read : List (List PacketData)) × AreReadings (take l.place bytes) read
    × IsJoined (packets_there g.F.PlacedRead.held) l.joined read)
