use Rattle.std.proofs.Common.{take}
use Rattle.std.specs.Io.KnownBytes.{Appends}
use Rattle.rec_reader.specs.Upgrades.{CountsUpgraded, upgrade_bytes}
use Rattle.rec_reader.specs.Views.{packets_data}
use Rattle.rec_reader.proofs.upgrades.upgrade.Given as goal

-- the output took the upgrade of the packets so far, and these are counted
abbrev pub invariant-packets : goal.invariant-packets
invariant-packets g l =
    Appends (g.W.Write.contents l.initial.out) (g.W.Write.contents l.out) (upgrade_bytes (packets_data (take l.packet-index l.packet-items)))
    × CountsUpgraded (packets_data (take l.packet-index l.packet-items)) l.counts
