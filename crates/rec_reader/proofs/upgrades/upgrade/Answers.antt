use Rattle.std.proofs.Common.{rules}
use Rattle.rec_reader.proofs.UpgradeSteps.{fails_in, fault_passed}
use Rattle.rec_reader.proofs.upgrades.upgrade.Goals as goal

pub returns-in_err-upgrade_packet-clause-part : goal.returns-in_err-upgrade_packet-clause-part
returns-in_err-upgrade_packet-clause-part g c =
    let items = c.packets-packet-items.result.now in
    fault_passed c.args.recording.now _ _ c.from_residual.result c.in_err-upgrade_packet.field-0.0 c.from_residual.ensures.1
    (fails_in c.args.recording.now _ _ _ items c.packets.packet-index c.packet-item.result c.packets.counts c.in_err-upgrade_packet.field-0.0
    c.packets-packet-items.ensures.packets
    c.packets-test.true (search rules) c.packet-item.is c.packets.invariant.0 c.packets.invariant.1 c.in_err-upgrade_packet.ensures.part)
