use Rattle.std.proofs.Common.{arith}
use Rattle.rec_core.proofs.Openings.{opened_more, ids_more, filters_more}
use Rattle.rec_core.proofs.world.open_channels.Goals as goal

pub specs-preserved : goal.specs-preserved
specs-preserved c =
    let specs = c.args.specs.now in
    let k = c.specs.spec-index in
    let spec = c.spec-item.result in
    let is = c.spec-item.is in
    let push = c.push_reserved.ensures in
    let inv = c.specs.invariant in
    let before = c.specs.channels.items in
    let after = c.push_reserved.new.self.items in
    let channel = c.in_ok-new.field-0 in (
      opened_more c.args.ring specs k spec before after channel (omega arith) is push.items c.in_ok-new.ensures.opening inv.0,
      ids_more specs k spec before after channel (omega arith) is push.items c.in_ok-new.ensures.spec inv.1,
      filters_more specs k spec (omega arith) is c.in_ok-new.ensures.filter inv.2,
      omega (arith, push.len, inv.3),
      omega (arith, push.capacity, inv.4),
    )
