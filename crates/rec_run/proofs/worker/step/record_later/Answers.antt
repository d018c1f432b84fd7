use Rattle.std.proofs.Common.{inl, arith}
use Rattle.std.specs.Arc.{arc_value}
use Rattle.rtrb.specs.Ring.{sent}
use Rattle.eth_frame.specs.Views.{frame_data}
use Rattle.rec_run.proofs.Taking.{takes_whole, takes_part, later_offers}
use Rattle.rec_run.proofs.worker.step.record_later.Goals as goal

pub returns-then-send_all-clause-records : goal.returns-then-send_all-clause-records
returns-then-send_all-clause-records g c =
    let o = c.offer-offered.ensures in
    let offers = later_offers c.args.worker.now.lane c.offer-offered.new.self _ _ (frame_data c.args.frame.now) c.args.drawn.version c.args.drawn.number
    c.offer-offered.result.value (arc_value c.args.drawn.program) c.offer-offered.result.pieces.items (c.meet.ensures.met c.if-not-meet.false)
    (omega (arith, c.if-drawn-offered.false, c.offered.ensures.offered)) o.value o.met o.pieces o.settings in
    takes_whole _ _ _ _ _ (sent c.args.worker.now.ring) (sent c.send_all.new.ring) c.offer-offered.result.pieces.items offers
    (c.send_all.ensures.went c.if-send_all.true)

pub returns-else-send_all-clause-records : goal.returns-else-send_all-clause-records
returns-else-send_all-clause-records g c =
    let o = c.offer-offered.ensures in
    let offers = later_offers c.args.worker.now.lane c.offer-offered.new.self _ _ (frame_data c.args.frame.now) c.args.drawn.version c.args.drawn.number
    c.offer-offered.result.value (arc_value c.args.drawn.program) c.offer-offered.result.pieces.items (c.meet.ensures.met c.if-not-meet.false)
    (omega (arith, c.if-drawn-offered.false, c.offered.ensures.offered)) o.value o.met o.pieces o.settings in
    (tt, inl (takes_part _ _ _ _ _ (sent c.args.worker.now.ring) (sent c.send_all.new.ring) c.offer-offered.result.pieces.items offers c.send_all.ensures.part))
