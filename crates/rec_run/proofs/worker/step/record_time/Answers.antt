use Rattle.std.proofs.Common.{◌∷◌, ◌++◌, [], ap, sym, subst}
use Rattle.std.proofs.lemmas.List.{append-nil}
use Rattle.rtrb.specs.Ring.{sent}
use Rattle.rec_lane.specs.declared.piece.Piece.TheVariants.{Data}
use Rattle.rec_lane.specs.Lanes.{MakesCertainAt}
use Rattle.rec_lane.specs.Views.{packet_pieces}
use Rattle.rec_run.specs.WorkerSteps.{met_by}
use Rattle.rec_run.proofs.Taking.{marks_whole, marks_part}
use Rattle.rec_run.proofs.worker.step.record_time.Goals as goal

pub returns-in-None-clause-records : goal.returns-in-None-clause-records
returns-in-None-clause-records g c =
    let o = c.at-packet.ensures in
    let makes = subst (MakesCertainAt c.args.worker.now.lane c.args.counter) (ap packet_pieces c.in-None.is) o.pieces in
    marks_whole c.args.worker.now.lane c.at-packet.new.self (met_by c.args.worker.now) c.args.counter (sent c.args.worker.now.ring)
    (sent c.args.worker.now.ring) [] o.met o.current o.settings makes (sym (append-nil _))

pub returns-then-send-clause-records : goal.returns-then-send-clause-records
returns-then-send-clause-records g c =
    let o = c.at-packet.ensures in
    let makes = subst (MakesCertainAt c.args.worker.now.lane c.args.counter) (ap packet_pieces c.in-Some.is) o.pieces in
    marks_whole c.args.worker.now.lane c.at-packet.new.self (met_by c.args.worker.now) c.args.counter (sent c.args.worker.now.ring)
    (sent c.send.new.ring) (Data c.in-Some.packet ∷ []) o.met o.current o.settings makes (c.send.ensures.went c.if-send.true)

pub returns-else-send-clause-records : goal.returns-else-send-clause-records
returns-else-send-clause-records g c =
    let o = c.at-packet.ensures in
    let makes = subst (MakesCertainAt c.args.worker.now.lane c.args.counter) (ap packet_pieces c.in-Some.is) o.pieces in (
      tt,
      marks_part c.args.worker.now.lane c.at-packet.new.self (met_by c.args.worker.now) c.args.counter (sent c.args.worker.now.ring)
          (sent c.send.new.ring) (Data c.in-Some.packet ∷ []) o.met o.current o.settings makes
          (Data c.in-Some.packet ∷ [], ap (λ ps. ps ++ Data c.in-Some.packet ∷ []) (c.send.ensures.kept c.if-send.false)),
    )
