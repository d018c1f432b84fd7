use Rattle.std.proofs.Common.{◌≡◌, ◌≤◌, rules, refl, ◌∙◌, sym, ap, subst, Some, Err}
use Rattle.std.specs.Prelude.{◌⊎◌, IfErr}
use Rattle.eth_frame.specs.declared.source.SourceFault.TheVariants.{Device}
use Rattle.eth_frame.specs.declared.source.SourceEnding.TheVariants.{Fault}
use Rattle.eth_frame.specs.Source.{GivesFirst, GivesTime, GivesEnding, source_ending_of}
use Rattle.eth_frame.specs.Views.{frame_data}
use Rattle.rec_lane.specs.Lanes.{LaneState}
use Rattle.rec_run.specs.declared.worker.Worker.{Worker}
use Rattle.rec_run.proofs.WorkerSteps.{stepped, timed, faulted}
use Rattle.rec_run.proofs.worker.step.step.Goals as goal

pub returns-clause-steps : goal.returns-clause-steps
returns-clause-steps g c = λ before goes.
    let left = g.S.FrameSource.left in
    let failures = g.S.FrameSource.failures in
    let ended_as = g.S.FrameSource.ending in
    let old = c.args.worker.now in
    let new = c.record_frame.new.worker in
    let r = c.record_frame.ensures in
    let frame = frame_data c.in-Some-frame.frame in
    let ready = c.in_default.ensures.ready in
    let source : c.next.new.self ≡ new.source = sym r.source in
    let held : c.next.new.buffer ≡ Some frame = search rules in
    let gives : GivesFirst (left old.source) (Some frame) (left c.next.new.self) =
    subst (λ b. GivesFirst (left old.source) b (left c.next.new.self)) held (c.next.ensures.frame (search rules)) in
    let mid : Worker g.row.S.Denot = record c.args.worker.now { source = c.next.new.self; lane = c.make_ready.new.lane; blanks = c.make_ready.new.blanks } in
    stepped left failures ended_as before old mid new frame goes ready refl refl r.max c.in-Some-frame.frame.in_range
    (λ e. c.if-offered-worker.false (c.offered.ensures.offered ∙ ap (λ (l : LaneState). l.offered) ready ∙ e))
    (subst (λ s. GivesFirst (left old.source) (Some frame) (left s)) source gives)
    (subst (λ s. failures old.source ≤ failures s) source c.next.ensures.failures)
    (r.settings ∙ ap (λ (l : LaneState). l.settings) ready)
    c.record_frame.result r.records

pub returns-in-Ok-Time-clause-steps : goal.returns-in-Ok-Time-clause-steps
returns-in-Ok-Time-clause-steps g c = λ before goes.
    let left = g.S.FrameSource.left in
    let failures = g.S.FrameSource.failures in
    let ended_as = g.S.FrameSource.ending in
    let old = c.args.worker.now in
    let new = c.record_time.new.worker in
    let r = c.record_time.ensures in
    let counter = c.in-Ok-Time.counter in
    let ready = c.in_default.ensures.ready in
    let source : c.next.new.self ≡ new.source = sym r.source in
    let gives : GivesTime (left old.source) counter (left c.next.new.self) = c.next.ensures.time counter (search rules) in
    let mid : Worker g.row.S.Denot = record c.args.worker.now { source = c.next.new.self; lane = c.make_ready.new.lane; blanks = c.make_ready.new.blanks } in
    timed left failures ended_as before old mid new counter goes ready refl refl r.max
    (subst (λ s. GivesTime (left old.source) counter (left s)) source gives)
    (subst (λ s. failures old.source ≤ failures s) source c.next.ensures.failures)
    (r.settings ∙ ap (λ (l : LaneState). l.settings) ready)
    c.record_time.result r.records

pub returns-in-Err-clause-steps : goal.returns-in-Err-clause-steps
returns-in-Err-clause-steps g c = λ before goes.
    let left = g.S.FrameSource.left in
    let failures = g.S.FrameSource.failures in
    let ended_as = g.S.FrameSource.ending in
    let old = c.args.worker.now in
    let fault = c.in-Err.fault in
    let is : c.next.result ≡ Err fault = search rules in
    let new : Worker g.row.S.Denot = record c.args.worker.now { source = c.next.new.self; lane = c.make_ready.new.lane; blanks = c.make_ready.new.blanks } in
    faulted left failures ended_as before old new fault goes c.in_default.ensures.ready refl refl refl
    (c.next.ensures.ended ∙ ap source_ending_of is)
    (λ device. c.next.ensures.device (is ∙ ap (λ f. Err f) device))
    (subst (λ r. IfErr r (λ f. (f ≡ Device) ⊎ GivesEnding (left old.source) (Fault f) (left c.next.new.self))) is c.next.ensures.fault)
    (λ device. c.next.ensures.failed (is ∙ ap (λ f. Err f) device))
