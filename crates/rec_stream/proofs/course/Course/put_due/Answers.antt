use Rattle.std.proofs.Common.{◌∷◌, sym, ap, subst, ◌∙◌}
use Rattle.std.proofs.lemmas.Result.{err_from_is_err_and}
use Rattle.rec_stream.specs.Courses.{Course, course_of}
use Rattle.rec_stream.specs.StreamPieces.{stream_counter}
use Rattle.rec_stream.specs.StreamBlocks.{behind_setup}
use Rattle.rec_stream.specs.Sending.{HasCome, HasGone}
use Rattle.rec_stream.proofs.GoingOn.{fault_fails}
use Rattle.rec_stream.proofs.Begins.{no_setup_yet}
use Rattle.rec_stream.proofs.Comes.{IsFound, course_behind_setup, due_out, found_behind, found_next, found_setup, not_due, ready_at_once}
use Rattle.rec_stream.proofs.course.Course.put_due.Goals.{then-self-point+in_ok-put_setup, else-self-point}
use Rattle.rec_stream.proofs.course.Course.put_due.Goals as goal

pub returns-in_default-clause-ready : goal.returns-in_default-clause-ready
returns-in_default-clause-ready g c = λ past piece others same come counted.
    let f = c.self.inside in
    let old = course_of f.time f.times f.setup in
    let here : HasCome past (g.W.Write.contents c.args.out.now) c.args.sent.now old (piece ∷ others) =
    subst (λ (k : Course). HasCome past (g.W.Write.contents c.args.out.now) c.args.sent.now k (piece ∷ others)) (sym c.self.view_is) come in
    let is = here.is_course in
    ready_at_once past (g.W.Write.contents c.args.out.now) c.args.sent.now old c.last_due.new.times piece others c.args.counter c.in_default.ensures.none
    here counted (c.last_due.ensures.early past.facts.rules here.now.least is.time is.walking)

pub returns-in_err-put_setup-clause-ready : goal.returns-in_err-put_setup-clause-ready
returns-in_err-put_setup-clause-ready g c = λ past piece others same come counted.
    let p = err_from_is_err_and c.from_residual.result c.from_residual.ensures.1 in
    let f = c.self.inside in
    let old = course_of f.time f.times f.setup in
    let here : HasCome past (g.W.Write.contents c.args.out.now) c.args.sent.now old (piece ∷ others) =
    subst (λ (k : Course). HasCome past (g.W.Write.contents c.args.out.now) c.args.sent.now k (piece ∷ others)) (sym c.self.view_is) come in
    let is = here.is_course in
    let point = c.in-Some.point in
    let some = c.in-Some.ensures.some past.facts.rules here.now.least is.time is.walking in
    let found : IsFound past here.now piece others is.time c.args.counter point.moment point.tick = record {
      time_is = is.time_is;
      left_is = here.left_is;
      counter_is = counted ∙ ap (λ n. stream_counter n piece) (sym here.has_gone.greatest);
      due = some.0;
    } in
    rw (p.1, p.2) (fault_fails past (g.W.Write.contents c.put_setup.new.out) c.in_err-put_setup.field-0.0
    (c.in_err-put_setup.ensures.sent past here.now (behind_setup here.now point.tick) same here.has_gone
    (found_setup past here.now old c.args.setup.now piece others is.time c.args.counter point.moment point.tick same is found c.if-self-point.true)))

pub returns-clause-ready : goal.returns-clause-ready
returns-clause-ready g c = λ past piece others same come counted.
    let f = c.self.inside in
    let old = course_of f.time f.times f.setup in
    let here : HasCome past (g.W.Write.contents c.args.out.now) c.args.sent.now old (piece ∷ others) =
    subst (λ (k : Course). HasCome past (g.W.Write.contents c.args.out.now) c.args.sent.now k (piece ∷ others)) (sym c.self.view_is) come in
    let is = here.is_course in
    let point = c.in-Some.point in
    let some = c.in-Some.ensures.some past.facts.rules here.now.least is.time is.walking in
    let found : IsFound past here.now piece others is.time c.args.counter point.moment point.tick = record {
      time_is = is.time_is;
      left_is = here.left_is;
      counter_is = counted ∙ ap (λ n. stream_counter n piece) (sym here.has_gone.greatest);
      due = some.0;
    } in
    let early = c.last_due.ensures.early past.facts.rules here.now.least is.time is.walking in
    elim c.if-self-point.branch [
      | then-self-point+in_ok-put_setup w ↦
          let state = behind_setup here.now point.tick in
          let behind = found_behind past here.now piece others is.time c.args.counter point.moment point.tick found in
          let gone : HasGone past (g.W.Write.contents c.if-self-point.out) c.if-self-point.sent state =
          rw (w.out-is, w.sent-is) (w.in_ok-put_setup.ensures.sent past here.now state same here.has_gone
          (found_setup past here.now old c.args.setup.now piece others is.time c.args.counter point.moment point.tick same is found w.if-self-point.true)) in
          due_out c.put_time.result past (g.W.Write.contents c.put_time.new.out) c.put_time.new.sent state (course_of f.time f.times point.tick)
          c.if-self-point.self c.last_due.new.times piece others is.time c.args.counter point.moment point.tick behind
          (course_behind_setup past.facts old here.now point.tick is) some.1 early w.self-is
          (c.put_time.ensures.sent past state same gone
          (found_next past state piece others is.time c.args.counter point.moment point.tick behind) (no_setup_yet point.tick))
      | else-self-point w ↦
          let gone : HasGone past (g.W.Write.contents c.if-self-point.out) c.if-self-point.sent here.now =
          rw (w.out-is, w.sent-is) here.has_gone in
          due_out c.put_time.result past (g.W.Write.contents c.put_time.new.out) c.put_time.new.sent here.now old
          c.if-self-point.self c.last_due.new.times piece others is.time c.args.counter point.moment point.tick found is some.1 early w.self-is
          (c.put_time.ensures.sent past here.now same gone
          (found_next past here.now piece others is.time c.args.counter point.moment point.tick found)
          (not_due here.now.setup f.setup point.tick is.setup w.if-self-point.false))
    ]
