use Rattle.std.proofs.Common.{ℤ, sym, subst, ◌∙◌, rules, to_z-of_z, w64, FitsSigned}
use Rattle.std.proofs.lemmas.Result.{err_from_is_err_and}
use Rattle.ch11_clock.specs.CivilTime.{IsTimeOf}
use Rattle.ch11_file.proofs.FileFronts.{first_is}
use Rattle.rec_stream.specs.StreamBlocks.{behind_setup, stream_begun}
use Rattle.rec_stream.proofs.GoingOn.{fault_fails}
use Rattle.rec_stream.proofs.Begins.{begun_course, first_by, first_setup, fresh_gone, no_origin, no_setup_yet, no_year}
use Rattle.rec_stream.proofs.course.begin.Goals as goal

pub returns-in_default-clause-begun : goal.returns-in_default-clause-begun
returns-in_default-clause-begun g c = λ past left same rules_are fresh.
    no_origin past c.args.least left _ c.args.sent.now c.args.made.clock.now fresh rules_are
    (c.new-times.ensures.none (sym c.next.ensures ∙ c.in_default.is))

pub returns-in_default-civil_time-clause-begun : goal.returns-in_default-civil_time-clause-begun
returns-in_default-civil_time-clause-begun g c = λ past left same rules_are fresh.
    let point = c.in-Some.first in
    let is = sym c.next.ensures ∙ c.in-Some.is in
    let first = first_is c.args.least c.args.made.clock.now c.new-times.result.next point is c.new-times.ensures.first in
    let fits : FitsSigned w64 point.moment = search rules in
    no_year past _ c.args.sent.now (stream_begun c.args.least left) point.moment point.tick (fresh_gone past c.args.least left _ c.args.sent.now fresh)
    (first_by past.facts c.args.least c.args.made.clock.now point.moment point.tick rules_are first)
    (λ time is_time. c.in_default-civil_time.ensures.none time (subst (λ (m : ℤ). IsTimeOf time m) (sym (to_z-of_z fits)) is_time))

pub returns-in_err-put_setup-clause-begun : goal.returns-in_err-put_setup-clause-begun
returns-in_err-put_setup-clause-begun g c = λ past left same rules_are fresh.
    let p = err_from_is_err_and c.from_residual.result c.from_residual.ensures.1 in
    let point = c.in-Some.first in
    let is = sym c.next.ensures ∙ c.in-Some.is in
    let first = first_is c.args.least c.args.made.clock.now c.new-times.result.next point is c.new-times.ensures.first in
    let fits : FitsSigned w64 point.moment = search rules in
    let time = c.in-Some-civil_time.time in
    let tells : IsTimeOf time point.moment = subst (λ (m : ℤ). IsTimeOf time m) (to_z-of_z fits) c.in-Some-civil_time.ensures.some in
    let begun = stream_begun c.args.least left in
    let gone = fresh_gone past c.args.least left _ c.args.sent.now fresh in
    let goes = first_setup past.facts c.args.made.setup.now c.args.made.clock.now c.args.least left time point.moment point.tick same rules_are first tells in
    rw (p.1, p.2) (fault_fails past (g.W.Write.contents c.put_setup.new.out) c.in_err-put_setup.field-0.0
    (c.in_err-put_setup.ensures.sent past begun (behind_setup begun point.tick) same gone goes))

pub returns-in_err-put_time-clause-begun : goal.returns-in_err-put_time-clause-begun
returns-in_err-put_time-clause-begun g c = λ past left same rules_are fresh.
    let p = err_from_is_err_and c.from_residual-in_err-put_time.result c.from_residual-in_err-put_time.ensures.1 in
    let point = c.in-Some.first in
    let is = sym c.next.ensures ∙ c.in-Some.is in
    let first = first_is c.args.least c.args.made.clock.now c.new-times.result.next point is c.new-times.ensures.first in
    let fits : FitsSigned w64 point.moment = search rules in
    let time = c.in-Some-civil_time.time in
    let tells : IsTimeOf time point.moment = subst (λ (m : ℤ). IsTimeOf time m) (to_z-of_z fits) c.in-Some-civil_time.ensures.some in
    let begun = stream_begun c.args.least left in
    let gone = fresh_gone past c.args.least left _ c.args.sent.now fresh in
    let goes = first_setup past.facts c.args.made.setup.now c.args.made.clock.now c.args.least left time point.moment point.tick same rules_are first tells in
    rw (p.1, p.2) (c.in_err-put_time.ensures.sent past (behind_setup begun point.tick) same
    (c.in_ok-put_setup.ensures.sent past begun (behind_setup begun point.tick) same gone goes)
    (first_by past.facts c.args.least c.args.made.clock.now point.moment point.tick rules_are first) (no_setup_yet point.tick))

pub returns-clause-begun : goal.returns-clause-begun
returns-clause-begun g c = λ past left same rules_are fresh.
    let point = c.in-Some.first in
    let is = sym c.next.ensures ∙ c.in-Some.is in
    let first = first_is c.args.least c.args.made.clock.now c.new-times.result.next point is c.new-times.ensures.first in
    let fits : FitsSigned w64 point.moment = search rules in
    let time = c.in-Some-civil_time.time in
    let tells : IsTimeOf time point.moment = subst (λ (m : ℤ). IsTimeOf time m) (to_z-of_z fits) c.in-Some-civil_time.ensures.some in
    let begun = stream_begun c.args.least left in
    let gone = fresh_gone past c.args.least left _ c.args.sent.now fresh in
    let goes = first_setup past.facts c.args.made.setup.now c.args.made.clock.now c.args.least left time point.moment point.tick same rules_are first tells in
    begun_course past (g.W.Write.contents c.put_time.new.out) c.put_time.new.sent c.args.made.clock.now c.args.least left time point.moment point.tick
    c.advance.new.self rules_are first tells
    (record {
      walks = c.advance.ensures.walks c.args.least c.args.made.clock.now point is c.new-times.ensures.walks;
      follows = c.advance.ensures.follows c.args.least c.args.made.clock.now point is c.new-times.ensures.walks;
    })
    (c.in_ok-put_time.ensures.sent past (behind_setup begun point.tick) same
    (c.in_ok-put_setup.ensures.sent past begun (behind_setup begun point.tick) same gone goes)
    (first_by past.facts c.args.least c.args.made.clock.now point.moment point.tick rules_are first) (no_setup_yet point.tick))
