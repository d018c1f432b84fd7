use Rattle.std.proofs.Common.{◌≡◌, ◌≢◌, ℕ, ◌∷◌, All, arith, refl, ap, sym, subst, ◌∙◌}
use Rattle.rec_writer.specs.Numbers.{AreDistinctChannels}
use Rattle.rec_run.specs.Jobs.{channels_of_jobs}
use Rattle.rec_run.proofs.Judging.{written_of, passed_fit, whole_recording, cut_recording, whole_control}
use Rattle.rec_run.proofs.Tying.{recorded_run}
use Rattle.rec_run.proofs.recording.record.Goals as goal

pub new-requires-clause-named : goal.new-requires-clause-named
new-requires-clause-named g c = subst (λ cs. All (λ (channel : ℕ). channel ≢ 0) cs) (sym c.as_slice-3.ensures.value) c.channels_of-channels.ensures.named

pub new-requires-clause-distinct : goal.new-requires-clause-distinct
new-requires-clause-distinct g c =
    let same : c.as_slice-3.result.now ≡ channels_of_jobs c.args.jobs.items =
    c.as_slice-3.ensures.value ∙ c.channels_of-channels.ensures.channels ∙ ap (λ js. channels_of_jobs js) c.as_slice.ensures.value in
    subst (λ cs. AreDistinctChannels cs) (sym same) c.requires.jobs.distinct

pub run_threads-requires-after_bounds : goal.run_threads-requires-after_bounds
run_threads-requires-after_bounds g c lifetimes within =
    let prepared = c.in_ok-prepared.ensures.jobs in
    let same : c.as_slice-3.result.now ≡ channels_of_jobs c.args.jobs.items =
    c.as_slice-3.ensures.value ∙ c.channels_of-channels.ensures.channels ∙ ap (λ js. channels_of_jobs js) c.as_slice.ensures.value in (
      record {
        slots_are = omega (arith, c.in_ok-slots.ensures, c.as_slice-2.ensures.len, c.in_ok-prepared.ensures.len, c.as_slice-4.ensures.len);
        no_lines = c.in_ok-lines.ensures.items;
        lines_fit = omega (arith, c.in_ok-lines.ensures.capacity, c.len-count.ensures);
        none_joined = c.in_ok-joined.ensures.len;
        joined_fit = omega (arith, c.in_ok-joined.ensures.capacity, c.len-count.ensures);
        distinct = subst (λ js. AreDistinctChannels (channels_of_jobs js)) (sym prepared) c.requires.jobs.distinct;
        known = c.new.ensures.channels ∙ ap (λ cs. 0 ∷ cs) (same ∙ ap (λ js. channels_of_jobs js) (sym prepared));
        works = c.new.ensures.works;
        no_bytes = refl;
      },
      record { asked = c.requires.control; empty = c.new-log.ensures.items },
    )

pub returns-clause-recorded : goal.returns-clause-recorded
returns-clause-recorded g c =
    let left = g.S.FrameSource.left in
    let failures = g.S.FrameSource.failures in
    let ended_as = g.S.FrameSource.ending in
    let o = c.in_ok-outcome.outcome in
    let first = g.W.Write.contents c.args.out in
    let fit = passed_fit c.in_ok-prepared.prepared.items c.args.jobs.items c.args.version c.in_ok-prepared.ensures.jobs (omega arith) in
    let w = written_of left failures ended_as first (record { writer = c.new.result; bytes = 0 }) c.args.version _ c.args.jobs.items o c.new.ensures.stands
    c.new.ensures.version c.in_ok-prepared.ensures.jobs (c.in_ok-outcome.ensures.joined first) in
    whole_recording left failures ended_as g.W.Write.contents o c.args.jobs.items first c.args.version fit w.1 w.0 c.conclude.result c.conclude.ensures.recorded

pub returns-clause-controlled : goal.returns-clause-controlled
returns-clause-controlled g c =
    let left = g.S.FrameSource.left in
    let failures = g.S.FrameSource.failures in
    let ended_as = g.S.FrameSource.ending in
    let o = c.in_ok-outcome.outcome in
    let first = g.W.Write.contents c.args.out in
    let fit = passed_fit c.in_ok-prepared.prepared.items c.args.jobs.items c.args.version c.in_ok-prepared.ensures.jobs (omega arith) in
    let w = written_of left failures ended_as first (record { writer = c.new.result; bytes = 0 }) c.args.version _ c.args.jobs.items o c.new.ensures.stands
    c.new.ensures.version c.in_ok-prepared.ensures.jobs (c.in_ok-outcome.ensures.joined first) in
    let same : c.as_slice-6.result.now ≡ channels_of_jobs c.args.jobs.items =
    c.as_slice-6.ensures.value ∙ c.channels_of-channels.ensures.channels ∙ ap (λ js. channels_of_jobs js) c.as_slice.ensures.value in
    whole_control left failures ended_as g.W.Write.contents o c.args.jobs.items first c.args.version fit w.1 w.0 g.C.Control.given g.C.Control.answered
    g.C.Control.ended _ c.args.control same c.in_ok-outcome.ensures.control c.conclude.result c.conclude.ensures.controlled

pub returns-clause-run : goal.returns-clause-run
returns-clause-run g c =
    recorded_run g.S.FrameSource.left g.S.FrameSource.failures g.S.FrameSource.ending g.W.Write.contents g.C.Control.given g.C.Control.answered
    g.C.Control.ended c.a_recording_is_a_run.ensures
    c.args.jobs.items c.requires.jobs c.args.version c.args.ring c.requires.ring.0 (g.W.Write.contents c.args.out) c.args.control c.conclude.result
    (returns-clause-recorded g c) (returns-clause-controlled g c)

pub returns-clause-cut : goal.returns-clause-cut
returns-clause-cut g c =
    let left = g.S.FrameSource.left in
    let failures = g.S.FrameSource.failures in
    let ended_as = g.S.FrameSource.ending in
    let o = c.in_ok-outcome.outcome in
    let first = g.W.Write.contents c.args.out in
    let fit = passed_fit c.in_ok-prepared.prepared.items c.args.jobs.items c.args.version c.in_ok-prepared.ensures.jobs (omega arith) in
    let w = written_of left failures ended_as first (record { writer = c.new.result; bytes = 0 }) c.args.version _ c.args.jobs.items o c.new.ensures.stands
    c.new.ensures.version c.in_ok-prepared.ensures.jobs (c.in_ok-outcome.ensures.joined first) in
    cut_recording left failures ended_as g.W.Write.contents o c.args.jobs.items first c.args.version fit w.1 w.0 c.conclude.result c.conclude.ensures.cut
