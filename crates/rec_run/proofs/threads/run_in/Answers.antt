use Rattle.std.proofs.Common.{◌∙◌}
use Rattle.rec_run.proofs.Running.{lines_ready, same_jobs, writes_none, outcome}
use Rattle.rec_run.proofs.threads.run_in.Goals as goal

pub write_lines-wrote-requires : goal.write_lines-wrote-requires
write_lines-wrote-requires g c = lines_ready c.start_all.new.lines.items _ c.args.tape.writer c.in-Ok.ensures.jobs c.requires.0.distinct c.requires.0.known

pub returns-clause-joined : goal.returns-clause-joined
returns-clause-joined g c = λ first written.
    let r = c.requires.0 in
    let w = c.write_lines-wrote.ensures in (
      w.version,
      outcome g.S.FrameSource.left g.S.FrameSource.failures g.S.FrameSource.ending first c.write_lines-wrote.new.lines.items _ c.join_all-joined.result.items
          (same_jobs c.start_all.new.lines.items c.write_lines-wrote.new.lines.items w.lines.1 ∙ c.in-Ok.ensures.jobs)
          c.join_all-joined.ensures c.write_lines-wrote.result _ _
          (w.wrote first (writes_none first c.args.tape.writer c.args.tape.bytes c.start_all.new.lines.items r.works written r.no_bytes
          c.in-Ok.ensures.unread)),
    )
