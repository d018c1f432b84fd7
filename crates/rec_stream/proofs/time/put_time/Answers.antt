use Rattle.std.proofs.Common.{ℤ, refl, sym, ap, subst, rules, to_z-of_z, w64, FitsSigned}
use Rattle.ch11_clock.specs.CivilTime.{IsTimeOf}
use Rattle.ch11_file.specs.FileBlocks.BlockContent.{TimeBlock}
use Rattle.ch11_file.specs.declared.setup.FileSetup.{FileSetup}
use Rattle.rec_stream.specs.StreamBlocks.{behind_time}
use Rattle.rec_stream.specs.StreamEnds.{GoingFails}
use Rattle.rec_stream.proofs.GoingOn.{fault_fails}
use Rattle.rec_stream.proofs.time.put_time.Goals as goal

pub returns-in-Ok-clause-sent : goal.returns-in-Ok-clause-sent
returns-in-Ok-clause-sent g c = λ past old same gone next none.
    let point = c.args.point in
    let body = c.in-Some.ensures.some in
    let fits : FitsSigned w64 point.moment = search rules in
    let tells : IsTimeOf body.0 point.moment = subst (λ (m : ℤ). IsTimeOf body.0 m) (to_z-of_z fits) body.1 in
    c.in-Ok.ensures.sent past old (behind_time old point.tick) (TimeBlock c.args.setup.now.is_external body.0) gone
    (record { kind_is = refl; channel_is = ap (λ (s : FileSetup). s.time_channel) (sym same); body_is = body.2 })
    (record {
      moment = point.moment;
      is_next = next;
      no_setup = none;
      source_is = ap (λ (s : FileSetup). s.is_external) (sym same);
      tells = tells;
      new_is = refl;
    })

pub returns-in-Err-clause-sent : goal.returns-in-Err-clause-sent
returns-in-Err-clause-sent g c = λ past old same gone next none.
    let point = c.args.point in
    let body = c.in-Some.ensures.some in
    let fits : FitsSigned w64 point.moment = search rules in
    let tells : IsTimeOf body.0 point.moment = subst (λ (m : ℤ). IsTimeOf body.0 m) (to_z-of_z fits) body.1 in
    subst (GoingFails past (g.W.Write.contents c.put.new.out)) (sym c.from.ensures)
    (fault_fails past (g.W.Write.contents c.put.new.out) c.in-Err.fault
    (c.in-Err.ensures.sent past old (behind_time old point.tick) (TimeBlock c.args.setup.now.is_external body.0) gone
    (record { kind_is = refl; channel_is = ap (λ (s : FileSetup). s.time_channel) (sym same); body_is = body.2 })
    (record {
      moment = point.moment;
      is_next = next;
      no_setup = none;
      source_is = ap (λ (s : FileSetup). s.is_external) (sym same);
      tells = tells;
      new_is = refl;
    })))
