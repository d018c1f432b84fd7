use Rattle.std.proofs.Common.{refl, sym, ap, subst, ◌∙◌, rules, ℤ, to_z-of_z, w64, FitsSigned}
use Rattle.ch11_clock.specs.CivilTime.{IsTimeOf}
use Rattle.ch11_file.specs.FileTimes.{tick_of}
use Rattle.ch11_file.specs.FileBlocks.BlockContent.{TimeBlock}
use Rattle.ch11_file.specs.WholeFile.{merge_state}
use Rattle.ch11_file.specs.WholeFile.FileStage.{Merging}
use Rattle.ch11_file.specs.declared.setup.FileSetup.{FileSetup}
use Rattle.ch11_file.proofs.NextBlocks.{no_gap_due, pieces_fail, time_goes}
use Rattle.ch11_file.proofs.time_block.put_time.Goals as goal

pub returns-in_default-clause-put : goal.returns-in_default-clause-put
returns-in_default-clause-put g c = λ facts before stage left same walks sent due.
    pieces_fail facts before _ c.args.sent.now _ sent (no_gap_due c.args.sent.now.index.greatest _ stage left due)

pub returns-in-Err-clause-put : goal.returns-in-Err-clause-put
returns-in-Err-clause-put g c = λ facts before stage left same walks sent due.
    let point = c.in-Some.point in
    let is = sym c.next.ensures ∙ c.in-Some.is in
    let body = c.in-Some-time_body.ensures.some in
    let fits : FitsSigned w64 point.moment = search rules in
    let tells : IsTimeOf body.0 point.moment = subst (λ (m : ℤ). IsTimeOf body.0 m) (to_z-of_z fits) body.1 in
    let behind = tick_of c.advance.new.self.next in
    c.in-Err.ensures.sent facts before (merge_state stage (tick_of c.args.times.now.next) left) (merge_state Merging behind left)
    (TimeBlock c.args.setup.now.is_external body.0) sent
    (record { kind_is = refl; channel_is = ap (λ (s : FileSetup). s.time_channel) (sym same); body_is = body.2 })
    (time_goes facts c.args.sent.now.index.greatest stage left c.args.times.now.next c.args.times.now.points point c.args.setup.now.is_external body.0 behind
    is walks due (ap (λ (s : FileSetup). s.is_external) (sym same)) tells (c.advance.ensures.follows facts.least facts.rules point is walks))

pub returns-in-Ok-clause-put : goal.returns-in-Ok-clause-put
returns-in-Ok-clause-put g c = λ facts before stage left same walks sent due.
    let point = c.in-Some.point in
    let is = sym c.next.ensures ∙ c.in-Some.is in
    let body = c.in-Some-time_body.ensures.some in
    let fits : FitsSigned w64 point.moment = search rules in
    let tells : IsTimeOf body.0 point.moment = subst (λ (m : ℤ). IsTimeOf body.0 m) (to_z-of_z fits) body.1 in
    let behind = tick_of c.advance.new.self.next in (
      c.in-Ok.ensures.sent facts before (merge_state stage (tick_of c.args.times.now.next) left) (merge_state Merging behind left)
          (TimeBlock c.args.setup.now.is_external body.0) sent
          (record { kind_is = refl; channel_is = ap (λ (s : FileSetup). s.time_channel) (sym same); body_is = body.2 })
          (time_goes facts c.args.sent.now.index.greatest stage left c.args.times.now.next c.args.times.now.points point c.args.setup.now.is_external body.0
          behind is walks due (ap (λ (s : FileSetup). s.is_external) (sym same)) tells (c.advance.ensures.follows facts.least facts.rules point is walks)),
      c.advance.ensures.walks facts.least facts.rules point is walks,
    )
