use Rattle.std.proofs.Common.{refl, ◌∙◌}
use Rattle.std.proofs.lemmas.Result.{err_from_is_err_and}
use Rattle.ch11_file.specs.FileBlocks.BlockContent.{SetupBlock}
use Rattle.ch11_file.specs.WholeFile.{setup_text}
use Rattle.rec_stream.proofs.GoingOn.{front_of}
use Rattle.rec_stream.proofs.time.put_setup.Goals as goal

pub returns-in_err-body-clause-sent : goal.returns-in_err-body-clause-sent
returns-in_err-body-clause-sent g c = λ past old next same gone goes.
    let p = err_from_is_err_and c.from_residual.result c.from_residual.ensures.1 in
    rw p.1 (front_of past _ c.args.sent.now old gone)

pub returns-clause-sent : goal.returns-clause-sent
returns-clause-sent g c = λ past old next same gone goes.
    c.put.ensures.sent past old next (SetupBlock (setup_text c.args.setup.now c.args.time)) gone
    (record { kind_is = refl; channel_is = refl; body_is = c.deref.ensures.value ∙ c.in_ok-body.ensures.body }) goes
