use Rattle.std.proofs.Common.{refl, ◌∙◌}
use Rattle.std.proofs.lemmas.Result.{err_from_is_err_and}
use Rattle.ch11_file.specs.FileBlocks.BlockContent.{SetupBlock}
use Rattle.ch11_file.specs.WholeFile.{setup_text}
use Rattle.ch11_file.proofs.GoingOut.{front_sent}
use Rattle.ch11_file.proofs.setup_block.put_setup.Goals as goal

pub returns-in_err-body : goal.returns-in_err-body
returns-in_err-body g c = λ facts before merge next same sent goes.
    let p = err_from_is_err_and c.from_residual.result c.from_residual.ensures.1 in
    rw p.1 (front_sent facts before _ c.args.sent.now merge sent)

pub returns : goal.returns
returns g c = λ facts before merge next same sent goes.
    c.put.ensures.sent facts before merge next (SetupBlock (setup_text c.args.setup.now c.args.time)) sent
    (record { kind_is = refl; channel_is = refl; body_is = c.deref.ensures.value ∙ c.in_ok-body.ensures.body }) goes
