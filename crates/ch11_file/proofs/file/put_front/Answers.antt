use Rattle.ch11_file.specs.WholeFile.{merge_state}
use Rattle.ch11_file.specs.WholeFile.FileStage.{BeforeSetup, BeforeTime}
use Rattle.std.proofs.Common.{sym, ap, subst}
use Rattle.ch11_file.specs.FileTimes.{tick_of}
use Rattle.ch11_file.specs.Sending.{HasSent}
use Rattle.ch11_file.proofs.FileFronts.{setup_goes}
use Rattle.ch11_file.proofs.file.put_front.Goals as goal

pub returns-in-Ok-clause-put : goal.returns-in-Ok-clause-put
returns-in-Ok-clause-put g c = λ facts before left same walks sent.
    c.put_time.ensures.put facts before BeforeTime left same walks
    (subst (λ n. HasSent facts before (g.W.Write.contents c.put_setup.new.out) c.put_setup.new.sent (merge_state BeforeTime n left))
    (ap tick_of (sym c.requires.first))
    (c.in-Ok.ensures facts before (merge_state BeforeSetup c.args.first.tick left) (merge_state BeforeTime c.args.first.tick left) same sent
    (setup_goes facts c.args.setup.now c.args.first c.args.time c.args.times.now.next c.args.times.now.points left same c.requires.first walks
    c.requires.time)))
    tt

pub returns-in-Err-clause-put : goal.returns-in-Err-clause-put
returns-in-Err-clause-put g c = λ facts before left same walks sent.
    c.in-Err.ensures facts before (merge_state BeforeSetup c.args.first.tick left) (merge_state BeforeTime c.args.first.tick left) same sent
    (setup_goes facts c.args.setup.now c.args.first c.args.time c.args.times.now.next c.args.times.now.points left same c.requires.first walks
    c.requires.time)
