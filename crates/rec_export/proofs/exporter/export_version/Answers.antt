use Rattle.rec_export.proofs.Parts.{all_fails}
use Rattle.rec_export.proofs.exporter.export_version.Goals as goal

pub returns-in_err-put-clause-part : goal.returns-in_err-put-clause-part
returns-in_err-put-clause-part g c = all_fails _ _ _ _ c.in_ok-describe.ensures.whole
