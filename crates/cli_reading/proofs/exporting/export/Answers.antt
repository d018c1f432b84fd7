use Rattle.std.proofs.Common.{ℕ, List, ◌^◌, ◌<◌, length, sym, subst}
use Rattle.std.specs.Prelude.{IfSome}
use Rattle.std.specs.Io.Buffered.{writer_contents}
use Rattle.rec_export.proofs.Leaving.{nothing_starts, exported_kept, starts_kept}
use Rattle.cli_streams.specs.declared.ending.CommandEnding.{CommandEnding}
use Rattle.cli_reading.specs.Exports.{LeavesExport}
use Rattle.cli_reading.proofs.ExportEndings.{leaves, passed_on, of_reader, of_any, ever_starts}
use Rattle.cli_reading.proofs.exporting.export.Goals as goal

pub returns-in_err-reader-clause-part : goal.returns-in_err-reader-clause-part
returns-in_err-reader-clause-part g c =
    let old = writer_contents g.W.Write.contents c.args.output.now in
    passed_on c.from_residual.result c.in_err-reader.field-0.0 _ c.from_residual.ensures.1
    (subst (λ (ending : CommandEnding). IfSome (g.I.Read.remaining c.args.input) (λ (recording : List ℕ). length recording < 2 ^ 64
    → LeavesExport c.args.origin recording old old ending))
    (sym c.in_err-reader.ensures.memory) (of_any (g.I.Read.remaining c.args.input) _ (λ recording. nothing_starts c.args.origin recording old)))

pub returns-then-is_err-clause-part : goal.returns-then-is_err-clause-part
returns-then-is_err-clause-part g c =
    of_reader (g.I.Read.remaining c.args.input) c.in_ok-reader.reader _ c.in_ok-reader.ensures.begins
    (λ recording begins. starts_kept c.args.origin recording _ _ _ (ever_starts c.args.origin recording _ _ c.in_ok-reader.reader
    c.export_recording-exported.result c.export_recording-exported.ensures.whole c.export_recording-exported.ensures.part begins) c.flush.ensures.bytes)

pub returns-in-Ok-clause-exported : goal.returns-in-Ok-clause-exported
returns-in-Ok-clause-exported g c =
    of_reader (g.I.Read.remaining c.args.input) c.in_ok-reader.reader _ c.in_ok-reader.ensures.begins
    (λ recording begins. exported_kept c.args.origin recording _ _ _ (c.in-Ok.ensures.whole recording begins) c.flush.ensures.bytes)

pub returns-clause-part : goal.returns-clause-part
returns-clause-part g c =
    of_reader (g.I.Read.remaining c.args.input) c.in_ok-reader.reader _ c.in_ok-reader.ensures.begins
    (λ recording begins. leaves c.args.origin recording _ _ _ c.args.file c.args.out c.in-Err.end c.ending_of.result
    (c.in-Err.ensures.part recording begins) c.flush.ensures.bytes c.ending_of.ensures)
