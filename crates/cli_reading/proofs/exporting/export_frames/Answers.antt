use Rattle.std.proofs.Common.{refl}
use Rattle.cli_reading.proofs.ExportEndings.{streams_nothing, refused_reads_nothing}
use Rattle.cli_reading.proofs.exporting.export_frames.Goals as goal

pub returns-in_err-origin : goal.returns-in_err-origin
returns-in_err-origin g c = record {
  streamed = λ file out. streams_nothing c.args.origin _ _ _ c.from_residual.result c.in_err-origin.field-0.0 c.from_residual.ensures.0
      c.from_residual.ensures.1 (λ P. refused_reads_nothing c.args.origin c.in_err-origin.field-0.0 P c.in_err-origin.ensures.refused);
  unwritten = λ other. refl;
}
