use Rattle.cli_reading.proofs.CountedLines.{of_known, counts_extracted}
use Rattle.cli_reading.proofs.extraction.extract.Goals as goal

pub returns : goal.returns
returns g c = record {
  counted = λ file. of_known (g.I.Read.remaining c.args.input.now) _ _
      (λ recording counted. counts_extracted c.args.channel recording c.write_recording.new.written counted) (c.in_ok-write_recording.ensures.counted file);
}
