use Rattle.std.proofs.lemmas.Result.{on_ok_weaker}
use Rattle.cli_reading.proofs.CountedLines.{of_known}
use Rattle.cli_reading.proofs.extraction.extract_frames.Goals as goal

pub returns : goal.returns
returns g c =
    let extracted = c.in_ok-extracted.extracted in
    record {
      line = on_ok_weaker c.print_extracted.result (λ wrote. (extracted.frames, extracted.passed, wrote)) c.print_extracted.ensures;
      streamed = λ file. on_ok_weaker c.print_extracted.result
          (λ wrote. of_known (g.I.Read.remaining c.args.input.now) _ _ (λ recording counts. record {
            channel = c.in_ok-channel.channel;
            named = c.in_ok-channel.ensures.named;
            extracted = extracted;
            counts = counts;
            took = wrote;
          }) (c.in_ok-extracted.ensures.counted file)) c.print_extracted.ensures;
    }
