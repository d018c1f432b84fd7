use Rattle.std.proofs.lemmas.Result.{on_ok_weaker}
use Rattle.cli_reading.proofs.CountedLines.{of_known}
use Rattle.cli_reading.proofs.upgrading.upgrade_recording.Goals as goal

pub returns : goal.returns
returns g c =
    let upgraded = c.in_ok-upgraded.upgraded in
    record {
      line = on_ok_weaker c.print_upgraded.result (λ wrote. (upgraded.packets, upgraded.copied, wrote)) c.print_upgraded.ensures;
      streamed = λ file. on_ok_weaker c.print_upgraded.result
          (λ wrote. of_known (g.I.Read.remaining c.args.input.now) _ _
          (λ recording counts. record { upgraded = upgraded; counts = counts; took = wrote }) (c.in_ok-upgraded.ensures.counted file))
          c.print_upgraded.ensures;
    }
