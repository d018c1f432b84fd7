use Rattle.std.proofs.Common.{take, ◌≡◌, []}
use Rattle.std.specs.List.{flat_map}
use Rattle.std.specs.Io.KnownBytes.{Appends}
use Rattle.cli_record.specs.Lines.{report_line}
use Rattle.cli_record.proofs.report.print_report.Given as goal

-- the output took the lines of the channels so far, and the next one is empty
abbrev pub invariant-channels : goal.invariant-channels
invariant-channels g l =
    Appends (g.O.Write.contents l.initial.output) (g.O.Write.contents l.output) (flat_map report_line (take l.channel-index l.channel-items))
    × (l.line.items ≡ [])
