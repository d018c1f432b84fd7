use Rattle.std.proofs.Common.{take, ◌≡◌, []}
use Rattle.std.specs.List.{flat_map}
use Rattle.std.specs.Io.KnownBytes.{Appends}
use Rattle.cli_reading.specs.Printed.{audit_line}
use Rattle.cli_reading.proofs.auditing.print_audit.Given as goal

-- the output took the lines of the channels so far, and the next one is empty
abbrev pub invariant-channels : goal.invariant-channels
invariant-channels g l =
    Appends (g.O.Write.contents l.initial.output) (g.O.Write.contents l.output) (flat_map audit_line (take l.line-index l.line-items))
    × (l.text.items ≡ [])
