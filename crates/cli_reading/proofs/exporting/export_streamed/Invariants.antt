use Rattle.std.proofs.Common.{List, ℕ, [], Option}
use Rattle.std.specs.Io.KnownBytes.{Appends}
use Rattle.rec_reader.specs.Readers.{HasRead}
use Rattle.rec_export.proofs.Whole.{HasExported}
use Rattle.cli_reading.proofs.exporting.export_streamed.Given as goal

-- the packets so far are exported once the blocks that are held have gone out
abbrev pub invariant-packets : goal.invariant-packets
invariant-packets g l =
    (recording : List ℕ) → HasRead recording [] l.fn.reader → (later : Option (List ℕ)) → Appends (g.O.Write.contents l.output) later l.blocks.items
    → HasExported l.fn.origin recording l.reader l.exporter (g.O.Write.contents l.fn.output) later
