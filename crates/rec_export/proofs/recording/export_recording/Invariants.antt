use Rattle.std.proofs.Common.{List, ℕ, []}
use Rattle.rec_reader.specs.Readers.{HasRead}
use Rattle.rec_export.proofs.Whole.{HasExported}
use Rattle.rec_export.proofs.recording.export_recording.Given as goal

-- the export of the packets so far was written
abbrev pub invariant-packets : goal.invariant-packets
invariant-packets g l =
    (recording : List ℕ) → HasRead recording [] l.fn.reader
    → HasExported l.fn.origin recording l.reader l.exporter (g.W.Write.contents l.fn.out) (g.W.Write.contents l.out)
