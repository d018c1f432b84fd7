use Rattle.std.proofs.Common.{◌≡◌, ℕ, List, Option, vec_len}
use Rattle.rec_run.specs.Writer.{channels, handles, IsReady, Writes}
use Rattle.rec_run.proofs.writer.write_lines.Given as goal

abbrev pub invariant-rounds : goal.invariant-rounds
invariant-rounds g l =
    (channels l.lines.items ≡ channels l.initial.lines.items) × (handles l.lines.items ≡ handles l.initial.lines.items)
    × (l.tape.writer.version ≡ l.initial.tape.writer.version)
    × (vec_len l.lines ≡ vec_len l.initial.lines)
    × IsReady l.lines.items l.tape.writer
    × ((first : Option (List ℕ)) → Writes first l.initial.tape.writer l.initial.tape.bytes l.initial.lines.items
    → Writes first l.tape.writer l.tape.bytes l.lines.items)
