use Rattle.std.proofs.Common.{◌≡◌, ℕ, List, Option}
use Rattle.rec_writer.specs.Numbers.{numbered_channels}
use Rattle.rec_run.specs.Writer.{channels, handles, IsReady, Writes}
use Rattle.rec_run.proofs.Writes.{IsGood}
use Rattle.rec_run.proofs.writer.write_round.Given as goal

abbrev pub invariant-lines : goal.invariant-lines
invariant-lines g l =
    (channels l.lines ≡ channels l.initial.lines) × (handles l.lines ≡ handles l.initial.lines)
    × (numbered_channels l.tape.writer.numbers ≡ numbered_channels l.initial.tape.writer.numbers)
    × (l.tape.writer.version ≡ l.initial.tape.writer.version)
    × IsReady l.lines l.tape.writer
    × IsGood l.wrote
    × ((first : Option (List ℕ)) → Writes first l.initial.tape.writer l.initial.tape.bytes l.initial.lines → Writes first l.tape.writer l.tape.bytes l.lines)
