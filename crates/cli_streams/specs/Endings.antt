-- How a command ends at a fault of a recording, or of its output.
use Rattle.std.specs.Prelude.{ℕ, ◌≡◌, codes, List}
use Rattle.std.specs.Borrow.{Bor}
use Rattle.rec_reader.specs.declared.fault.ReadEnd.{ReadEnd}
use Rattle.rec_reader.specs.declared.fault.ReadFaultKind.{ReadFaultKind}
use Rattle.rec_reader.specs.declared.fault.ReadFaultKind.TheVariants.{Memory as NoMemory, Device}
use Rattle.cli_streams.specs.declared.ending.CommandEnding.{CommandEnding}
use Rattle.cli_streams.specs.declared.ending.CommandEnding.TheVariants.{File, Reading, Memory}

-- by the kind of its end: want of memory is that, a failed input is the file's fault, and all else
-- the recording's
abbrev pub ending_by_kind : (path : Bor (List ℕ)) → ReadEnd → ReadFaultKind → CommandEnding
ending_by_kind path end NoMemory = Memory
ending_by_kind path end Device = File path
ending_by_kind path end kind = Reading end

-- the ending for the end of a recording with this path
abbrev pub reading_ending : (path : Bor (List ℕ)) → ReadEnd → CommandEnding
reading_ending path end = ending_by_kind path end end.kind

-- what holds of the end of a recording, where a command ends for that
abbrev pub IfReading : CommandEnding → (ReadEnd → Type 0) → Type 0
IfReading (Reading end) P = P end
IfReading ending P = Unit {0}

-- a command ends so where standard output fails: as for a fault of the file `-`, or for want of
-- memory
abbrev pub IsPrintingFault : CommandEnding → Type 0
IsPrintingFault (File path) = path.now ≡ codes "-"
IsPrintingFault Memory = Unit {0}
IsPrintingFault ending = ⊥
