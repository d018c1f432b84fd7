-- What the command `export` leaves in its output.
use Rattle.std.specs.Prelude.{ℕ, ◌^◌, ◌<◌, List, length, Option, None, Some, Result, OnOk, IfErr}
use Rattle.std.specs.Prelude.{IfSome}
use Rattle.std.specs.Borrow.{Bor}
use Rattle.cli_streams.specs.declared.ending.CommandEnding.{CommandEnding}
use Rattle.cli_streams.specs.declared.ending.CommandEnding.TheVariants.{File, Reading, Words}
use Rattle.cli_streams.specs.declared.ending.CommandEnding.TheVariants.{Memory}
use Rattle.cli_streams.specs.Digits.{SaysNumber}
use Rattle.cli_streams.specs.Endings.{IfReading, reading_ending}
use Rattle.rec_export.specs.declared.fault.ExportEnd.{ExportEnd}
use Rattle.rec_export.specs.declared.fault.ExportEnd.TheVariants.{Reading as ReadingEnd}
use Rattle.rec_export.specs.declared.fault.ExportEnd.TheVariants.{Output as OutputEnd}
use Rattle.rec_export.specs.declared.fault.ExportEnd.TheVariants.{Memory as MemoryEnd}
use Rattle.rec_export.specs.Exported.{IsExported, StartsExport, StopsExport}

-- how the command ends where an export of FILE into OUT ended so
abbrev pub export_ending : (file out : Bor (List ℕ)) → ExportEnd → CommandEnding
export_ending file out (ReadingEnd end) = reading_ending file end
export_ending file out OutputEnd = File out
export_ending file out MemoryEnd = Memory

-- what an output took of a recording whose export ended so: where the recording isn't read to its
-- end the export of the packets before, and else the first bytes of its export
abbrev pub LeavesExport : (origin : Option ℕ) (recording : List ℕ) (old new : Option (List ℕ))
    → CommandEnding → Type 0
LeavesExport origin recording old new (Reading end) = StopsExport origin recording end old new
LeavesExport origin recording old new ending = StartsExport origin recording old new

-- ORIGIN says this origin: seconds in decimal digits alone, below 2^63; without ORIGIN there is
-- none
abbrev pub NamesOrigin : Option (Bor (List ℕ)) → Option ℕ → Type 0
NamesOrigin None None = Unit {0}
NamesOrigin None (Some seconds) = ⊥
NamesOrigin (Some word) None = ⊥
NamesOrigin (Some word) (Some seconds) = SaysNumber word.now seconds × (seconds < 2 ^ 63)

-- ORIGIN is refused with this ending: it says no origin, or there was no memory for the text
abbrev pub RefusesOrigin : Option (Bor (List ℕ)) → CommandEnding → Type 0
RefusesOrigin word (Words text) = (origin : Option ℕ) → ¬ NamesOrigin word origin
RefusesOrigin word Memory = Unit {0}
RefusesOrigin word ending = ⊥

-- what an output took of the recording that an input has left, where that is known: its export,
-- which begins at the origin that ORIGIN says, or that of the packets before its fault
pub record StreamsExport {T : Type 0} (word : Option (Bor (List ℕ))) (left : Option (List ℕ))
    (old new : Option (List ℕ)) (result : Result T CommandEnding) : Type 0 where
  pub whole : OnOk result (IfSome left (λ recording. length recording < 2 ^ 64
      → (origin : Option ℕ) × NamesOrigin word origin × IsExported origin recording old new))
  pub part : IfErr result (λ ending. IfReading ending (λ end.
      IfSome left (λ recording. length recording < 2 ^ 64
      → (origin : Option ℕ) × NamesOrigin word origin × StopsExport origin recording end old new)))
