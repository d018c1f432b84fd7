-- What the command `export` leaves in its output.
use Rattle.std.proofs.Common.{◌≡◌, ℕ, ◌^◌, ◌<◌, List, [], ◌++◌, length, Option, None, Some, sym, ap, subst, ◌∙◌, true≢false}
use Rattle.std.specs.Prelude.{Result, Ok, Err, IfErr, IsErr, IsErrAnd, IfSome, OnOk}
use Rattle.std.specs.Result.{is_ok}
use Rattle.std.specs.Borrow.{Bor}
use Rattle.std.specs.Io.KnownBytes.{Keeps}
use Rattle.rec_reader.specs.declared.fault.ReadEnd.{ReadEnd}
use Rattle.rec_reader.specs.declared.fault.ReadFaultKind.{ReadFaultKind}
use Rattle.rec_reader.specs.declared.fault.ReadFaultKind.TheVariants.{Truncated, Sync, Checksum, Length, DataChecksum, Body, Device, Memory as NoMemory}
use Rattle.rec_reader.specs.Readers.{ReaderState, HasRead}
use Rattle.rec_export.specs.declared.fault.ExportEnd.{ExportEnd}
use Rattle.rec_export.specs.declared.fault.ExportEnd.TheVariants.{Reading as ReadingEnd, Output as OutputEnd, Memory as MemoryEnd}
use Rattle.rec_export.specs.Exported.{IsExported, StopsExport, StartsExport, FailsExport}
use Rattle.rec_export.specs.Export.{ExportState}
use Rattle.rec_export.proofs.Whole.{HasExported}
use Rattle.rec_export.proofs.Leaving.{exported_starts, stopped_starts, starts_kept, stopped_kept}
use Rattle.cli_streams.specs.declared.ending.CommandEnding.{CommandEnding}
use Rattle.cli_streams.specs.Endings.{ending_by_kind, IfReading}
use Rattle.cli_streams.specs.declared.ending.CommandEnding.TheVariants.{Reading}
use Rattle.cli_reading.specs.Written.{StopsBehind}
use Rattle.cli_reading.specs.Exports.{export_ending, LeavesExport, RefusesOrigin, NamesOrigin, StreamsExport}

-- ---- endings

-- the end of a recording, by its kind
leaves_by_kind : (origin : Option ℕ) (recording : List ℕ) (old new : Option (List ℕ)) (path : Bor (List ℕ)) (end : ReadEnd) (kind : ReadFaultKind)
    → StopsExport origin recording end old new → LeavesExport origin recording old new (ending_by_kind path end kind)
leaves_by_kind origin recording old new path end Truncated stopped = stopped
leaves_by_kind origin recording old new path end Sync stopped = stopped
leaves_by_kind origin recording old new path end Checksum stopped = stopped
leaves_by_kind origin recording old new path end Length stopped = stopped
leaves_by_kind origin recording old new path end DataChecksum stopped = stopped
leaves_by_kind origin recording old new path end Body stopped = stopped
leaves_by_kind origin recording old new path end Device stopped = stopped_starts origin recording end old new stopped
leaves_by_kind origin recording old new path end NoMemory stopped = stopped_starts origin recording end old new stopped

-- that of an export
pub leaves : (origin : Option ℕ) (recording : List ℕ) (old held new : Option (List ℕ)) (file out : Bor (List ℕ)) (end : ExportEnd) (ending : CommandEnding)
    → FailsExport origin recording old held end → Keeps held new → ending ≡ export_ending file out end → LeavesExport origin recording old new ending
leaves origin recording old held new file out end ending failed keeps is = subst (LeavesExport origin recording old new) (sym is) (by_end end failed)
  where
    by_end : (end : ExportEnd) → FailsExport origin recording old held end → LeavesExport origin recording old new (export_ending file out end)
    by_end (ReadingEnd end) stopped = leaves_by_kind origin recording old new file end end.kind (stopped_kept origin recording end old held new stopped keeps)
    by_end OutputEnd starts = starts_kept origin recording old held new starts keeps
    by_end MemoryEnd starts = starts_kept origin recording old held new starts keeps

-- ---- answers

-- an ending that is passed on
pub passed_on : {T E : Type 0} (result : Result T E) (end : E) (P : E → Type 0) → IsErrAnd result (λ e. e ≡ end) → P end → IfErr result P
passed_on (Ok value) end P same holds = tt
passed_on (Err other) end P same holds = subst P (sym same) holds

-- what holds where a call went well, by its answer that was passed on
pub ok_part : {T D E : Type 0} (answer : Result T D) (passed : Result T E) (value : T) (P : Type 0) → passed ≡ Ok value → is_ok passed ≡ is_ok answer
    → OnOk answer P → P
ok_part (Ok x) passed value P is same holds = holds
ok_part (Err y) passed value P is same holds = absurd (true≢false (sym (ap is_ok is) ∙ same))

-- what stands behind nothing
pub alone : (items new bytes : List ℕ) → items ≡ [] → new ≡ items ++ bytes → new ≡ bytes
alone items new bytes none whole = whole ∙ ap (λ l. l ++ bytes) none

-- the end of a recording, behind the packets that were exported
pub reading_stops : (origin : Option ℕ) (first reader : ReaderState) (state : ExportState) (old new : Option (List ℕ)) (ending : CommandEnding)
    → IfReading ending (λ end. StopsBehind end reader)
    → ((recording : List ℕ) → HasRead recording [] first → HasExported origin recording reader state old new)
    → IfReading ending (λ end. (recording : List ℕ) → HasRead recording [] first → StopsExport origin recording end old new)
reading_stops origin first reader state old new (Reading end) stops had = λ recording begins.
    (let has = had recording begins in record { packets = has.packets; tells = stops recording has.packets has.given; taken = has.taken })
reading_stops origin first reader state old new ending stops had = tt

-- ---- a recording that an input has left

-- by the reader of it
pub of_reader : (left : Option (List ℕ)) (reader : ReaderState) (P : List ℕ → Type 0)
    → IfSome left (λ recording. length recording < 2 ^ 64 → HasRead recording [] reader)
    → ((recording : List ℕ) → HasRead recording [] reader → P recording) → IfSome left (λ recording. length recording < 2 ^ 64 → P recording)
of_reader None reader P begins holds = tt
of_reader (Some recording) reader P begins holds = λ few. holds recording (begins few)

-- of any
pub of_any : (left : Option (List ℕ)) (P : List ℕ → Type 0) → ((recording : List ℕ) → P recording)
    → IfSome left (λ recording. length recording < 2 ^ 64 → P recording)
of_any None P holds = tt
of_any (Some recording) P holds = λ few. holds recording

-- whatever the answer of an export, its output took the first bytes of it
pub ever_starts : (origin : Option ℕ) (recording : List ℕ) (old new : Option (List ℕ)) (reader : ReaderState) (result : Result (Unit {0}) ExportEnd)
    → OnOk result ((recording : List ℕ) → HasRead recording [] reader → IsExported origin recording old new)
    → IfErr result (λ end. (recording : List ℕ) → HasRead recording [] reader → FailsExport origin recording old new end)
    → HasRead recording [] reader → StartsExport origin recording old new
ever_starts origin recording old new reader (Ok value) whole part begins = exported_starts origin recording old new (whole recording begins)
ever_starts origin recording old new reader (Err (ReadingEnd end)) whole part begins = stopped_starts origin recording end old new (part recording begins)
ever_starts origin recording old new reader (Err OutputEnd) whole part begins = part recording begins
ever_starts origin recording old new reader (Err MemoryEnd) whole part begins = part recording begins

-- ---- a command that ended before it exported

-- an ORIGIN that is refused is no recording's end
pub refused_reads_nothing : (word : Option (Bor (List ℕ))) (ending : CommandEnding) (P : ReadEnd → Type 0) → RefusesOrigin word ending → IfReading ending P
refused_reads_nothing word (Reading end) P refuses = absurd refuses
refused_reads_nothing word ending P refuses = tt

-- it took nothing
pub streams_nothing : (word : Option (Bor (List ℕ))) (left old new : Option (List ℕ)) (result : Result (Unit {0}) CommandEnding) (ending : CommandEnding)
    → IsErr result → IsErrAnd result (λ e. e ≡ ending) → ((P : ReadEnd → Type 0) → IfReading ending P) → StreamsExport word left old new result
streams_nothing word left old new (Ok value) ending is same nothing = absurd same
streams_nothing word left old new (Err other) ending is same nothing =
    let P = λ (end : ReadEnd). IfSome left (λ recording. length recording < 2 ^ 64
    → (origin : Option ℕ) × NamesOrigin word origin × StopsExport origin recording end old new) in
    record { whole = tt; part = subst (λ e. IfReading e P) (sym same) (nothing P) }
