-- What an output took of an export that ended, as the first bytes of it, and behind a flush.
use Rattle.std.proofs.Common.{◌≡◌, ℕ, ◌⊎◌, inl, inr, List, [], Option, None, Some, refl}
use Rattle.std.specs.Io.KnownBytes.{Keeps}
use Rattle.std.proofs.KnownBytes.{Appends-kept}
use Rattle.pcapng_blocks.specs.Blocks.{blocks_bytes}
use Rattle.pcapng_blocks.specs.Outputs.{TakesStart}
use Rattle.rec_reader.specs.declared.fault.ReadEnd.{ReadEnd}
use Rattle.rec_reader.specs.declared.fault.ReadFaultKind.TheVariants.{Device, Memory as NoMemory}
use Rattle.rec_reader.specs.Packets.{BeginsPackets}
use Rattle.rec_reader.specs.Reading.{Reads}
use Rattle.rec_export.specs.Export.{export_blocks}
use Rattle.rec_export.specs.Exported.{IsExported, StopsExport, StartsExport}
use Rattle.rec_export.proofs.Parts.{nothing_taken, whole_start}

-- ---- what was taken, as the first bytes of the export

pub nothing_starts : (origin : Option ℕ) (recording : List ℕ) (old : Option (List ℕ)) → StartsExport origin recording old old
nothing_starts origin recording old =
    record { packets = []; rest = recording; first = refl; taken = nothing_taken old (blocks_bytes (export_blocks origin [])) }

pub exported_starts : (origin : Option ℕ) (recording : List ℕ) (old new : Option (List ℕ)) → IsExported origin recording old new
    → StartsExport origin recording old new
exported_starts origin recording old new exported =
    record {
      packets = exported.packets;
      rest = exported.reads.rest;
      first = exported.reads.held;
      taken = whole_start old new (export_blocks origin exported.packets) exported.taken;
    }

pub stopped_starts : (origin : Option ℕ) (recording : List ℕ) (end : ReadEnd) (old new : Option (List ℕ)) → StopsExport origin recording end old new
    → StartsExport origin recording old new
stopped_starts origin recording end old new stopped = either stopped.tells.1
  where
    taken : TakesStart old new (blocks_bytes (export_blocks origin stopped.packets))
    taken = whole_start old new (export_blocks origin stopped.packets) stopped.taken

    either : Reads recording stopped.packets (Some end.kind) ⊎ (((end.kind ≡ Device) ⊎ (end.kind ≡ NoMemory))
        × (rest : List ℕ) × BeginsPackets 0 stopped.packets recording rest) → StartsExport origin recording old new
    either (inl reads) = record { packets = stopped.packets; rest = reads.rest; first = reads.held; taken = taken }
    either (inr first) = record { packets = stopped.packets; rest = first.1; first = first.2; taken = taken }

-- ---- behind a flush

start_kept : (old held new : Option (List ℕ)) (bytes : List ℕ) → TakesStart old held bytes → Keeps held new → TakesStart old new bytes
start_kept old held new bytes took keeps = record {
  start = took.start;
  rest = took.rest;
  whole = took.whole;
  taken = Appends-kept old held new took.start took.taken keeps;
}

pub starts_kept : (origin : Option ℕ) (recording : List ℕ) (old held new : Option (List ℕ)) → StartsExport origin recording old held → Keeps held new
    → StartsExport origin recording old new
starts_kept origin recording old held new starts keeps = record {
  packets = starts.packets;
  rest = starts.rest;
  first = starts.first;
  taken = start_kept old held new _ starts.taken keeps;
}

pub exported_kept : (origin : Option ℕ) (recording : List ℕ) (old held new : Option (List ℕ)) → IsExported origin recording old held → Keeps held new
    → IsExported origin recording old new
exported_kept origin recording old held new exported keeps = record {
  packets = exported.packets;
  reads = exported.reads;
  taken = Appends-kept old held new _ exported.taken keeps;
}

pub stopped_kept : (origin : Option ℕ) (recording : List ℕ) (end : ReadEnd) (old held new : Option (List ℕ)) → StopsExport origin recording end old held
    → Keeps held new → StopsExport origin recording end old new
stopped_kept origin recording end old held new stopped keeps = record {
  packets = stopped.packets;
  tells = stopped.tells;
  taken = Appends-kept old held new _ stopped.taken keeps;
}
