-- What an output took of the export of a recording.
use Rattle.std.specs.Prelude.{ℕ, List, Option, None, Err}
use Rattle.std.specs.Io.KnownBytes.{Appends}
use Rattle.pcapng_blocks.specs.Blocks.{blocks_bytes}
use Rattle.pcapng_blocks.specs.Outputs.{TakesStart}
use Rattle.rec_reader.specs.declared.fault.ReadEnd.{ReadEnd}
use Rattle.rec_reader.specs.Packets.{PacketData, BeginsPackets}
use Rattle.rec_reader.specs.Reading.{Reads}
use Rattle.rec_reader.specs.Readers.{Tells}
use Rattle.rec_export.specs.declared.fault.ExportEnd.{ExportEnd}
use Rattle.rec_export.specs.declared.fault.ExportEnd.TheVariants.{Reading, Output, Memory}
use Rattle.rec_export.specs.Export.{export_blocks}

-- the recording is read to its end, and the output took the export of its packets
pub record IsExported (origin : Option ℕ) (recording : List ℕ) (old new : Option (List ℕ))
    : Type 0 where
  pub packets : List PacketData
  pub reads : Reads recording packets None
  pub taken : Appends old new (blocks_bytes (export_blocks origin packets))

-- the recording isn't read to its end for this reason, and the output took the export of the
-- packets before
pub record StopsExport (origin : Option ℕ) (recording : List ℕ) (end : ReadEnd)
    (old new : Option (List ℕ)) : Type 0 where
  pub packets : List PacketData
  pub tells : Tells recording packets (Err end)
  pub taken : Appends old new (blocks_bytes (export_blocks origin packets))

-- the output took the first bytes of the export of the recording's first packets
pub record StartsExport (origin : Option ℕ) (recording : List ℕ) (old new : Option (List ℕ))
    : Type 0 where
  pub packets : List PacketData
  pub rest : List ℕ
  pub first : BeginsPackets 0 packets recording rest
  pub taken : TakesStart old new (blocks_bytes (export_blocks origin packets))

-- what the output took of a recording whose export ended so
abbrev pub FailsExport : (origin : Option ℕ) (recording : List ℕ) (old new : Option (List ℕ))
    → ExportEnd → Type 0
FailsExport origin recording old new (Reading end) = StopsExport origin recording end old new
FailsExport origin recording old new Output = StartsExport origin recording old new
FailsExport origin recording old new Memory = StartsExport origin recording old new
