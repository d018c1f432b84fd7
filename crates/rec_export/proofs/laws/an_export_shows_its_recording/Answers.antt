use Rattle.std.proofs.Common.{ℕ, ◌≡◌, List, ◌⊎◌, inl, inr, map, Option, Some}
use Rattle.std.specs.Io.KnownBytes.{Appends}
use Rattle.pcapng_blocks.specs.Blocks.{blocks_bytes}
use Rattle.rec_reader.specs.declared.fault.ReadEnd.{ReadEnd}
use Rattle.rec_reader.specs.declared.fault.ReadFaultKind.TheVariants.{Device, Memory}
use Rattle.rec_reader.specs.Packets.{PacketData, BeginsPackets, BeginSomeBytes}
use Rattle.rec_reader.specs.Reading.{Reads}
use Rattle.rec_reader.specs.Readers.{Tells}
use Rattle.std.specs.Prelude.{Err}
use Rattle.rec_export.specs.Export.{export_blocks, first_state, state_behind_all}
use Rattle.rec_export.specs.Found.{AreReadAs, ShowsPackets}
use Rattle.rec_export.proofs.ShownChannels.{shows_channels}
use Rattle.rec_export.proofs.Widths.{channel_of}
use Rattle.rec_export.proofs.laws.an_export_shows_its_recording.Goals as goal

shows : (origin : Option ℕ) (packets : List PacketData) (old new : Option (List ℕ)) → BeginSomeBytes packets
    → Appends old new (blocks_bytes (export_blocks origin packets)) → AreReadAs (blocks_bytes (export_blocks origin packets)) (export_blocks origin packets)
    → ShowsPackets origin packets old new
shows origin packets old new begin took read =
    record {
      bytes = blocks_bytes (export_blocks origin packets);
      taken = took;
      blocks = export_blocks origin packets;
      read = read;
      channels = map channel_of (state_behind_all (first_state origin) packets).interfaces;
      shown = shows_channels origin packets begin;
    }

-- the packets that are read before a fault stand first
begin_told : (recording : List ℕ) (packets : List PacketData) (end : ReadEnd) → Tells recording packets (Err end) → BeginSomeBytes packets
begin_told recording packets end tells = either tells.1
  where
    either : Reads recording packets (Some end.kind) ⊎ (((end.kind ≡ Device) ⊎ (end.kind ≡ Memory))
        × (rest : List ℕ) × BeginsPackets 0 packets recording rest) → BeginSomeBytes packets
    either (inl reads) = (recording, reads.rest, reads.held)
    either (inr first) = (recording, first.1, first.2)

pub returns-clause-whole : goal.returns-clause-whole
returns-clause-whole c = λ origin recording old new exported.
    (let begin : BeginSomeBytes exported.packets = (recording, exported.reads.rest, exported.reads.held) in
    shows origin exported.packets old new begin exported.taken (c.an_export_is_read_as_its_blocks.ensures origin exported.packets begin))

pub returns-clause-part : goal.returns-clause-part
returns-clause-part c = λ origin recording end old new stopped.
    (let begin = begin_told recording stopped.packets end stopped.tells in
    shows origin stopped.packets old new begin stopped.taken (c.an_export_is_read_as_its_blocks.ensures origin stopped.packets begin))
