-- The export of a recording, packet by packet.
use Rattle.std.proofs.Common.{◌≡◌, ℕ, List, [], ◌∷◌, ◌++◌, Option, refl, sym, ap, subst, ◌∙◌}
use Rattle.std.specs.Prelude.{Result, Ok, Err, IfErr, IsErrAnd}
use Rattle.std.specs.Io.KnownBytes.{Appends, Keeps}
use Rattle.std.proofs.KnownBytes.{Appends-kept}
use Rattle.std.proofs.lemmas.List.{append_assoc, append-nil}
use Rattle.std.proofs.lemmas.List.Concat.{flat_map-cons}
use Rattle.pcapng_blocks.specs.Blocks.{block_bytes, blocks_bytes}
use Rattle.pcapng_blocks.specs.Blocks.BlockData.{OfSection}
use Rattle.pcapng_blocks.specs.Outputs.{TakesStart}
use Rattle.rec_reader.specs.Packets.{PacketData}
use Rattle.rec_reader.specs.Readers.{ReaderState, HasRead}
use Rattle.rec_export.specs.declared.fault.ExportFault.{ExportFault}
use Rattle.rec_export.specs.declared.fault.ExportFault.TheVariants.{Output, Memory}
use Rattle.rec_export.specs.declared.fault.ExportEnd.{ExportEnd}
use Rattle.rec_export.specs.Ends.{end_of}
use Rattle.rec_export.specs.Export.{ExportState, packet_blocks, state_behind, packets_blocks, state_behind_all, first_state, export_blocks}
use Rattle.rec_export.specs.Exported.{StartsExport, FailsExport}
use Rattle.rec_export.proofs.Parts.{both_bytes, both_taken, whole_start}
use Rattle.pcapng_blocks.proofs.BlockParts.{of_second}

-- ---- one packet more

pub state_push : (state : ExportState) (packets : List PacketData) (packet : PacketData)
    → state_behind_all state (packets ++ packet ∷ []) ≡ state_behind (state_behind_all state packets) packet
state_push state [] packet = refl
state_push state (first ∷ packets) packet = state_push (state_behind state first) packets packet

blocks_push : (state : ExportState) (packets : List PacketData) (packet : PacketData)
    → packets_blocks state packets ++ packet_blocks (state_behind_all state packets) packet ≡ packets_blocks state (packets ++ packet ∷ [])
blocks_push state [] packet = sym (append-nil (packet_blocks state packet))
blocks_push state (first ∷ packets) packet =
    append_assoc (packet_blocks state first) (packets_blocks (state_behind state first) packets) _
    ∙ ap (λ l. packet_blocks state first ++ l) (blocks_push (state_behind state first) packets packet)

export_push : (origin : Option ℕ) (packets : List PacketData) (packet : PacketData)
    → export_blocks origin packets ++ packet_blocks (state_behind_all (first_state origin) packets) packet ≡ export_blocks origin (packets ++ packet ∷ [])
export_push origin packets packet = ap (λ l. OfSection ∷ l) (blocks_push (first_state origin) packets packet)

-- ---- the packets so far

pub record HasExported (origin : Option ℕ) (recording : List ℕ) (reader : ReaderState) (state : ExportState) (old new : Option (List ℕ)) : Type 0 where
  pub packets : List PacketData
  pub given : HasRead recording packets reader
  pub taken : Appends old new (blocks_bytes (export_blocks origin packets))
  pub state_is : state ≡ state_behind_all (first_state origin) packets

pub begun : (origin : Option ℕ) (recording : List ℕ) (reader : ReaderState) (state : ExportState) (old new : Option (List ℕ)) → HasRead recording [] reader
    → state ≡ first_state origin → Appends old new (block_bytes OfSection) → HasExported origin recording reader state old new
begun origin recording reader state old new begins is took =
    record {
      packets = [];
      given = begins;
      taken = subst (Appends old new) (sym (append-nil (block_bytes OfSection)) ∙ sym (flat_map-cons block_bytes OfSection [])) took;
      state_is = is;
    }

-- what was exported was flushed
pub kept : (origin : Option ℕ) (recording : List ℕ) (reader : ReaderState) (state : ExportState) (old held new : Option (List ℕ))
    → HasExported origin recording reader state old held → Keeps held new → HasExported origin recording reader state old new
kept origin recording reader state old held new had keeps = record {
  packets = had.packets;
  given = had.given;
  taken = Appends-kept old held new _ had.taken keeps;
  state_is = had.state_is;
}

-- a further packet was exported
pub goes_on : (origin : Option ℕ) (recording : List ℕ) (reader next : ReaderState) (state after : ExportState) (old held new : Option (List ℕ))
    (packet shown : PacketData)
    (had : HasExported origin recording reader state old held) → HasRead recording (had.packets ++ packet ∷ []) next → shown ≡ packet
    → Appends held new (blocks_bytes (packet_blocks state shown)) → after ≡ state_behind state shown
    → HasExported origin recording next after old new
goes_on origin recording reader next state after old held new packet shown had given same took is =
    let then : state_behind_all (first_state origin) (had.packets ++ packet ∷ []) ≡ state_behind (state_behind_all (first_state origin) had.packets) packet =
    state_push (first_state origin) had.packets packet in
    record {
      packets = had.packets ++ packet ∷ [];
      given = given;
      taken =
          both_taken old held new (export_blocks origin had.packets) (packet_blocks state shown) _
          (ap (λ blocks. export_blocks origin had.packets ++ blocks) (ap (λ s. packet_blocks s shown) had.state_is
          ∙ ap (packet_blocks (state_behind_all (first_state origin) had.packets)) same) ∙ export_push origin had.packets packet)
          had.taken took;
      state_is = is ∙ ap (λ s. state_behind s shown) had.state_is ∙ ap (state_behind (state_behind_all (first_state origin) had.packets)) same ∙ sym then;
    }

-- the start of what a further packet adds
pub starts_further : (origin : Option ℕ) (recording : List ℕ) (reader next : ReaderState) (state : ExportState) (old held new : Option (List ℕ))
    (packet shown : PacketData)
    (had : HasExported origin recording reader state old held) → HasRead recording (had.packets ++ packet ∷ []) next → shown ≡ packet
    → TakesStart held new (blocks_bytes (packet_blocks state shown)) → StartsExport origin recording old new
starts_further origin recording reader next state old held new packet shown had given same start =
    record {
      packets = had.packets ++ packet ∷ [];
      rest = given.rest;
      first = given.held;
      taken =
          subst (λ blocks. TakesStart old new (blocks_bytes blocks))
          (ap (λ blocks. export_blocks origin had.packets ++ blocks) (ap (λ s. packet_blocks s shown) had.state_is
          ∙ ap (packet_blocks (state_behind_all (first_state origin) had.packets)) same) ∙ export_push origin had.packets packet)
          (subst (TakesStart old new) (both_bytes (export_blocks origin had.packets) (packet_blocks state shown))
          (of_second old held new _ _ had.taken start));
    }

-- what was exported is a start of the export
pub starts_so_far : (origin : Option ℕ) (recording : List ℕ) (reader : ReaderState) (state : ExportState) (old new : Option (List ℕ))
    → HasExported origin recording reader state old new → StartsExport origin recording old new
starts_so_far origin recording reader state old new had =
    record {
      packets = had.packets;
      rest = had.given.rest;
      first = had.given.held;
      taken = whole_start old new (export_blocks origin had.packets) had.taken;
    }

-- a fault of a packet
pub fails : (origin : Option ℕ) (recording : List ℕ) (old new : Option (List ℕ)) (fault : ExportFault) → StartsExport origin recording old new
    → FailsExport origin recording old new (end_of fault)
fails origin recording old new Output starts = starts
fails origin recording old new Memory starts = starts

-- an end that is passed on
pub passed_on : {T : Type 0} (result : Result T ExportEnd) (end : ExportEnd) (P : ExportEnd → Type 0) → IsErrAnd result (λ e. e ≡ end) → P end → IfErr result P
passed_on (Ok value) end P same holds = tt
passed_on (Err other) end P same holds = subst P (sym same) holds
