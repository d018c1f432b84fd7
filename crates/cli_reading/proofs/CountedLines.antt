-- The counts that `extract` and `upgrade` print of a recording.
use Rattle.std.proofs.Common.{◌≡◌, ℕ, ◌^◌, ◌<◌, cond, List, [], ◌∷◌, length, Option, None, Some, sym, subst}
use Rattle.std.specs.Prelude.{◌==◌, IfSome}
use Rattle.std.specs.List.{FoldsTo}
use Rattle.std.proofs.lemmas.List.Concat.{flat_map-append}
use Rattle.rec_reader.specs.Packets.{PacketData}
use Rattle.rec_reader.specs.ChannelFrames.{channel_frames, packet_frames}
use Rattle.rec_reader.specs.Extracting.{Counts}
use Rattle.rec_reader.proofs.Extracting.{counts_none, counts_more}
use Rattle.cli_reading.specs.declared.extraction.Extraction.{Extraction}
use Rattle.cli_reading.specs.Lines.{CountsExtracted}
use Rattle.cli_reading.specs.Written.{IsCounted}

-- ---- a recording that is known

-- what follows of it
pub of_known : (left : Option (List ℕ)) (P Q : List ℕ → Type 0) → ((recording : List ℕ) → P recording → Q recording)
    → IfSome left (λ recording. length recording < 2 ^ 64 → P recording) → IfSome left (λ recording. length recording < 2 ^ 64 → Q recording)
of_known None P Q follows holds = tt
of_known (Some recording) P Q follows holds = λ few. follows recording (holds few)

-- ---- frames

-- the frames of a packet are counted
abbrev pub CountsPacket : Extraction → PacketData → Extraction → Type 0
CountsPacket old packet new = (new.channel ≡ old.channel) × Counts old.extracted new.extracted (channel_frames old.channel (packet ∷ []))

counts_all : (old new : Extraction) (packets : List PacketData) → FoldsTo CountsPacket old packets new
    → Counts old.extracted new.extracted (channel_frames old.channel packets)
counts_all old new [] same = subst (λ (it : Extraction). Counts old.extracted it.extracted []) same (counts_none old.extracted)
counts_all old new (packet ∷ packets) folds =
    let held = folds.0 in
    let its = λ (p : PacketData). cond (p.header.channel == old.channel) (packet_frames p) [] in
    let rest = subst (λ channel. Counts held.extracted new.extracted (channel_frames channel packets)) folds.1.0 (counts_all held new packets folds.2) in
    subst (Counts old.extracted new.extracted) (sym (flat_map-append its (packet ∷ []) packets))
    (counts_more old.extracted held.extracted new.extracted (channel_frames old.channel (packet ∷ [])) (channel_frames old.channel packets) folds.1.1 rest)

-- the counts of a channel's frames
pub counts_extracted : (channel : ℕ) (recording : List ℕ) (new : Extraction)
    → IsCounted CountsPacket recording (record { channel = channel; extracted = record { frames = 0; passed = 0 } }) new
    → CountsExtracted channel recording new.extracted
counts_extracted channel recording new counted = record {
  packets = counted.packets;
  reads = counted.reads;
  counted = counts_all (record { channel = channel; extracted = record { frames = 0; passed = 0 } }) new counted.packets counted.each;
}
