-- The order of an export's blocks: one section header, first, and each interface ahead of its packets.
use Rattle.std.proofs.Common.{◌≡◌, ℕ, suc, ◌+◌, ◌<◌, Bool, true, false, cond, List, [], ◌∷◌, ◌++◌, map, length, Option, None, Some}
use Rattle.std.proofs.Common.{refl, sym, ap, subst, arith}
use Rattle.std.proofs.lemmas.Bool.{ltb-true}
use Rattle.std.proofs.lemmas.List.{length-append, length-map}
use Rattle.ch11_packet.specs.FramesRead.{ReadFrameData}
use Rattle.pcapng_blocks.specs.Blocks.{CapturedData, BlockData}
use Rattle.pcapng_blocks.specs.Blocks.BlockData.{OfSection, OfInterface, OfPacket}
use Rattle.rec_reader.specs.Packets.{PacketData}
use Rattle.rec_reader.specs.Channels.{Saying, saying_of}
use Rattle.rec_reader.specs.Channels.Saying.{OfFrames, OfProgram, OfEnd}
use Rattle.rec_export.specs.declared.version.FilterVersion.{FilterVersion}
use Rattle.rec_export.specs.Frames.{frame_blocks}
use Rattle.rec_export.specs.Versions.{filter_version}
use Rattle.rec_export.specs.Interfaces.{interface_block, number_of, is_described}
use Rattle.rec_export.specs.Export.{ExportState, description, blocks_said, state_said, packet_blocks, state_behind, packets_blocks, first_state, export_blocks}
use Rattle.rec_export.specs.Shown.{interfaces_in, name_in, names_in, interface_name}
use Rattle.rec_export.specs.Found.{HasNoSection, IsOneSection, AreDescribedAhead}
use Rattle.rec_export.proofs.Numbering.{most}
use Rattle.rec_export.proofs.ShownFrames.{names_said}

-- ---- sections

none_append : (blocks more : List BlockData) → HasNoSection blocks → HasNoSection more → HasNoSection (blocks ++ more)
none_append [] more none also = also
none_append (OfSection ∷ blocks) more none also = absurd none
none_append (OfInterface interface ∷ blocks) more none also = none_append blocks more none also
none_append (OfPacket packet ∷ blocks) more none also = none_append blocks more none also

frames_have_no_section : (n : ℕ) (comment : Option (List ℕ)) (frames : List ReadFrameData) → HasNoSection (frame_blocks n comment frames)
frames_have_no_section n comment [] = tt
frames_have_no_section n comment (frame ∷ frames) = frames_have_no_section n None frames

described_has_none : (b : Bool) (state : ExportState) (channel : ℕ) (version : Option FilterVersion)
    → HasNoSection (cond b [] (interface_block state.origin channel version ∷ []))
described_has_none true state channel version = tt
described_has_none false state channel version = tt

said_has_none : (state : ExportState) (said : Option (ℕ × Saying)) → HasNoSection (blocks_said state said)
said_has_none state (Some (channel, OfFrames frames)) =
    none_append (description state channel None) _ (described_has_none (is_described channel state.interfaces) state channel None)
    (frames_have_no_section _ _ frames)
said_has_none state (Some (channel, OfProgram program)) =
    described_has_none (is_described channel state.interfaces) state channel (Some (filter_version program))
said_has_none state (Some (channel, OfEnd end)) = tt
said_has_none state None = tt

packets_have_none : (state : ExportState) (packets : List PacketData) → HasNoSection (packets_blocks state packets)
packets_have_none state [] = tt
packets_have_none state (packet ∷ packets) =
    none_append (packet_blocks state packet) _ (said_has_none state (saying_of packet)) (packets_have_none (state_behind state packet) packets)

pub one_section : (origin : Option ℕ) (packets : List PacketData) → IsOneSection (export_blocks origin packets)
one_section origin packets = (packets_blocks (first_state origin) packets, refl, packets_have_none (first_state origin) packets)

-- ---- interfaces ahead of their packets

-- the interface of each packet is one of so many that were described before, or stands ahead
abbrev AreAhead : (count : ℕ) → List BlockData → Type 0
AreAhead count [] = Unit {0}
AreAhead count (OfSection ∷ blocks) = AreAhead count blocks
AreAhead count (OfInterface interface ∷ blocks) = AreAhead (count + 1) blocks
AreAhead count (OfPacket packet ∷ blocks) = (packet.interface < count) × AreAhead count blocks

ahead_append : (count : ℕ) (blocks more : List BlockData) → AreAhead count blocks → AreAhead (count + length (interfaces_in blocks)) more
    → AreAhead count (blocks ++ more)
ahead_append count [] more are also = subst (λ n. AreAhead n more) (let n = count in omega arith) also
ahead_append count (OfSection ∷ blocks) more are also = ahead_append count blocks more are also
ahead_append count (OfInterface interface ∷ blocks) more are also =
    ahead_append (count + 1) blocks more are (subst (λ n. AreAhead n more) (sums count (length (interfaces_in blocks))) also)
  where
    sums : (n m : ℕ) → n + suc m ≡ n + 1 + m
    sums n m = omega arith
ahead_append count (OfPacket packet ∷ blocks) more are also = (are.0, ahead_append count blocks more are.1 also)

frames_ahead : (count n : ℕ) (comment : Option (List ℕ)) (frames : List ReadFrameData) → n < count → AreAhead count (frame_blocks n comment frames)
frames_ahead count n comment [] less = tt
frames_ahead count n comment (frame ∷ frames) less = (less, frames_ahead count n None frames less)

described_ahead : (count : ℕ) (b : Bool) (state : ExportState) (channel : ℕ) (version : Option FilterVersion)
    → AreAhead count (cond b [] (interface_block state.origin channel version ∷ []))
described_ahead count true state channel version = tt
described_ahead count false state channel version = tt

-- a channel's number is that of an interface, once it is described
number_ahead : (state : ExportState) (channel : ℕ) (version : Option FilterVersion)
    → number_of channel state.interfaces < length state.interfaces + length (interfaces_in (description state channel version))
number_ahead state channel version = by_cases (is_described channel state.interfaces) refl
  where
    by_cases : (b : Bool) → is_described channel state.interfaces ≡ b
        → number_of channel state.interfaces
        < length state.interfaces + length (interfaces_in (cond b [] (interface_block state.origin channel version ∷ [])))
    by_cases true is = let less = ltb-true (number_of channel state.interfaces) (length state.interfaces) is in omega (arith, less)
    by_cases false isnt = let upper = most channel state.interfaces in omega (arith, upper)

said_ahead : (state : ExportState) (said : Option (ℕ × Saying)) → AreAhead (length state.interfaces) (blocks_said state said)
said_ahead state (Some (channel, OfFrames frames)) =
    ahead_append (length state.interfaces) (description state channel None) _
    (described_ahead (length state.interfaces) (is_described channel state.interfaces) state channel None)
    (frames_ahead _ (number_of channel state.interfaces) _ frames (number_ahead state channel None))
said_ahead state (Some (channel, OfProgram program)) =
    described_ahead (length state.interfaces) (is_described channel state.interfaces) state channel (Some (filter_version program))
said_ahead state (Some (channel, OfEnd end)) = tt
said_ahead state None = tt

-- as many interfaces stand behind a packet as it describes
pub length_said : (state : ExportState) (said : Option (ℕ × Saying))
    → length state.interfaces + length (interfaces_in (blocks_said state said)) ≡ length (state_said state said).interfaces
length_said state said =
    let all = ap (λ (l : List (Option (List ℕ))). length l) (names_said state said) in
    let both = length-append (map interface_name state.interfaces) (names_in (blocks_said state said)) in
    let first = length-map state.interfaces interface_name in
    let second = length-map (interfaces_in (blocks_said state said)) (λ interface. name_in interface.options) in
    let last = length-map (state_said state said).interfaces interface_name in
    omega (arith, all, both, first, second, last)

packets_ahead : (state : ExportState) (packets : List PacketData) → AreAhead (length state.interfaces) (packets_blocks state packets)
packets_ahead state [] = tt
packets_ahead state (packet ∷ packets) =
    ahead_append (length state.interfaces) (packet_blocks state packet) _ (said_ahead state (saying_of packet))
    (subst (λ n. AreAhead n (packets_blocks (state_behind state packet) packets)) (sym (length_said state (saying_of packet)))
    (packets_ahead (state_behind state packet) packets))

described_before : (count : ℕ) (before behind : List BlockData) (packet : CapturedData) → AreAhead count (before ++ OfPacket packet ∷ behind)
    → packet.interface < count + length (interfaces_in before)
described_before count [] behind packet are = let less = are.0 in omega (arith, less)
described_before count (OfSection ∷ before) behind packet are = described_before count before behind packet are
described_before count (OfInterface interface ∷ before) behind packet are =
    let less = described_before (count + 1) before behind packet are in omega (arith, less)
described_before count (OfPacket other ∷ before) behind packet are = described_before count before behind packet are.1

pub described_ahead_of_packets : (origin : Option ℕ) (packets : List PacketData) → AreDescribedAhead (export_blocks origin packets)
described_ahead_of_packets origin packets = λ before behind packet whole.
    (let less = described_before 0 before behind packet (subst (AreAhead 0) whole (packets_ahead (first_state origin) packets)) in omega (arith, less))
