-- What an output took of the blocks for a packet.
use Rattle.std.proofs.Common.{◌≡◌, ℕ, List, [], ◌++◌, Option, None, refl, sym, ap, subst, ◌∙◌}
use Rattle.std.specs.Prelude.{Result, OnErr}
use Rattle.std.specs.Io.KnownBytes.{Appends}
use Rattle.std.proofs.KnownBytes.{Appends-nil, Appends-trans}
use Rattle.std.proofs.lemmas.List.{append-nil}
use Rattle.std.proofs.lemmas.List.Concat.{flat_map-append}
use Rattle.pcapng_blocks.specs.Blocks.{BlockData, block_bytes, blocks_bytes}
use Rattle.pcapng_blocks.specs.Outputs.{TakesStart}
use Rattle.std.specs.Option.{option_map}
use Rattle.ch11_packet.specs.FramesRead.{ReadFrameData}
use Rattle.rec_export.specs.declared.version.LaterVersions.{LaterVersions}
use Rattle.rec_export.specs.Frames.{frame_blocks}
use Rattle.rec_export.specs.Versions.{later_text}
use Rattle.rec_export.specs.Interfaces.{Interface, number_of, later_of}
use Rattle.rec_export.specs.Export.{description, export_state, blocks_of_frames}
use Rattle.pcapng_blocks.proofs.BlockParts.{of_first, of_second, on_err}

-- nothing was written
pub nothing_taken : (old : Option (List ℕ)) (bytes : List ℕ) → TakesStart old old bytes
nothing_taken old bytes = record { start = []; rest = bytes; whole = refl; taken = Appends-nil old }

pub nothing_fails : {T E : Type 0} (result : Result T E) (old : Option (List ℕ)) (bytes : List ℕ) → OnErr result (TakesStart old old bytes)
nothing_fails result old bytes = on_err result (nothing_taken old bytes)

-- all was written, and then there was a fault
pub all_fails : {T E : Type 0} (result : Result T E) (old new : Option (List ℕ)) (bytes : List ℕ) → Appends old new bytes
    → OnErr result (TakesStart old new bytes)
all_fails result old new bytes took = on_err result (record { start = bytes; rest = []; whole = sym (append-nil bytes); taken = took })

pub both_bytes : (blocks more : List BlockData) → blocks_bytes blocks ++ blocks_bytes more ≡ blocks_bytes (blocks ++ more)
both_bytes blocks more = sym (flat_map-append block_bytes blocks more)

pub both_taken : (old held new : Option (List ℕ)) (blocks more all : List BlockData) → blocks ++ more ≡ all
    → Appends old held (blocks_bytes blocks) → Appends held new (blocks_bytes more) → Appends old new (blocks_bytes all)
both_taken old held new blocks more all is first second =
    subst (λ bs. Appends old new (blocks_bytes bs)) is
    (subst (Appends old new) (both_bytes blocks more) (Appends-trans old held new _ _ first second))

pub first_blocks_fail : {T E : Type 0} (result : Result T E) (old new : Option (List ℕ)) (blocks more all : List BlockData) → blocks ++ more ≡ all
    → TakesStart old new (blocks_bytes blocks) → OnErr result (TakesStart old new (blocks_bytes all))
first_blocks_fail result old new blocks more all is start =
    on_err result (subst (λ bs. TakesStart old new (blocks_bytes bs)) is (subst (TakesStart old new) (both_bytes blocks more) (of_first old new _ _ start)))

pub second_blocks_fail : {T E : Type 0} (result : Result T E) (old held new : Option (List ℕ)) (blocks more all : List BlockData) → blocks ++ more ≡ all
    → Appends old held (blocks_bytes blocks) → TakesStart held new (blocks_bytes more) → OnErr result (TakesStart old new (blocks_bytes all))
second_blocks_fail result old held new blocks more all is first start =
    on_err result (subst (λ bs. TakesStart old new (blocks_bytes bs)) is
    (subst (TakesStart old new) (both_bytes blocks more) (of_second old held new _ _ first start)))

-- a start of the first blocks, all of which were written
pub whole_start : (old new : Option (List ℕ)) (blocks : List BlockData) → Appends old new (blocks_bytes blocks) → TakesStart old new (blocks_bytes blocks)
whole_start old new blocks took = record { start = blocks_bytes blocks; rest = []; whole = sym (append-nil (blocks_bytes blocks)); taken = took }

-- ---- the blocks of frames, by the code's values

pub same_blocks : (origin : Option ℕ) (channel : ℕ) (items : List Interface) (frames : List ReadFrameData) (more : List BlockData)
    → more ≡ frame_blocks (number_of channel items) (option_map later_text (later_of channel items)) frames
    → description (export_state origin items) channel None ++ more ≡ blocks_of_frames (export_state origin items) channel frames
same_blocks origin channel items frames more rest = ap (λ l. description (export_state origin items) channel None ++ l) rest

pub same_frames : (channel number : ℕ) (text : Option (List ℕ)) (later : Option LaterVersions) (items : List Interface) (frames : List ReadFrameData)
    → number ≡ number_of channel items → text ≡ option_map later_text later → later ≡ later_of channel items
    → frame_blocks number text frames ≡ frame_blocks (number_of channel items) (option_map later_text (later_of channel items)) frames
same_frames channel number text later items frames n t l =
    ap (λ k. frame_blocks k text frames) n ∙ ap (λ s. frame_blocks (number_of channel items) s frames) (t ∙ ap (option_map later_text) l)
