-- What an output took of the frames of a packet.
use Rattle.std.proofs.Common.{◌≡◌, ℕ, List, [], ◌∷◌, ◌++◌, Option, None, refl, sym, ap, subst, ◌∙◌}
use Rattle.std.specs.Prelude.{Result, OnErr}
use Rattle.std.specs.Io.KnownBytes.{Appends}
use Rattle.std.proofs.KnownBytes.{Appends-nil, Appends-trans}
use Rattle.std.proofs.lemmas.List.{append_assoc}
use Rattle.std.proofs.lemmas.List.Concat.{flat_map-cons}
use Rattle.ch11_packet.specs.FramesRead.{ReadFrameData}
use Rattle.pcapng_blocks.specs.Blocks.{block_bytes, blocks_bytes}
use Rattle.pcapng_blocks.specs.Outputs.{TakesStart}
use Rattle.pcapng_blocks.proofs.BlockParts.{of_first, of_second, on_err}
use Rattle.rec_export.specs.Frames.{captured, frame_blocks}

-- what was taken of the frames that a walk meets, with the comment that is still to be said
pub record Shown (interface : ℕ) (old new : Option (List ℕ)) (said first : Option (List ℕ)) (left all : List ReadFrameData) : Type 0 where
  pub bytes : List ℕ
  pub taken : Appends old new bytes
  pub whole : bytes ++ blocks_bytes (frame_blocks interface said left) ≡ blocks_bytes (frame_blocks interface first all)

-- the first of the frames that are left, and the others
split_first : (interface : ℕ) (said : Option (List ℕ)) (frame : ReadFrameData) (left rest : List ReadFrameData) → left ≡ frame ∷ rest
    → blocks_bytes (frame_blocks interface said left) ≡ block_bytes (captured interface said frame) ++ blocks_bytes (frame_blocks interface None rest)
split_first interface said frame left rest is =
    ap (λ l. blocks_bytes (frame_blocks interface said l)) is
    ∙ flat_map-cons block_bytes (captured interface said frame) (frame_blocks interface None rest)

pub begins : (interface : ℕ) (old : Option (List ℕ)) (said : Option (List ℕ)) (all : List ReadFrameData) → Shown interface old old said said all all
begins interface old said all = record { bytes = []; taken = Appends-nil old; whole = refl }

pub shows_next : (interface : ℕ) (old held new : Option (List ℕ)) (said first : Option (List ℕ)) (frame : ReadFrameData) (left rest all : List ReadFrameData)
    → Shown interface old held said first left all → left ≡ frame ∷ rest
    → Appends held new (block_bytes (captured interface said frame)) → Shown interface old new None first rest all
shows_next interface old held new said first frame left rest all before is took =
    let its = block_bytes (captured interface said frame) in
    record {
      bytes = before.bytes ++ its;
      taken = Appends-trans old held new before.bytes its before.taken took;
      whole =
          append_assoc before.bytes its (blocks_bytes (frame_blocks interface None rest))
          ∙ ap (λ l. before.bytes ++ l) (sym (split_first interface said frame left rest is)) ∙ before.whole;
    }

pub frame_fails : {T E : Type 0} (result : Result T E) (interface : ℕ) (old held new : Option (List ℕ)) (said first : Option (List ℕ)) (frame : ReadFrameData)
    (left rest items all : List ReadFrameData)
    → Shown interface old held said first left items → left ≡ frame ∷ rest
    → TakesStart held new (block_bytes (captured interface said frame)) → items ≡ all
    → OnErr result (TakesStart old new (blocks_bytes (frame_blocks interface first all)))
frame_fails result interface old held new said first frame left rest items all before is start same =
    on_err result (subst (TakesStart old new) (before.whole ∙ ap (λ l. blocks_bytes (frame_blocks interface first l)) same)
    (of_second old held new before.bytes _ before.taken
    (subst (TakesStart held new) (sym (split_first interface said frame left rest is)) (of_first held new _ _ start))))
