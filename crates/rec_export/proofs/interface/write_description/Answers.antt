use Rattle.std.proofs.Common.{List, ℕ, ap, subst, ◌∙◌, Option}
use Rattle.std.specs.Prelude.{OnErr}
use Rattle.std.specs.Io.KnownBytes.{Appends}
use Rattle.pcapng_blocks.specs.Outputs.{TakesStart}
use Rattle.pcapng_blocks.proofs.BlockParts.{on_err}
use Rattle.pcapng_blocks.specs.Views.{options_data}
use Rattle.pcapng_blocks.specs.Options.{OptionData}
use Rattle.pcapng_blocks.specs.Blocks.{block_bytes}
use Rattle.pcapng_blocks.specs.Blocks.BlockData.{OfInterface}
use Rattle.rec_export.specs.Versions.{version_text}
use Rattle.rec_export.specs.Interfaces.{description_options}
use Rattle.std.specs.Option.{option_map}
use Rattle.rec_export.proofs.Parts.{nothing_fails}
use Rattle.rec_export.proofs.interface.write_description.Goals as goal

pub returns-in_err-options-clause-part : goal.returns-in_err-options-clause-part
returns-in_err-options-clause-part g c = nothing_fails _ _ _

pub returns-clause-whole : goal.returns-clause-whole
returns-clause-whole g c =
    subst (λ (options : List OptionData). Appends (g.W.Write.contents c.args.out.now) (g.W.Write.contents c.write_block.new.out)
    (block_bytes (OfInterface (record { link_type = 1; snap_len = 0; options = options }))))
    (ap options_data c.as_slice-2.ensures.value ∙ c.in_ok-options.ensures
    ∙ ap (λ (text : Option (List ℕ)). description_options text c.as_slice.result.now c.args.origin) (c.text_in.ensures ∙ c.in_ok-comment.ensures.text)
    ∙ ap (λ (name : List ℕ). description_options (option_map version_text c.args.version) name c.args.origin) (c.as_slice.ensures.value
    ∙ c.in_ok-name.ensures.name))
    c.in_ok-write_block.ensures.whole

pub returns-in_err-write_block-clause-part : goal.returns-in_err-write_block-clause-part
returns-in_err-write_block-clause-part g c =
    subst (λ (options : List OptionData). OnErr c.from_residual-in_err-write_block.result
    (TakesStart (g.W.Write.contents c.args.out.now) (g.W.Write.contents c.write_block.new.out)
    (block_bytes (OfInterface (record { link_type = 1; snap_len = 0; options = options })))))
    (ap options_data c.as_slice-2.ensures.value ∙ c.in_ok-options.ensures
    ∙ ap (λ (text : Option (List ℕ)). description_options text c.as_slice.result.now c.args.origin) (c.text_in.ensures ∙ c.in_ok-comment.ensures.text)
    ∙ ap (λ (name : List ℕ). description_options (option_map version_text c.args.version) name c.args.origin) (c.as_slice.ensures.value
    ∙ c.in_ok-name.ensures.name))
    (on_err _ c.in_err-write_block.ensures.part)
