use Rattle.std.proofs.Common.{◌≡◌, subst}
use Rattle.std.specs.Prelude.{IfOk, string_bytes}
use Rattle.ch11_setup.specs.declared.setup.Setup.{Setup}
use Rattle.ch11_setup.specs.Attributes.{attributes_text}
use Rattle.ch11_setup.specs.Setups.{setup_attributes}
use Rattle.ch11_file.specs.WholeFile.{setup_text}
use Rattle.ch11_file.proofs.setup_block.text_of.Goals as goal

pub returns : goal.returns
unfolding setup_text
returns c =
    subst (λ (s : Setup). IfOk c.setup_text.result (λ text. string_bytes text ≡ attributes_text (setup_attributes s))) c.at.ensures c.setup_text.ensures
