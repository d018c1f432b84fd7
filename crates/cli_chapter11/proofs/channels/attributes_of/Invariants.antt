use Rattle.std.proofs.Common.{◌≡◌, map, take}
use Rattle.ch11_setup.specs.Setups.{given_attribute}
use Rattle.rec_words.specs.SetupViews.{attribute_data}
use Rattle.cli_chapter11.proofs.channels.attributes_of.Given as goal

abbrev pub invariant-attributes : goal.invariant-attributes
invariant-attributes l = map given_attribute l.attributes.items ≡ map attribute_data (take l.attribute-index l.said)
