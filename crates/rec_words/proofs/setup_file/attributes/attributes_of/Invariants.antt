use Rattle.std.proofs.Common.{◌≡◌, ◌++◌, map, drop, option_map}
use Rattle.toml.specs.View.{items_view}
use Rattle.rec_words.specs.SetupFile.{attributes_said}
use Rattle.rec_words.specs.SetupViews.{attribute_data}
use Rattle.rec_words.proofs.setup_file.attributes.attributes_of.Given as goal

-- the values that are left say the attributes after those that were read
abbrev pub invariant-values : goal.invariant-values
invariant-values l =
    attributes_said (items_view l.values)
    ≡ option_map (λ others. map attribute_data l.attributes.items ++ others) (attributes_said (items_view (drop l.value-index l.values)))
