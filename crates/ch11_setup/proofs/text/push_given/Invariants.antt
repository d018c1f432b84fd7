use Rattle.std.proofs.Common.{◌≡◌, ◌++◌, drop, string_bytes}
use Rattle.ch11_setup.specs.Attributes.{attributes_text}
use Rattle.ch11_setup.specs.Setups.{given_attributes}
use Rattle.ch11_setup.proofs.text.push_given.Given as goal

-- the text so far, with the attributes that are left, is that with all
abbrev pub invariant-attributes : goal.invariant-attributes
invariant-attributes l =
    string_bytes l.text ++ attributes_text (given_attributes (drop l.attribute-index l.attributes))
    ≡ string_bytes l.fn.text ++ attributes_text (given_attributes l.attributes)
