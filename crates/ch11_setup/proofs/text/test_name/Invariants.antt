use Rattle.std.proofs.Common.{◌≡◌, drop}
use Rattle.ch11_setup.specs.Setups.{test_name}
use Rattle.ch11_setup.proofs.text.test_name.Given as goal

-- none of the attributes so far is the name of the test
abbrev pub invariant-attributes : goal.invariant-attributes
invariant-attributes l = test_name l.attributes ≡ test_name (drop l.attribute-index l.attributes)
