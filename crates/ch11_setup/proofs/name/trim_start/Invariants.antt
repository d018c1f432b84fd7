use Rattle.std.proofs.Common.{◌≡◌, length}
use Rattle.ch11_setup.specs.Names.{without_blanks}
use Rattle.ch11_setup.proofs.name.trim_start.Given as goal

-- what is left lacks blanks alone
abbrev pub invariant-blanks : goal.invariant-blanks
invariant-blanks l = without_blanks l.left ≡ without_blanks l.bytes

abbrev pub decreases-blanks : goal.decreases-blanks
decreases-blanks l = length l.left
