use Rattle.std.proofs.Common.{◌≡◌, length}
use Rattle.std.specs.Prelude.{reverse}
use Rattle.ch11_setup.specs.Names.{without_blanks}
use Rattle.ch11_setup.proofs.name.trim_end.Given as goal

-- what is left lacks blanks alone
abbrev pub invariant-blanks : goal.invariant-blanks
invariant-blanks l = without_blanks (reverse l.left) ≡ without_blanks (reverse l.bytes)

abbrev pub decreases-blanks : goal.decreases-blanks
decreases-blanks l = length l.left
