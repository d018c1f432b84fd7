use Rattle.std.proofs.Common.{◌≡◌, map, take}
use Rattle.cli_chapter11.specs.Joining.{end_of_part}
use Rattle.cli_chapter11.proofs.several.ends_of.Given as goal

-- the ends so far
abbrev pub invariant-parts : goal.invariant-parts
invariant-parts g l = l.ends.items ≡ map end_of_part (take l.part-index l.part-items)
