use Rattle.std.proofs.Common.{◌≡◌, ◌++◌, length}
use Rattle.rec_words.specs.ReservedNames.{plain_form, plain_name}
use Rattle.rec_words.proofs.setup_file.reserved.plain_name.Given as goal

-- the name so far in its plain form, with that of what is left, is that of all
abbrev pub invariant-bytes : goal.invariant-bytes
invariant-bytes l = l.plain.items ++ plain_form l.within l.left ≡ plain_name l.name

abbrev pub decreases-bytes : goal.decreases-bytes
decreases-bytes l = length l.left
