use Rattle.std.proofs.Common.{◌≡◌, take}
use Rattle.ch11_setup.specs.Names.{plain_text}
use Rattle.ch11_setup.proofs.name.plain_text.Given as goal

-- the characters so far
abbrev pub invariant-bytes : goal.invariant-bytes
invariant-bytes l = l.plain.items ≡ plain_text (take l.byte-index l.text)
