use Rattle.std.proofs.Common.{◌≡◌, take, string_bytes}
use Rattle.ch11_setup.proofs.name.ascii_text.Given as goal

-- the characters so far
abbrev pub invariant-bytes : goal.invariant-bytes
invariant-bytes l = string_bytes l.text ≡ take l.byte-index l.bytes
