use Rattle.std.proofs.Common.{◌≡◌, ◌<◌, take}
use Rattle.std.specs.Str.Parse.{digits_value}
use Rattle.bpf_insn.proofs.parse.value_of.Given as goal

-- the number that the digits so far write
abbrev pub invariant-digits : goal.invariant-digits
invariant-digits l = (l.value ≡ digits_value 10 (take l.digit-index l.digits)) × (l.value < 4294967296)
