use Rattle.std.proofs.Common.{◌≡◌, ◌<◌, true, take}
use Rattle.std.specs.Str.Parse.{digits_value}
use Rattle.bpf_asm.specs.Numbers.{are_digits}
use Rattle.bpf_asm.proofs.number.value_of.Given as goal

-- the bytes so far are digits, and this is the number that they write
abbrev pub invariant-digits : goal.invariant-digits
invariant-digits l = record {
  digits : are_digits l.base (take l.digit-index l.digits) ≡ true;
  number : l.value ≡ digits_value l.base (take l.digit-index l.digits);
  fits : l.value < 4294967296;
}
