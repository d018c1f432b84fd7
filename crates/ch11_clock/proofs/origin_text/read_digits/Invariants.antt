use Rattle.std.proofs.Common.{◌≡◌, true, take}
use Rattle.std.specs.Char.{is_digit}
use Rattle.std.specs.List.{list_all}
use Rattle.std.specs.Str.Parse.{digits_value}
use Rattle.ch11_clock.proofs.origin_text.read_digits.Given as goal

-- the bytes so far are digits, and this is the number that they write
abbrev pub invariant-digits : goal.invariant-digits
invariant-digits l = record {
  digits : list_all (λ d. is_digit d 10) (take l.digit-index l.digits) ≡ true;
  number : l.value ≡ digits_value 10 (take l.digit-index l.digits);
}
