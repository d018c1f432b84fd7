-- The number that a spelling says.
use Rattle.std.specs.Prelude.{ℕ, ◌-◌, Bool, ◌==◌, ◌||◌, ◌&&◌, nat_le, if◌then◌else◌, List, [], ◌∷◌}
use Rattle.std.specs.Prelude.{Option, None, Some}
use Rattle.std.specs.Option.{option_map}
use Rattle.std.specs.Char.{is_digit}
use Rattle.std.specs.List.{list_all}
use Rattle.std.specs.Str.Parse.{digits_value}

-- each byte is a digit of the base; a letter is one in lower and in upper case
abbrev pub are_digits : ℕ → List ℕ → Bool
are_digits base ds = list_all (λ d. is_digit d base) ds

-- the number that these digits of a base write, where it is at most this
abbrev pub digits_number : ℕ → ℕ → List ℕ → Option ℕ
digits_number base most ds =
    if are_digits base ds && nat_le (digits_value base ds) most
    then Some (digits_value base ds) else None

-- the same, of one digit or more
abbrev pub numeral : ℕ → ℕ → List ℕ → Option ℕ
numeral base most [] = None
numeral base most (d ∷ ds) = digits_number base most (d ∷ ds)

-- minus a number, in a word of 32 bits
abbrev pub negative_of : ℕ → ℕ
negative_of n = if n == 0 then 0 else 4294967296 - n

-- what a spelling says that begins with a zero, from the bytes after it: 0 alone, hexadecimal after
-- x or X, binary after b or B, else octal
abbrev pub after_zero : List ℕ → Option ℕ
after_zero [] = Some 0
after_zero (b ∷ bs) =
    if b == 120 || b == 88 then numeral 16 4294967295 bs else
    if b == 98 || b == 66 then numeral 2 4294967295 bs else
    numeral 8 4294967295 (b ∷ bs)

-- the number that a spelling says; None where the spelling is no number, or one past 32 bits
abbrev pub spelled_number : List ℕ → Option ℕ
spelled_number [] = None
spelled_number (b ∷ bs) =
    if b == 45 then option_map negative_of (numeral 10 2147483648 bs) else
    if b == 48 then after_zero bs else
    numeral 10 4294967295 (b ∷ bs)
