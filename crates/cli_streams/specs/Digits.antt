-- What a word of decimal digits says.
use Rattle.std.specs.Prelude.{ℕ, ◌≡◌, ◌+◌, ◌-◌, ◌*◌, ◌^◌, ◌<◌, ◌≤◌, List, [], ◌∷◌, length}

-- each byte is a decimal digit, from 48 for 0 to 57 for 9
abbrev pub AreDecimalDigits : List ℕ → Type 0
AreDecimalDigits [] = Unit {0}
AreDecimalDigits (byte ∷ bytes) = ((48 ≤ byte) × (byte ≤ 57)) × AreDecimalDigits bytes

-- the number that digits write: each counts ten times as much as the one behind it
abbrev pub number_written : List ℕ → ℕ
number_written [] = 0
number_written (byte ∷ bytes) = (byte - 48) * 10 ^ length bytes + number_written bytes

-- a word says this number: it is one decimal digit or more, and nothing else
pub record SaysNumber (word : List ℕ) (number : ℕ) : Type 0 where
  pub some : 0 < length word
  pub digits : AreDecimalDigits word
  pub value : number_written word ≡ number
