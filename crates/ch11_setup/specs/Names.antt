-- Names as the values of attributes: what of a text a setup record may hold.
use Rattle.std.specs.Prelude.{ℕ, ◌==◌, ◌&&◌, ◌||◌, not, nat_lt, nat_le, Bool, if◌then◌else◌}
use Rattle.std.specs.Prelude.{List, [], ◌∷◌, ◌++◌, map, filter, take, reverse, codes, decimal}

-- a printable character of ASCII that ends nothing in an attribute
abbrev pub is_plain : ℕ → Bool
is_plain byte =
    nat_le 32 byte && nat_le byte 126 && not (byte == 58) && not (byte == 59) && not (byte == 92)

-- the byte begins a character of UTF-8
abbrev pub begins_character : ℕ → Bool
begins_character byte = nat_lt byte 128 || nat_le 192 byte

-- `_` in place of a character that isn't plain
abbrev pub plain_byte : ℕ → ℕ
plain_byte byte = if is_plain byte then byte else 95

-- each character of a text, in one byte
abbrev pub plain_text : List ℕ → List ℕ
plain_text text = map plain_byte (filter begins_character text)

-- without the blanks ahead
abbrev pub without_blanks : List ℕ → List ℕ
without_blanks [] = []
without_blanks (byte ∷ bytes) = if byte == 32 then without_blanks bytes else byte ∷ bytes

-- without the blanks at both ends
abbrev pub trimmed : List ℕ → List ℕ
trimmed text = reverse (without_blanks (reverse (without_blanks text)))

-- or NONE, where nothing is left
abbrev pub or_none : List ℕ → List ℕ
or_none [] = codes "NONE"
or_none (byte ∷ bytes) = byte ∷ bytes

-- a text as a name of at most 32 characters
abbrev pub cleaned : List ℕ → List ℕ
cleaned text = or_none (take 32 (trimmed (plain_text text)))

-- the name of a channel's data source: the first 24 characters of the channel's name and its number
abbrev pub source_name : (name : List ℕ) (channel : ℕ) → List ℕ
source_name name channel = cleaned (take 24 (cleaned name) ++ (32 ∷ decimal channel))
