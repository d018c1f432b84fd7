-- The sum of a packet's data checksum (IRIG 106-17 Chapter 11, packet trailer, 32-bit data
-- checksum): of the words between the header and the checksum, the filler among them.
use Rattle.std.specs.Prelude.{ℕ, ◌-◌, ◌%◌, ◌^◌, List, [], ◌∷◌, ◌++◌, length, replicate, sum}
use Rattle.std.specs.Int.{w32, from_le_bytes, next_multiple_of}

-- the words of these bytes: the numbers of each four of them, the lowest byte first
abbrev pub long_words : List ℕ → List ℕ
long_words (b0 ∷ b1 ∷ b2 ∷ b3 ∷ rest) =
    from_le_bytes w32 (b0 ∷ b1 ∷ b2 ∷ b3 ∷ []) ∷ long_words rest
long_words rest = []

-- the fewest zero bytes that make whole words of `len` bytes
abbrev pub word_filler : ℕ → List ℕ
word_filler len = replicate (next_multiple_of len 4 - len) 0

-- the sum of the words of these bytes with that filler, modulo 2^32
unfoldable pub body_sum : List ℕ → ℕ
body_sum bytes = sum (long_words (bytes ++ word_filler (length bytes))) % 2 ^ 32
