-- Numbers at a place of bytes, the lowest byte first, and bytes of 0 that fill 32 bits.
use Rattle.std.specs.Prelude.{ℕ, ◌+◌, ◌-◌, ◌%◌, List, replicate, take, drop}
use Rattle.std.specs.Int.{w16, w32, w64, from_le_bytes}

-- the number of the two bytes at a place
abbrev pub u16_in : List ℕ → ℕ → ℕ
u16_in bytes at = from_le_bytes w16 (take 2 (drop at bytes))

-- the number of the four bytes at a place
abbrev pub u32_in : List ℕ → ℕ → ℕ
u32_in bytes at = from_le_bytes w32 (take 4 (drop at bytes))

-- the number of the eight bytes at a place
abbrev pub u64_in : List ℕ → ℕ → ℕ
u64_in bytes at = from_le_bytes w64 (take 8 (drop at bytes))

-- how many bytes are lacking behind `len` bytes until their number is a multiple of 4
abbrev pub lacking : (len : ℕ) → ℕ
lacking len = (4 - len % 4) % 4

-- as many bytes, of value 0
abbrev pub padding : (len : ℕ) → List ℕ
padding len = replicate (lacking len) 0

-- the number of bytes of `len` bytes and their padding
abbrev pub padded_len : (len : ℕ) → ℕ
padded_len len = len + lacking len
