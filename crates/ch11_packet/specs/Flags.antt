-- The flags of a packet header (IRIG 106-17 Chapter 11, packet flags).
use Rattle.std.specs.Prelude.{ℕ, ◌^◌, ◌/◌, ◌%◌, ◌==◌, ◌≡◌, Bool, true, false}

-- whether this bit of a word is set
abbrev pub has_bit : ℕ → ℕ → Bool
has_bit word k = word / 2 ^ k % 2 == 1

-- a data checksum of 32 bits stands at the packet's end (bits 1 and 0 are both set; one of them
-- alone is for a checksum of 8 or 16 bits)
pub record HasChecksum (flags : ℕ) : Type 0 where
  pub high : has_bit flags 1 ≡ true
  pub low : has_bit flags 0 ≡ true

-- the packet has no secondary header (bit 7), no times in a secondary header's format (bit 6), and
-- no data checksum, or one of 32 bits (bits 1 and 0 are the same)
pub record IsPlain (flags : ℕ) : Type 0 where
  pub no_secondary_header : has_bit flags 7 ≡ false
  pub no_secondary_times : has_bit flags 6 ≡ false
  pub whole_checksum : has_bit flags 1 ≡ has_bit flags 0
