-- The two profiles in which recordings are written. What is written now is the second; both are
-- read.
use Rattle.std.specs.Prelude.{ℕ}

-- what stands behind the filler of each packet: nothing in the first profile, a data checksum of 32
-- bits in the second
pub data Profile : Type 0 where
  WithoutSum : Profile
  WithSum : Profile

-- the flags of a packet that is written: for a data checksum of 32 bits both bit 1 and bit 0
abbrev pub profile_flags : Profile → ℕ
profile_flags WithoutSum = 0
profile_flags WithSum = 3
