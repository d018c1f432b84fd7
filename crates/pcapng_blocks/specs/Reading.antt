-- Which blocks bytes hold, as a reader of pcapng finds them: by numbers at places, without the
-- words by which blocks are written.
use Rattle.std.specs.Prelude.{ℕ, ◌≡◌, ◌≢◌, ◌+◌, ◌-◌, ◌*◌, ◌%◌, ◌≤◌, ◌⊎◌, ◌^◌, List, [], ◌∷◌, length}
use Rattle.std.specs.Prelude.{take, drop}
use Rattle.pcapng_blocks.specs.Bytes.{u16_in, u32_in, u64_in, padded_len}
use Rattle.pcapng_blocks.specs.Options.{OptionData}
use Rattle.pcapng_blocks.specs.Blocks.{BlockData}
use Rattle.pcapng_blocks.specs.Blocks.BlockData.{OfSection, OfInterface, OfPacket}

-- the bytes are these options: an option is its code, which isn't 0, its length, and as many bytes
-- as that says; the next one follows where a multiple of 4 bytes is full. They end with the bytes,
-- or where the code is 0
abbrev pub HoldsOptions : (bytes : List ℕ) → List OptionData → Type 0
HoldsOptions bytes [] = (bytes ≡ []) ⊎ ((4 ≤ length bytes) × (u16_in bytes 0 ≡ 0))
HoldsOptions bytes (option ∷ options) =
    (4 ≤ length bytes) × (u16_in bytes 0 ≡ option.code) × (option.code ≢ 0)
    × (u16_in bytes 2 ≡ length option.value)
    × (take (u16_in bytes 2) (drop 4 bytes) ≡ option.value)
    × HoldsOptions (drop (4 + padded_len (u16_in bytes 2)) bytes) options

-- a body of this type is this block's
abbrev pub HoldsBody : (kind : ℕ) (body : List ℕ) → BlockData → Type 0
HoldsBody kind body OfSection =
    (kind ≡ 168627466) × (u32_in body 0 ≡ 439041101) × (u16_in body 4 ≡ 1) × (u16_in body 6 ≡ 0)
    × (u64_in body 8 ≡ 2 ^ 64 - 1) × HoldsOptions (drop 16 body) []
HoldsBody kind body (OfInterface interface) =
    (kind ≡ 1) × (u16_in body 0 ≡ interface.link_type) × (u32_in body 4 ≡ interface.snap_len)
    × HoldsOptions (drop 8 body) interface.options
HoldsBody kind body (OfPacket packet) =
    (kind ≡ 6) × (u32_in body 0 ≡ packet.interface)
    × (u32_in body 4 * 2 ^ 32 + u32_in body 8 ≡ packet.time)
    × (u32_in body 12 ≡ length packet.bytes) × (u32_in body 16 ≡ length packet.bytes)
    × (take (u32_in body 12) (drop 20 body) ≡ packet.bytes)
    × HoldsOptions (drop (20 + padded_len (u32_in body 12)) body) packet.options

-- a block stands first: its type, its total length, a multiple of 4 of at least 12 bytes, which are
-- there, its body, and its total length again
pub record BlockStandsFirst (bytes : List ℕ) (block : BlockData) : Type 0 where
  pub least : 12 ≤ u32_in bytes 4
  pub aligned : u32_in bytes 4 % 4 ≡ 0
  pub whole : u32_in bytes 4 ≤ length bytes
  pub again : u32_in bytes (u32_in bytes 4 - 4) ≡ u32_in bytes 4
  pub body : HoldsBody (u32_in bytes 0) (take (u32_in bytes 4 - 12) (drop 8 bytes)) block

-- the bytes are these blocks, one after the other
abbrev pub HoldsBlocks : (bytes : List ℕ) → List BlockData → Type 0
HoldsBlocks bytes [] = bytes ≡ []
HoldsBlocks bytes (block ∷ blocks) =
    BlockStandsFirst bytes block × HoldsBlocks (drop (u32_in bytes 4) bytes) blocks
