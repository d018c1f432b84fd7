-- The bytes of blocks hold these blocks.
use Rattle.std.proofs.Common.{◌≡◌, ℕ, ◌+◌, ◌*◌, ◌/◌, ◌%◌, ◌^◌, ◌<◌, ◌≤◌, inl, inr, List, [], ◌∷◌, ◌++◌, length, take, drop, refl, sym, ap, subst, ◌∙◌, arith}
use Rattle.std.specs.Prelude.{◌-◌}
use Rattle.std.specs.Int.{w16, w32, to_le_bytes}
use Rattle.std.specs.List.{flat_map}
use Rattle.std.proofs.lemmas.Nat.{from_le_bytes-to_le_bytes_2, from_le_bytes-to_le_bytes_4}
use Rattle.std.proofs.lemmas.List.{append_assoc, length-append, length-replicate}
use Rattle.std.proofs.lemmas.List.Concat.{flat_map-cons}
use Rattle.std.proofs.Math.Seq.{drop-append_seam, drop-append-add, take-append_seam}
use Rattle.pcapng_blocks.specs.Bytes.{u32_in, lacking, padding, padded_len}
use Rattle.pcapng_blocks.specs.Options.{OptionData, IsOption, AreOptions, option_bytes, options_bytes, end_of_options}
use Rattle.pcapng_blocks.specs.Blocks.{InterfaceData, CapturedData, BlockData, framed, section_body, interface_body, packet_body, block_bytes}
use Rattle.pcapng_blocks.specs.Blocks.{blocks_bytes, IsBlock, AreBlocks}
use Rattle.pcapng_blocks.specs.Blocks.BlockData.{OfSection, OfInterface, OfPacket}
use Rattle.pcapng_blocks.specs.Reading.{HoldsOptions, HoldsBody, BlockStandsFirst, HoldsBlocks}

-- ---- bytes and their padding

length-padding : (n : ℕ) → length (padding n) ≡ lacking n
length-padding n = length-replicate {A = ℕ} (lacking n) 0

-- what stands behind bytes and their padding
behind : (value more : List ℕ) → drop (padded_len (length value)) (value ++ (padding (length value) ++ more)) ≡ more
behind value more =
    let n = length value in
    drop-append-add value (padding n ++ more) (lacking n)
    ∙ ap (λ k. drop k (padding n ++ more)) (sym (length-padding n))
    ∙ drop-append_seam (padding n) more

-- ---- options

-- an option's head and what follows
option_and : (option : OptionData) (more : List ℕ)
    → option_bytes option ++ more
    ≡ to_le_bytes w16 option.code ++ to_le_bytes w16 (length option.value) ++ (option.value ++ (padding (length option.value) ++ more))
option_and option more =
    ap (λ l. to_le_bytes w16 option.code ++ to_le_bytes w16 (length option.value) ++ l) (append_assoc option.value (padding (length option.value)) more)

holds_option : (option : OptionData) (options : List OptionData) (more : List ℕ) → IsOption option → HoldsOptions more options
    → HoldsOptions (to_le_bytes w16 option.code ++ to_le_bytes w16 (length option.value) ++ (option.value ++ (padding (length option.value) ++ more)))
    (option ∷ options)
holds_option option options more is holds =
    let value = option.value in
    let len = from_le_bytes-to_le_bytes_2 (length value) is.value in
    let rest = value ++ (padding (length value) ++ more) in (
      omega arith,
      from_le_bytes-to_le_bytes_2 option.code is.code,
      is.not_end,
      len,
      ap (λ n. take n rest) len ∙ take-append_seam value (padding (length value) ++ more),
      subst (λ l. HoldsOptions l options) (sym (ap (λ n. drop (4 + padded_len n) (to_le_bytes w16 option.code ++ to_le_bytes w16 (length value) ++ rest)) len
          ∙ drop_four _ _ _ _ rest (padded_len (length value)) ∙ behind value more)) holds,
    )
  where
    drop_four : (a b c d : ℕ) (l : List ℕ) (n : ℕ) → drop (4 + n) (a ∷ b ∷ c ∷ d ∷ l) ≡ drop n l
    drop_four a b c d l n = drop-append-add (a ∷ b ∷ c ∷ d ∷ []) l n

holds_list : (options : List OptionData) → AreOptions options → HoldsOptions (flat_map option_bytes options ++ end_of_options) options
holds_list [] are = inr (omega arith, refl)
holds_list (option ∷ options) are =
    let rest = flat_map option_bytes options ++ end_of_options in
    subst (λ l. HoldsOptions l (option ∷ options))
    (sym (ap (λ l. l ++ end_of_options) (flat_map-cons option_bytes option options)
    ∙ append_assoc (option_bytes option) (flat_map option_bytes options) end_of_options
    ∙ option_and option rest))
    (holds_option option options rest are.0 (holds_list options are.1))

holds_options : (options : List OptionData) → AreOptions options → HoldsOptions (options_bytes options) options
holds_options [] are = inl refl
holds_options (option ∷ options) are = holds_list (option ∷ options) are

-- ---- lengths

length-option_bytes : (option : OptionData) → length (option_bytes option) ≡ 4 + padded_len (length option.value)
length-option_bytes option =
    let all = length-append option.value (padding (length option.value)) in
    let zeros = length-padding (length option.value) in
    omega (arith, all, zeros)

fills : (n : ℕ) → padded_len n % 4 ≡ 0
fills n = omega arith

aligned_list : (options : List OptionData) → length (flat_map option_bytes options) % 4 ≡ 0
aligned_list [] = refl
aligned_list (option ∷ options) =
    let parts = ap (λ (l : List ℕ). length l) (flat_map-cons option_bytes option options) ∙ length-append (option_bytes option)
    (flat_map option_bytes options) in
    let first = length-option_bytes option in
    let filled = fills (length option.value) in
    let rest = aligned_list options in
    omega (arith, parts, first, filled, rest)

aligned_options : (options : List OptionData) → length (options_bytes options) % 4 ≡ 0
aligned_options [] = refl
aligned_options (option ∷ options) =
    let parts = length-append (flat_map option_bytes (option ∷ options)) end_of_options in
    let first = aligned_list (option ∷ options) in
    omega (arith, parts, first)

aligned_packet : (packet : CapturedData) → length (packet_body packet) % 4 ≡ 0
aligned_packet packet =
    let bytes = packet.bytes in
    let all = length-append bytes (padding (length bytes) ++ options_bytes packet.options) in
    let more = length-append (padding (length bytes)) (options_bytes packet.options) in
    let zeros = length-padding (length bytes) in
    let filled = fills (length bytes) in
    let options = aligned_options packet.options in
    omega (arith, all, more, zeros, filled, options)

-- ---- bodies

holds_section : HoldsBody 168627466 section_body OfSection
holds_section = (refl, refl, refl, refl, refl, inl refl)

holds_interface : (interface : InterfaceData) → interface.link_type < 2 ^ 16 → interface.snap_len < 2 ^ 32 → AreOptions interface.options
    → HoldsBody 1 (interface_body interface) (OfInterface interface)
holds_interface interface link snap are = (
  refl,
  from_le_bytes-to_le_bytes_2 interface.link_type link,
  from_le_bytes-to_le_bytes_4 interface.snap_len snap,
  holds_options interface.options are,
)

holds_packet : (packet : CapturedData) → packet.interface < 2 ^ 32 → packet.time < 2 ^ 64 → length packet.bytes < 2 ^ 32 → AreOptions packet.options
    → HoldsBody 6 (packet_body packet) (OfPacket packet)
holds_packet packet interface time few are =
    let bytes = packet.bytes in
    let rest = bytes ++ (padding (length bytes) ++ options_bytes packet.options) in
    let high = from_le_bytes-to_le_bytes_4 (packet.time / 2 ^ 32) (omega (arith, time)) in
    let low = from_le_bytes-to_le_bytes_4 (packet.time % 2 ^ 32) (omega arith) in
    let len = from_le_bytes-to_le_bytes_4 (length bytes) few in
    let head = to_le_bytes w32 packet.interface ++ (to_le_bytes w32 (packet.time / 2 ^ 32) ++ (to_le_bytes w32 (packet.time % 2 ^ 32)
    ++ (to_le_bytes w32 (length bytes) ++ to_le_bytes w32 (length bytes)))) in (
      refl,
      from_le_bytes-to_le_bytes_4 packet.interface interface,
      ap (λ n. n * 2 ^ 32 + u32_in (packet_body packet) 8) high ∙ ap (λ n. packet.time / 2 ^ 32 * 2 ^ 32 + n) low ∙ halves packet.time,
      len,
      len,
      ap (λ n. take n rest) len ∙ take-append_seam bytes (padding (length bytes) ++ options_bytes packet.options),
      subst (λ l. HoldsOptions l packet.options) (sym (ap (λ n. drop (20 + padded_len n) (packet_body packet)) len
          ∙ drop-append-add head rest (padded_len (length bytes)) ∙ behind bytes (options_bytes packet.options))) (holds_options packet.options are),
    )
  where
    halves : (n : ℕ) → n / 2 ^ 32 * 2 ^ 32 + n % 2 ^ 32 ≡ n
    halves n = omega arith

-- ---- blocks

-- the frame of a block, and what follows it
record Framed (kind : ℕ) (body more bytes : List ℕ) : Type 0 where
  pub kind_is : u32_in bytes 0 ≡ kind
  pub len_is : u32_in bytes 4 ≡ length body + 12
  pub body_is : take (u32_in bytes 4 - 12) (drop 8 bytes) ≡ body
  pub again_is : u32_in bytes (u32_in bytes 4 - 4) ≡ u32_in bytes 4
  pub whole : u32_in bytes 4 ≤ length bytes
  pub rest_is : drop (u32_in bytes 4) bytes ≡ more

is_framed : (kind : ℕ) (body more : List ℕ) → kind < 2 ^ 32 → length body + 12 < 2 ^ 32 → Framed kind body more (framed kind body ++ more)
is_framed kind body more small few =
    let n = length body in
    let len = to_le_bytes w32 (n + 12) in
    let bytes = to_le_bytes w32 kind ++ to_le_bytes w32 (n + 12) ++ (body ++ (len ++ more)) in
    let head = to_le_bytes w32 kind ++ to_le_bytes w32 (n + 12) in
    let whole : framed kind body ++ more ≡ bytes = ap (λ l. to_le_bytes w32 kind ++ to_le_bytes w32 (n + 12) ++ l) (append_assoc body len more) in
    let is = from_le_bytes-to_le_bytes_4 (n + 12) few in
    let sums = length-append body (len ++ more) in
    subst (λ l. Framed kind body more l) (sym whole) (record {
      kind_is = from_le_bytes-to_le_bytes_4 kind small;
      len_is = is;
      body_is =
          ap (λ k. take (k - 12) (body ++ (len ++ more))) is ∙ ap (λ k. take k (body ++ (len ++ more))) (same n) ∙ take-append_seam body (len ++ more);
      again_is =
          ap (λ k. u32_in bytes (k - 4)) is ∙ ap (λ k. u32_in bytes k) (eight n)
          ∙ ap (λ l. u32_in l 0) (drop-append-add head (body ++ (len ++ more)) n ∙ drop-append_seam body (len ++ more))
          ∙ is ∙ sym is;
      whole = omega (arith, is, sums);
      rest_is =
          ap (λ k. drop k bytes) is ∙ ap (λ k. drop k bytes) (twelve n)
          ∙ drop-append-add head (body ++ (len ++ more)) (n + 4) ∙ drop-append-add body (len ++ more) 4;
    })
  where
    same : (n : ℕ) → n + 12 - 12 ≡ n
    same n = omega arith

    eight : (n : ℕ) → n + 12 - 4 ≡ 8 + n
    eight n = omega arith

    twelve : (n : ℕ) → n + 12 ≡ 8 + (n + 4)
    twelve n = omega arith

stands_first : (kind : ℕ) (body more bytes : List ℕ) (block : BlockData) → Framed kind body more bytes → length body % 4 ≡ 0
    → HoldsBody kind body block → BlockStandsFirst bytes block
stands_first kind body more bytes block framed aligned holds =
    let len = framed.len_is in
    record {
      least = omega (arith, len);
      aligned = omega (arith, len, aligned);
      whole = framed.whole;
      again = framed.again_is;
      body =
          subst (λ k. HoldsBody k (take (u32_in bytes 4 - 12) (drop 8 bytes)) block) (sym framed.kind_is)
          (subst (λ l. HoldsBody kind l block) (sym framed.body_is) holds);
    }

block_first : (block : BlockData) (more : List ℕ) → IsBlock block
    → BlockStandsFirst (block_bytes block ++ more) block × (drop (u32_in (block_bytes block ++ more) 4) (block_bytes block ++ more) ≡ more)
block_first OfSection more is =
    let it = is_framed 168627466 section_body more (omega arith) (omega arith) in
    (stands_first _ _ _ _ OfSection it refl holds_section, it.rest_is)
block_first (OfInterface interface) more is =
    let it = is_framed 1 (interface_body interface) more (omega arith) is.3 in
    let options = aligned_options interface.options in
    (stands_first _ _ _ _ (OfInterface interface) it (omega (arith, options)) (holds_interface interface is.0 is.1 is.2), it.rest_is)
block_first (OfPacket packet) more is =
    let it = is_framed 6 (packet_body packet) more (omega arith) is.3 in
    let few = is.3 in
    let all = length-append packet.bytes (padding (length packet.bytes) ++ options_bytes packet.options) in
    (stands_first _ _ _ _ (OfPacket packet) it (aligned_packet packet) (holds_packet packet is.0 is.1 (omega (arith, few, all)) is.2), it.rest_is)

pub read_back : (blocks : List BlockData) → AreBlocks blocks → HoldsBlocks (blocks_bytes blocks) blocks
read_back [] are = refl
read_back (block ∷ blocks) are =
    subst (λ l. HoldsBlocks l (block ∷ blocks)) (sym (flat_map-cons block_bytes block blocks))
    (let first = block_first block (blocks_bytes blocks) are.0 in
    (first.0, subst (λ l. HoldsBlocks l blocks) (sym first.1) (read_back blocks are.1)))
