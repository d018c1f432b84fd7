-- Bytes hold one list of blocks at most.
use Rattle.std.proofs.Common.{◌≡◌, ℕ, ◌+◌, inl, inr, List, [], ◌∷◌, length, take, drop, refl, sym, ap, ◌∙◌, arith}
use Rattle.std.specs.Prelude.{◌-◌}
use Rattle.pcapng_blocks.specs.Bytes.{u16_in, u32_in, padded_len}
use Rattle.pcapng_blocks.specs.Options.{OptionData, option_of}
use Rattle.pcapng_blocks.specs.Blocks.{BlockData}
use Rattle.pcapng_blocks.specs.Blocks.BlockData.{OfSection, OfInterface, OfPacket}
use Rattle.pcapng_blocks.specs.Reading.{HoldsOptions, HoldsBody, BlockStandsFirst, HoldsBlocks}

same_option : (code other : ℕ) (value its : List ℕ) → code ≡ other → value ≡ its → option_of code value ≡ option_of other its
same_option code other value its c v = cc

one_options : (bytes : List ℕ) (options others : List OptionData) → HoldsOptions bytes options → HoldsOptions bytes others → options ≡ others
one_options bytes [] [] holds also = refl
one_options bytes [] (other ∷ others) (inl none) also =
    let len = ap (λ (l : List ℕ). length l) none in
    let four = also.0 in
    absurd (omega (arith, len, four))
one_options bytes [] (other ∷ others) (inr end) also = absurd (also.2 (sym also.1 ∙ end.1))
one_options bytes (option ∷ options) [] holds (inl none) =
    let len = ap (λ (l : List ℕ). length l) none in
    let four = holds.0 in
    absurd (omega (arith, len, four))
one_options bytes (option ∷ options) [] holds (inr end) = absurd (holds.2 (sym holds.1 ∙ end.1))
one_options bytes (option ∷ options) (other ∷ others) holds also =
    ap (λ o. o ∷ options) (same_option option.code other.code option.value other.value (sym holds.1 ∙ also.1) (sym holds.4 ∙ also.4))
    ∙ ap (λ l. other ∷ l) (one_options (drop (4 + padded_len (u16_in bytes 2)) bytes) options others holds.5 also.5)

same_interface : (link other snap its : ℕ) (options others : List OptionData) → link ≡ other → snap ≡ its → options ≡ others
    → OfInterface (record { link_type = link; snap_len = snap; options = options }) ≡ OfInterface
    (record { link_type = other; snap_len = its; options = others })
same_interface link other snap its options others l s o = cc

same_packet : (interface other time its : ℕ) (bytes more : List ℕ) (options others : List OptionData) → interface ≡ other → time ≡ its → bytes ≡ more
    → options ≡ others
    → OfPacket (record { interface = interface; time = time; bytes = bytes; options = options })
    ≡ OfPacket (record { interface = other; time = its; bytes = more; options = others })
same_packet interface other time its bytes more options others i t b o = cc

one_body : (kind : ℕ) (body : List ℕ) (block other : BlockData) → HoldsBody kind body block → HoldsBody kind body other → block ≡ other
one_body kind body OfSection OfSection holds also = refl
one_body kind body OfSection (OfInterface i) holds also = let a = holds.0 in let b = also.0 in absurd (omega (arith, a, b))
one_body kind body OfSection (OfPacket p) holds also = let a = holds.0 in let b = also.0 in absurd (omega (arith, a, b))
one_body kind body (OfInterface i) OfSection holds also = let a = holds.0 in let b = also.0 in absurd (omega (arith, a, b))
one_body kind body (OfInterface i) (OfInterface j) holds also =
    same_interface i.link_type j.link_type i.snap_len j.snap_len i.options j.options (sym holds.1 ∙ also.1) (sym holds.2 ∙ also.2)
    (one_options (drop 8 body) i.options j.options holds.3 also.3)
one_body kind body (OfInterface i) (OfPacket p) holds also = let a = holds.0 in let b = also.0 in absurd (omega (arith, a, b))
one_body kind body (OfPacket p) OfSection holds also = let a = holds.0 in let b = also.0 in absurd (omega (arith, a, b))
one_body kind body (OfPacket p) (OfInterface i) holds also = let a = holds.0 in let b = also.0 in absurd (omega (arith, a, b))
one_body kind body (OfPacket p) (OfPacket q) holds also =
    same_packet p.interface q.interface p.time q.time p.bytes q.bytes p.options q.options (sym holds.1 ∙ also.1) (sym holds.2 ∙ also.2)
    (sym holds.5 ∙ also.5) (one_options (drop (20 + padded_len (u32_in body 12)) body) p.options q.options holds.6 also.6)

empty_has_none : (bytes : List ℕ) (block : BlockData) → bytes ≡ [] → BlockStandsFirst bytes block → ⊥
empty_has_none bytes block none stands =
    let len = ap (λ (l : List ℕ). length l) none in
    let least = stands.least in
    let whole = stands.whole in
    omega (arith, len, least, whole)

pub one_reading : (bytes : List ℕ) (blocks others : List BlockData) → HoldsBlocks bytes blocks → HoldsBlocks bytes others → blocks ≡ others
one_reading bytes [] [] holds also = refl
one_reading bytes [] (other ∷ others) holds also = absurd (empty_has_none bytes other holds also.0)
one_reading bytes (block ∷ blocks) [] holds also = absurd (empty_has_none bytes block also holds.0)
one_reading bytes (block ∷ blocks) (other ∷ others) holds also =
    ap (λ b. b ∷ blocks) (one_body (u32_in bytes 0) (take (u32_in bytes 4 - 12) (drop 8 bytes)) block other holds.0.body also.0.body)
    ∙ ap (λ l. other ∷ l) (one_reading (drop (u32_in bytes 4) bytes) blocks others holds.1 also.1)
