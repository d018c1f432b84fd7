-- Bits of masks.
use Rattle.std.proofs.Common.{ℕ, suc, zero, ◌*◌, ◌^◌, ◌%◌, ◌<◌, ◌≡◌, ◌⊎◌, ◌↔◌, inl, inr, refl, sym, ◌∙◌, subst, List, length, arith, min, bit_and, bit_or}
use Rattle.std.proofs.lemmas.Nat.Bits.{bit_at_set_same, bit_at_set_other, bit_at_and}
use Rattle.std.specs.Int.{bit_at, w16}
use Rattle.std.specs.Prelude.{slice_index, slice_set}
use Rattle.std.proofs.lemmas.List.{get_or-set_same}
use Rattle.bpf_verify.specs.Masks.{IsClear}

-- setting the bit k clears no other and sets that one
pub clear_set : (mask k w : ℕ) → k < 16 → (bit_at (bit_or mask (1 * 2 ^ k % 2 ^ 16)) w ≡ 0) ↔ ((bit_at mask w ≡ 0) × (w ≡ k → ⊥))
clear_set mask k w h =
    let set = bit_or mask (1 * 2 ^ k % 2 ^ 16) in
    let ne : bit_at set w ≡ 0 → w ≡ k → ⊥ = λ z e.
    let bad : 1 ≡ 0 = sym (bit_at_set_same w16 mask k h) ∙ subst (λ j. bit_at set j ≡ 0) e z in absurd (omega (arith, bad)) in (
      λ z. (sym (bit_at_set_other w16 mask k h w (ne z)) ∙ z, ne z),
      λ p. bit_at_set_other w16 mask k h w p.1 ∙ p.0,
    )

min_zero : (a b : ℕ) → (min a b ≡ 0) ↔ ((a ≡ 0) ⊎ (b ≡ 0))
min_zero zero b = (λ z. inl refl, λ s. omega arith)
min_zero (suc a) zero = (λ z. inr refl, λ s. omega arith)
min_zero (suc a) (suc b) = (
  λ z. absurd (omega (arith, z)),
  λ s. elim s
      as (λ _. min (suc a) (suc b) ≡ 0) [ inl e ↦ absurd (omega (arith, e)) | inr e ↦ absurd (omega (arith, e)) ],
)

-- a bit of a conjunction is clear where it is in one of the two
pub clear_and : (a b w : ℕ) → (bit_at (bit_and a b) w ≡ 0) ↔ ((bit_at a w ≡ 0) ⊎ (bit_at b w ≡ 0))
clear_and a b w =
    let both = min_zero (bit_at a w) (bit_at b w) in
    (λ z. both.0 (sym (bit_at_and a b w) ∙ z), λ s. bit_at_and a b w ∙ both.1 s)

-- a mask that is narrowed at a place: a bit is clear there where it was, or is in the other mask
pub narrowed : (masks : List ℕ) (to mask word : ℕ) → to < length masks
    → IsClear (slice_index (slice_set masks to (bit_and (slice_index masks to) mask)) to) word ↔ (IsClear (slice_index masks to) word ⊎ IsClear mask word)
narrowed masks to mask word room =
    let new = get_or-set_same masks to (bit_and (slice_index masks to) mask) 0 room in
    subst (λ m. IsClear m word ↔ (IsClear (slice_index masks to) word ⊎ IsClear mask word)) (sym new) (clear_and (slice_index masks to) mask word)
