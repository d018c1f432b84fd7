-- The first part of a cut text, and what stands in front of it.
use Rattle.std.proofs.Common.{ℕ, suc, ◌+◌, ◌≡◌, ◌⊎◌, inl, inr, Bool, true, false, not, cond, List, [], ◌∷◌, take, drop, refl, sym, ◌∙◌, ap, arith, add-zero}
use Rattle.std.proofs.lemmas.Bool.{cases_Bool}
use Rattle.std.proofs.lemmas.List.Recursion.{is_position_or_len}
use Rattle.std.specs.List.{prefix_len, position_or_len}
use Rattle.bpf_insn.specs.Parts.{Part, cut, non_empty, is_empty}

pub take_more : (n b : ℕ) (bs : List ℕ) → take (1 + n) (b ∷ bs) ≡ b ∷ take n bs
take_more n b bs = let e : 1 + n ≡ suc n = omega arith in rw e refl

pub drop_more : (n b : ℕ) (bs : List ℕ) → drop (1 + n) (b ∷ bs) ≡ drop n bs
drop_more n b bs = let e : 1 + n ≡ suc n = omega arith in rw e refl

pub place_more : (at n : ℕ) → at + (1 + n) ≡ at + 1 + n
place_more at n = omega arith

-- what is cut from the place of the first cut on
abbrev pub after_cut : (ℕ → Bool) → ℕ → List ℕ → List Part
after_cut p at [] = []
after_cut p at (b ∷ bs) = cut p (at + 1) bs

cut_is_cons : (p : ℕ → Bool) (at b : ℕ) (bs : List ℕ)
    → cut p (at + 1) bs ≡ record { at = at + 1; bytes = take (position_or_len p bs) bs }
    ∷ after_cut p (at + 1 + position_or_len p bs) (drop (position_or_len p bs) bs)
    → (p b ≡ true) ⊎ (p b ≡ false)
    → cut p at (b ∷ bs) ≡ record { at = at; bytes = take (position_or_len p (b ∷ bs)) (b ∷ bs) }
    ∷ after_cut p (at + position_or_len p (b ∷ bs)) (drop (position_or_len p (b ∷ bs)) (b ∷ bs))
cut_is_cons p at b bs rest (inl e) = rw e (rw add-zero refl)
cut_is_cons p at b bs rest (inr e) = rw e (rw (rest, take_more, drop_more, place_more) refl)

-- a cut text is what stands before the first cut, and the rest cut
pub cut_is : (p : ℕ → Bool) (at : ℕ) (bs : List ℕ)
    → cut p at bs ≡ record { at = at; bytes = take (position_or_len p bs) bs } ∷ after_cut p (at + position_or_len p bs) (drop (position_or_len p bs) bs)
cut_is p at [] = refl
cut_is p at (b ∷ bs) = cut_is_cons p at b bs (cut_is p (at + 1) bs) (cases_Bool (p b))

after_is_cons : (F : List Part → List Part) → ((at : ℕ) (ps : List Part) → F (record { at = at; bytes = [] } ∷ ps) ≡ F ps)
    → (p : ℕ → Bool) (at b : ℕ) (bs : List ℕ)
    → F (after_cut p (at + 1 + position_or_len p bs) (drop (position_or_len p bs) bs))
    ≡ F (cut p (at + 1 + position_or_len p bs) (drop (position_or_len p bs) bs))
    → (p b ≡ true) ⊎ (p b ≡ false)
    → F (after_cut p (at + position_or_len p (b ∷ bs)) (drop (position_or_len p (b ∷ bs)) (b ∷ bs)))
    ≡ F (cut p (at + position_or_len p (b ∷ bs)) (drop (position_or_len p (b ∷ bs)) (b ∷ bs)))
after_is_cons F none p at b bs rest (inl e) = rw e (rw e (sym (none (at + 0) _)))
after_is_cons F none p at b bs rest (inr e) = rw e (rw (drop_more, place_more) rest)

-- where empty parts don't count, the rest may be cut from the first cut on or from after it
pub after_is : (F : List Part → List Part) → ((at : ℕ) (ps : List Part) → F (record { at = at; bytes = [] } ∷ ps) ≡ F ps)
    → (p : ℕ → Bool) (at : ℕ) (bs : List ℕ)
    → F (after_cut p (at + position_or_len p bs) (drop (position_or_len p bs) bs)) ≡ F (cut p (at + position_or_len p bs) (drop (position_or_len p bs) bs))
after_is F none p at [] = sym (none (at + 0) [])
after_is F none p at (b ∷ bs) = after_is_cons F none p at b bs (after_is F none p (at + 1) bs) (cases_Bool (p b))

skip_cons : (F : List Part → List Part) → ((at : ℕ) (ps : List Part) → F (record { at = at; bytes = [] } ∷ ps) ≡ F ps)
    → (p : ℕ → Bool) (at b : ℕ) (bs : List ℕ)
    → F (cut p (at + 1) bs) ≡ F (cut p (at + 1 + prefix_len p bs) (drop (prefix_len p bs) bs))
    → (p b ≡ true) ⊎ (p b ≡ false)
    → F (cut p at (b ∷ bs)) ≡ F (cut p (at + prefix_len p (b ∷ bs)) (drop (prefix_len p (b ∷ bs)) (b ∷ bs)))
skip_cons F none p at b bs rest (inl e) = rw e (rw (none, drop_more, place_more) rest)
skip_cons F none p at b bs rest (inr e) = rw (e, e, add-zero) refl

-- where empty parts don't count, the cuts in front may be passed over
pub skip_cuts : (F : List Part → List Part) → ((at : ℕ) (ps : List Part) → F (record { at = at; bytes = [] } ∷ ps) ≡ F ps)
    → (p : ℕ → Bool) (at : ℕ) (bs : List ℕ)
    → F (cut p at bs) ≡ F (cut p (at + prefix_len p bs) (drop (prefix_len p bs) bs))
skip_cuts F none p at [] = rw add-zero refl
skip_cuts F none p at (b ∷ bs) = skip_cons F none p at b bs (skip_cuts F none p (at + 1) bs) (cases_Bool (p b))

-- no byte that is picked stands in front
abbrev pub NoFront : (ℕ → Bool) → List ℕ → Type 0
NoFront p [] = Unit {0}
NoFront p (b ∷ bs) = p b ≡ false

no_front_cons : (p : ℕ → Bool) (b : ℕ) (bs : List ℕ) → NoFront p (drop (prefix_len p bs) bs) → (p b ≡ true) ⊎ (p b ≡ false)
    → NoFront p (drop (prefix_len p (b ∷ bs)) (b ∷ bs))
no_front_cons p b bs rest (inl e) = rw e (rw drop_more rest)
no_front_cons p b bs rest (inr e) = rw e e

-- none is left once they are passed over
pub no_front : (p : ℕ → Bool) (bs : List ℕ) → NoFront p (drop (prefix_len p bs) bs)
no_front p [] = tt
no_front p (b ∷ bs) = no_front_cons p b bs (no_front p bs) (cases_Bool (p b))

-- a part with a byte counts
pub filled_some : (part : Part) (ps : List Part) → is_empty part.bytes ≡ false → non_empty (part ∷ ps) ≡ part ∷ non_empty ps
filled_some part ps e = rw e refl

-- what stands before the first cut has a byte where no cut stands in front
pub front_some : (p : ℕ → Bool) (b : ℕ) (bs : List ℕ) → p b ≡ false → is_empty (take (position_or_len p (b ∷ bs)) (b ∷ bs)) ≡ false
front_some p b bs e = rw e (rw take_more refl)

pub part_same : (p q : Part) → p.at ≡ q.at → p.bytes ≡ q.bytes → p ≡ q
part_same p q at bytes = ap (λ a. record { at = a; bytes = p.bytes }) at ∙ ap (λ b. record { at = q.at; bytes = b }) bytes

-- the first part of a text by what the code knows of it: its front is passed over, and it ends
-- before the next cut
pub first_part : (F : ℕ → List ℕ → List Part) (trim : List ℕ → List ℕ) (front cuts : ℕ → Bool)
    (at n m : ℕ) (bs : List ℕ) (rest part after : Part)
    → n ≡ prefix_len front bs → rest.at ≡ at + n → rest.bytes ≡ drop n bs
    → m ≡ position_or_len cuts rest.bytes → part.at ≡ rest.at → part.bytes ≡ trim (take m rest.bytes)
    → after.at ≡ rest.at + m → after.bytes ≡ drop m rest.bytes
    → F at bs ≡ record {
      at = at + prefix_len front bs;
      bytes = trim
          (take (position_or_len cuts (drop (prefix_len front bs) bs)) (drop (prefix_len front bs) bs));
    }
    ∷ F (at + prefix_len front bs + position_or_len cuts (drop (prefix_len front bs) bs))
    (drop (position_or_len cuts (drop (prefix_len front bs) bs)) (drop (prefix_len front bs) bs))
    → F at bs ≡ part ∷ F after.at after.bytes
first_part F trim front cuts at n m bs rest part after n_is rest_at rest_is m_is part_at part_bytes after_at after_bytes whole =
    let passed = prefix_len front bs in
    let left : List ℕ = drop passed bs in
    let left_is : rest.bytes ≡ left = rest_is ∙ ap (λ k. drop k bs) n_is in
    let left_at : rest.at ≡ at + passed = rest_at ∙ ap (λ k. at + k) n_is in
    let long : m ≡ position_or_len cuts left = m_is ∙ ap (λ xs. position_or_len cuts xs) left_is in
    let bytes_are : part.bytes ≡ trim (take (position_or_len cuts left) left) =
    part_bytes ∙ ap trim (ap (λ xs. take m xs) left_is ∙ ap (λ k. take k left) long) in
    let same : part ≡ record { at = at + passed; bytes = trim (take (position_or_len cuts left) left) } = part_same _ _ (part_at ∙ left_at) bytes_are in
    let end_at : after.at ≡ at + passed + position_or_len cuts left = after_at ∙ (ap (λ a. a + m) left_at ∙ ap (λ k. at + passed + k) long) in
    let end_is : after.bytes ≡ drop (position_or_len cuts left) left = after_bytes ∙ (ap (λ xs. drop m xs) left_is ∙ ap (λ k. drop k left) long) in
    rw (same, end_at, end_is) whole

-- what stands before the first picked byte is what isn't picked
pub front_is_position : (p : ℕ → Bool) (bs : List ℕ) → prefix_len (λ b. not (p b)) bs ≡ position_or_len p bs
front_is_position p = is_position_or_len (prefix_len (λ b. not (p b))) p refl (λ b bs. front_step b bs (cases_Bool (p b))) where
  front_step : (b : ℕ) (bs : List ℕ) → (p b ≡ true) ⊎ (p b ≡ false)
      → prefix_len (λ b. not (p b)) (b ∷ bs) ≡ cond (p b) 0 (1 + prefix_len (λ b. not (p b)) bs)
  front_step b bs (inl e) = rw e refl
  front_step b bs (inr e) = rw e refl
