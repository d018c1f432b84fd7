-- The first piece of a listing.
use Rattle.std.proofs.Common.{ℕ, suc, ◌+◌, ◌-◌, ◌<◌, ◌≤◌, ◌≡◌, ◌⊎◌, inl, inr, Bool, true, false, ◌||◌, List, [], ◌∷◌, ◌++◌}
use Rattle.std.proofs.Common.{length, take, drop, reverse, map, refl, sym, ◌∙◌, ap, arith, add-zero, eqb, if◌then◌else◌}
use Rattle.std.proofs.lemmas.Bool.{cases_Bool}
use Rattle.std.proofs.lemmas.List.{reverse-append, length-reverse}
use Rattle.std.proofs.lemmas.List.Folds.{prefix_len-append}
use Rattle.std.proofs.lemmas.List.Sums.{prefix_len-le-length}
use Rattle.std.specs.List.{prefix_len, position_or_len, suffix_len}
use Rattle.bpf_insn.specs.Parts.{Part, cut, with_byte, non_empty, without_ends, without_end, is_empty}
use Rattle.bpf_insn.specs.Listing.{pieces_from, is_separator, is_padding}
use Rattle.bpf_insn.proofs.ListingCuts.{first_part, after_cut, after_is, cut_is, NoFront, no_front, filled_some, drop_more, take_more, place_more}

abbrev pub in_gap : ℕ → Bool
in_gap b = is_separator b || is_padding b

abbrev pieces_of : List Part → List Part
pieces_of parts = non_empty (map (without_ends is_padding) parts)

none : (at : ℕ) (ps : List Part) → pieces_of (record { at = at; bytes = [] } ∷ ps) ≡ pieces_of ps
none at ps = refl

trimmed_more : (at b : ℕ) (bs : List ℕ) → is_padding b ≡ true
    → without_ends is_padding (record { at = at; bytes = b ∷ bs }) ≡ without_ends is_padding (record { at = at + 1; bytes = bs })
trimmed_more at b bs e = rw e (rw (drop_more, place_more) refl)

-- a padding byte in front of the first part makes no difference
pad_front : (at b : ℕ) (bs : List ℕ) → is_padding b ≡ true → pieces_of (with_byte at b (cut is_separator (at + 1) bs))
    ≡ pieces_of (cut is_separator (at + 1) bs)
pad_front at b bs e =
    let n = position_or_len is_separator bs in
    let rest = after_cut is_separator (at + 1 + n) (drop n bs) in
    let whole = cut_is is_separator (at + 1) bs in
    ap (λ ps. pieces_of (with_byte at b ps)) whole ∙ (ap (λ t. non_empty (t ∷ map (without_ends is_padding) rest)) (trimmed_more at b (take n bs) e)
    ∙ ap pieces_of (sym whole))

one_gap : (at b : ℕ) (bs : List ℕ) → in_gap b ≡ true → (is_separator b ≡ true) ⊎ (is_separator b ≡ false) → pieces_from at (b ∷ bs) ≡ pieces_from (at + 1) bs
one_gap at b bs e (inl separator) = rw separator refl
one_gap at b bs e (inr other) = rw other (pad_front at b bs (rw other at e))

skip_cons : (at b : ℕ) (bs : List ℕ) → pieces_from (at + 1) bs ≡ pieces_from (at + 1 + prefix_len in_gap bs) (drop (prefix_len in_gap bs) bs)
    → (in_gap b ≡ true) ⊎ (in_gap b ≡ false)
    → pieces_from at (b ∷ bs) ≡ pieces_from (at + prefix_len in_gap (b ∷ bs)) (drop (prefix_len in_gap (b ∷ bs)) (b ∷ bs))
skip_cons at b bs rest (inl e) = one_gap at b bs e (cases_Bool (is_separator b)) ∙ (rest ∙ rw e (rw (drop_more, place_more) refl))
skip_cons at b bs rest (inr e) = rw e (rw add-zero refl)

-- separators and padding in front may be passed over
pub skip_gap : (at : ℕ) (bs : List ℕ) → pieces_from at bs ≡ pieces_from (at + prefix_len in_gap bs) (drop (prefix_len in_gap bs) bs)
skip_gap at [] = refl
skip_gap at (b ∷ bs) = skip_cons at b bs (skip_gap (at + 1) bs) (cases_Bool (in_gap b))

least : (b : Bool) (m n most : ℕ) → m ≤ most → n ≤ most → (if b then m else n) ≤ most
least b m n most h k = elim b as (λ t. (if t then m else n) ≤ most) [ true ↦ h | false ↦ k ]

-- where the first byte isn't picked, it is not among the picked ones at the end
suffix_short : (p : ℕ → Bool) (b : ℕ) (bs : List ℕ) → p b ≡ false → suffix_len p (b ∷ bs) ≤ length bs
suffix_short p b bs e =
    let whole : suffix_len p (b ∷ bs) ≡ prefix_len p (reverse bs ++ b ∷ []) = ap (prefix_len p) (reverse-append (b ∷ []) bs) in
    let split = prefix_len-append p (reverse bs) (b ∷ []) in
    let last : prefix_len p (b ∷ []) ≡ 0 = rw e refl in
    let long : length (reverse bs) ≡ length bs = length-reverse bs in
    let front = prefix_len-le-length p (reverse bs) in
    rw (whole, split) (least (eqb (prefix_len p (reverse bs)) (length (reverse bs))) (length (reverse bs) + prefix_len p (b ∷ [])) (prefix_len p (reverse bs))
    (length bs) (omega (arith, long, last)) (omega (arith, long, front)))

-- a piece that begins with a byte that isn't padding stays when its end is without_ends
piece_some : (b : ℕ) (bs : List ℕ) → is_padding b ≡ false → is_empty (without_end is_padding (b ∷ bs)) ≡ false
piece_some b bs e =
    let short = suffix_short is_padding b bs e in
    let left : ℕ = length bs - suffix_len is_padding (b ∷ bs) in
    let long : suc (length bs) - suffix_len is_padding (b ∷ bs) ≡ suc left = omega (arith, short) in
    rw long refl

or_false : (x y : Bool) → x || y ≡ false → (x ≡ false) × (y ≡ false)
or_false true true e = cc
or_false true false e = cc
or_false false true e = cc
or_false false false e = (refl, refl)

piece_trimmed : (at b : ℕ) (bs : List ℕ) → is_padding b ≡ false
    → without_ends is_padding (record { at = at; bytes = b ∷ bs }) ≡ record { at = at; bytes = without_end is_padding (b ∷ bs) }
piece_trimmed at b bs e = rw e (rw add-zero refl)

first_piece_cons : (at b : ℕ) (bs : List ℕ) → in_gap b ≡ false
    → pieces_from at (b ∷ bs) ≡ record { at = at; bytes = without_end is_padding (take (position_or_len is_separator (b ∷ bs)) (b ∷ bs)) }
    ∷ pieces_from (at + position_or_len is_separator (b ∷ bs)) (drop (position_or_len is_separator (b ∷ bs)) (b ∷ bs))
first_piece_cons at b bs e =
    let both = or_false (is_separator b) (is_padding b) e in
    let n = position_or_len is_separator (b ∷ bs) in
    let rest = after_cut is_separator (at + n) (drop n (b ∷ bs)) in
    let long : n ≡ 1 + position_or_len is_separator bs = rw both.0 refl in
    let front : take n (b ∷ bs) ≡ b ∷ take (position_or_len is_separator bs) bs = rw long (take_more _ _ _) in
    let piece : Part = record { at = at; bytes = without_end is_padding (take n (b ∷ bs)) } in
    let same : without_ends is_padding (record { at = at; bytes = take n (b ∷ bs) }) ≡ piece = rw front (piece_trimmed at b _ both.1) in
    let some : is_empty piece.bytes ≡ false = rw front (piece_some b _ both.1) in
    ap pieces_of (cut_is is_separator at (b ∷ bs)) ∙ (ap (λ t. non_empty (t ∷ map (without_ends is_padding) rest)) same
    ∙ (filled_some piece (map (without_ends is_padding) rest) some ∙ ap (λ ps. piece ∷ ps) (after_is pieces_of none is_separator at (b ∷ bs))))

first_piece : (at : ℕ) (bs : List ℕ) → NoFront in_gap bs → (length bs ≡ 0 → ⊥)
    → pieces_from at bs ≡ record { at = at; bytes = without_end is_padding (take (position_or_len is_separator bs) bs) }
    ∷ pieces_from (at + position_or_len is_separator bs) (drop (position_or_len is_separator bs) bs)
first_piece at [] front some = absurd (some refl)
first_piece at (b ∷ bs) front some = first_piece_cons at b bs front

-- what stands before the next separator, without padding at its end, is the first piece
pub next_piece_is : (at n m : ℕ) (bs : List ℕ) (rest piece after : Part)
    → n ≡ prefix_len in_gap bs → rest.at ≡ at + n → rest.bytes ≡ drop n bs → (length rest.bytes ≡ 0 → ⊥)
    → m ≡ position_or_len is_separator rest.bytes → piece.at ≡ rest.at → piece.bytes ≡ without_end is_padding (take m rest.bytes) → after.at ≡ rest.at + m
    → after.bytes ≡ drop m rest.bytes
    → pieces_from at bs ≡ piece ∷ pieces_from after.at after.bytes
next_piece_is at n m bs rest piece after n_is rest_at rest_is some m_is piece_at piece_bytes after_at after_bytes =
    let gap = prefix_len in_gap bs in
    let some_left : length (drop gap bs) ≡ 0 → ⊥ = λ e. some (ap length (rest_is ∙ ap (λ k. drop k bs) n_is) ∙ e) in
    first_part pieces_from (without_end is_padding) in_gap is_separator at n m bs rest piece after n_is rest_at rest_is m_is piece_at piece_bytes after_at
    after_bytes
    (skip_gap at bs ∙ first_piece (at + gap) (drop gap bs) (no_front in_gap bs) some_left)

-- a piece takes a byte of the text at least
pub piece_long : (bs : List ℕ) (m : ℕ) → NoFront in_gap bs → (length bs ≡ 0 → ⊥) → m ≡ position_or_len is_separator bs → 0 < m
piece_long [] m front some e = absurd (some refl)
piece_long (b ∷ bs) m front some e =
    let both = or_false (is_separator b) (is_padding b) front in
    let long : position_or_len is_separator (b ∷ bs) ≡ 1 + position_or_len is_separator bs = rw both.0 refl in
    omega (arith, e, long)
