-- The first word of a piece.
use Rattle.std.proofs.Common.{ℕ, ◌+◌, ◌≡◌, false, List, [], ◌∷◌, length, take, drop, refl, ◌∙◌, ap}
use Rattle.std.specs.List.{prefix_len, position_or_len}
use Rattle.bpf_insn.specs.Parts.{Part, non_empty}
use Rattle.bpf_insn.specs.Listing.{words_from, is_listing_blank}
use Rattle.bpf_insn.proofs.ListingCuts.{first_part, after_cut, after_is, cut_is, NoFront, no_front, skip_cuts, filled_some, front_some}

none : (at : ℕ) (ps : List Part) → non_empty (record { at = at; bytes = [] } ∷ ps) ≡ non_empty ps
none at ps = refl

first_word_cons : (at b : ℕ) (bs : List ℕ) → is_listing_blank b ≡ false
    → words_from at (b ∷ bs) ≡ record { at = at; bytes = take (position_or_len is_listing_blank (b ∷ bs)) (b ∷ bs) }
    ∷ words_from (at + position_or_len is_listing_blank (b ∷ bs)) (drop (position_or_len is_listing_blank (b ∷ bs)) (b ∷ bs))
first_word_cons at b bs e =
    let part : Part = record { at = at; bytes = take (position_or_len is_listing_blank (b ∷ bs)) (b ∷ bs) } in
    ap non_empty (cut_is is_listing_blank at (b ∷ bs)) ∙ (filled_some part
    (after_cut is_listing_blank (at + position_or_len is_listing_blank (b ∷ bs)) (drop (position_or_len is_listing_blank (b ∷ bs)) (b ∷ bs)))
    (front_some is_listing_blank b bs e) ∙ ap (λ ps. part ∷ ps) (after_is non_empty none is_listing_blank at (b ∷ bs)))

first_word : (at : ℕ) (bs : List ℕ) → NoFront is_listing_blank bs → (bs ≡ [] → ⊥)
    → words_from at bs ≡ record { at = at; bytes = take (position_or_len is_listing_blank bs) bs }
    ∷ words_from (at + position_or_len is_listing_blank bs) (drop (position_or_len is_listing_blank bs) bs)
first_word at [] front some = absurd (some refl)
first_word at (b ∷ bs) front some = first_word_cons at b bs front

-- the words of a piece are those that are left once its first blanks are passed over
pub skip_blanks : (at : ℕ) (bs : List ℕ) → words_from at bs ≡ words_from (at + prefix_len is_listing_blank bs) (drop (prefix_len is_listing_blank bs) bs)
skip_blanks at bs = skip_cuts non_empty none is_listing_blank at bs

word_is : (at : ℕ) (bs : List ℕ) → (length (drop (prefix_len is_listing_blank bs) bs) ≡ 0 → ⊥)
    → words_from at bs ≡ record {
      at = at + prefix_len is_listing_blank bs;
      bytes = take (position_or_len is_listing_blank (drop (prefix_len is_listing_blank bs) bs)) (drop (prefix_len is_listing_blank bs) bs);
    }
    ∷ words_from (at + prefix_len is_listing_blank bs + position_or_len is_listing_blank (drop (prefix_len is_listing_blank bs) bs))
    (drop (position_or_len is_listing_blank (drop (prefix_len is_listing_blank bs) bs)) (drop (prefix_len is_listing_blank bs) bs))
word_is at bs some = skip_blanks at bs ∙ first_word (at + prefix_len is_listing_blank bs) (drop (prefix_len is_listing_blank bs) bs)
    (no_front is_listing_blank bs) (λ e. some (ap length e))

-- what stands before the next blank is the first word
pub next_word_is : (at n m : ℕ) (bs : List ℕ) (rest word after : Part)
    → n ≡ prefix_len is_listing_blank bs → rest.at ≡ at + n → rest.bytes ≡ drop n bs → (length rest.bytes ≡ 0 → ⊥)
    → m ≡ position_or_len is_listing_blank rest.bytes → word.at ≡ rest.at → word.bytes ≡ take m rest.bytes → after.at ≡ rest.at + m
    → after.bytes ≡ drop m rest.bytes
    → words_from at bs ≡ word ∷ words_from after.at after.bytes
next_word_is at n m bs rest word after n_is rest_at rest_is some m_is word_at word_bytes after_at after_bytes =
    let some_left : length (drop (prefix_len is_listing_blank bs) bs) ≡ 0 → ⊥ = λ e. some (ap length (rest_is ∙ ap (λ k. drop k bs) n_is) ∙ e) in
    first_part words_from (λ bytes. bytes) is_listing_blank is_listing_blank at n m bs rest word after n_is rest_at rest_is m_is word_at word_bytes after_at
    after_bytes
    (word_is at bs some_left)
