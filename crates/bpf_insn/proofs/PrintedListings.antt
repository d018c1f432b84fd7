-- A printed listing reads as the program that was printed: each piece stands alone between commas, and each number between spaces.
use Rattle.std.proofs.Common.{ℕ, suc, ◌+◌, ◌-◌, ◌<◌, ◌≤◌, ◌^◌, ◌≡◌, Bool, true, false, ◌||◌, eqb, List, [], ◌∷◌, ◌++◌, map, length}
use Rattle.std.proofs.Common.{get_or, decimal, flat_map, Some, Ok, All, subst, refl, sym, ◌∙◌, ap, arith, add-zero}
use Rattle.std.specs.List.{list_all, suffix_len}
use Rattle.std.specs.Char.{is_ascii_digit}
use Rattle.std.specs.Str.Parse.{AllDigits, digits_value}
use Rattle.std.proofs.lemmas.Bool.{and_from, le-leb, ne_eqb, eq-eqb}
use Rattle.std.proofs.lemmas.Fmt.{decimal_is_IsNumeral}
use Rattle.std.proofs.lemmas.List.{append_assoc, append-nil}
use Rattle.std.proofs.Math.Seq.{take-length}
use Rattle.std.proofs.lemmas.List.Sums.{suffix_len_is}
use Rattle.std.proofs.lemmas.Str.Parse.{digit_from_value}
use Rattle.bpf_insn.specs.declared.insn.Insn.{Insn}
use Rattle.bpf_insn.specs.Parts.{Part, cut, non_empty, without_ends, is_empty, with_byte}
use Rattle.bpf_insn.specs.Listing.{listing, listing_of, pieces_from, words_from, is_separator, is_padding, is_listing_blank}
use Rattle.bpf_insn.specs.Listing.{numerals_of, insns_of, insn_of, count_of, count_from, insn_from, field_of}
use Rattle.bpf_insn.specs.Printed.{insn_numbers, listing_text}
use Rattle.bpf_insn.specs.Bytes.{InRange}
use Rattle.bpf_insn.proofs.ListingCuts.{filled_some}

-- none of these bytes is picked
abbrev pub NonePicked : (ℕ → Bool) → List ℕ → Type 0
NonePicked p [] = Unit {0}
NonePicked p (b ∷ bs) = (p b ≡ false) × NonePicked p bs

none_append : (p : ℕ → Bool) (xs ys : List ℕ) → NonePicked p xs → NonePicked p ys → NonePicked p (xs ++ ys)
none_append p [] ys h k = k
none_append p (x ∷ xs) ys h k = (h.0, none_append p xs ys h.1 k)

-- what stands before the first cut is a part of its own
cut_front : (p : ℕ → Bool) (at s : ℕ) (a rest : List ℕ) → NonePicked p a → p s ≡ true
    → cut p at (a ++ s ∷ rest) ≡ record { at = at; bytes = a } ∷ cut p (at + length a + 1) rest
cut_front p at s [] rest none picked = rw picked (rw add-zero refl)
cut_front p at s (b ∷ bs) rest none picked =
    let far : at + 1 + length bs + 1 ≡ at + suc (length bs) + 1 = omega arith in
    rw none.0 (ap (λ parts. with_byte at b parts) (cut_front p (at + 1) s bs rest none.1 picked)
    ∙ ap (λ n. record { at = at; bytes = b ∷ bs } ∷ cut p n rest) far)

-- where nothing is cut there is one part
cut_whole : (p : ℕ → Bool) (at : ℕ) (a : List ℕ) → NonePicked p a → cut p at a ≡ record { at = at; bytes = a } ∷ []
cut_whole p at [] none = refl
cut_whole p at (b ∷ bs) none = rw none.0 (ap (λ parts. with_byte at b parts) (cut_whole p (at + 1) bs none.1))

-- a number in decimal as the reader needs it
record IsDecimal (n : ℕ) (ds : List ℕ) : Type 0 where
  some : is_empty ds ≡ false
  digits : list_all is_ascii_digit ds ≡ true
  value : digits_value 10 ds ≡ n
  separators : NonePicked is_separator ds
  blanks : NonePicked is_listing_blank ds
  paddings : NonePicked is_padding ds

some_empty : (ds : List ℕ) → 0 < length ds → is_empty ds ≡ false
some_empty [] h = absurd (omega (arith, h))
some_empty (b ∷ bs) h = refl

or_both : (x y : Bool) → x ≡ false → y ≡ false → x || y ≡ false
or_both x y e f = rw (e, f) refl

other : (b c : ℕ) → 48 ≤ b → c < 48 → eqb b c ≡ false
other b c h below = ne_eqb b c (λ e. absurd (omega (arith, e, h, below)))

digits_all : (ds : List ℕ) → AllDigits 10 ds → list_all is_ascii_digit ds ≡ true
digits_all [] h = refl
digits_all (b ∷ bs) h = let range = digit_from_value b h.0 in and_from _ _ (and_from _ _ (le-leb 48 b range.0) (le-leb b 57 range.1)) (digits_all bs h.1)

none_digits : (p : ℕ → Bool) → ((b : ℕ) → 48 ≤ b → p b ≡ false) → (ds : List ℕ) → AllDigits 10 ds → NonePicked p ds
none_digits p safe [] h = tt
none_digits p safe (b ∷ bs) h = (safe b (digit_from_value b h.0).0, none_digits p safe bs h.1)

blank_no : (b : ℕ) → 48 ≤ b → is_listing_blank b ≡ false
blank_no b h = or_both _ _ (other b 32 h (omega arith)) (other b 9 h (omega arith))

padding_no : (b : ℕ) → 48 ≤ b → is_padding b ≡ false
padding_no b h = or_both _ _ (blank_no b h) (other b 13 h (omega arith))

separator_no : (b : ℕ) → 48 ≤ b → is_separator b ≡ false
separator_no b h = or_both _ _ (other b 44 h (omega arith)) (other b 10 h (omega arith))

decimal_is : (n : ℕ) → n < 2 ^ 64 → IsDecimal n (decimal n)
decimal_is n small =
    let numeral_ = decimal_is_IsNumeral n small in
    record {
      some = some_empty _ numeral_.0.0;
      digits = digits_all _ numeral_.0.1;
      value = numeral_.1;
      separators = none_digits is_separator separator_no _ numeral_.0.1;
      blanks = none_digits is_listing_blank blank_no _ numeral_.0.1;
      paddings = none_digits is_padding padding_no _ numeral_.0.1;
    }

-- the last byte isn't picked
abbrev pub NoBack : (ℕ → Bool) → List ℕ → Type 0
NoBack p [] = ⊥
NoBack p (b ∷ []) = p b ≡ false
NoBack p (b ∷ c ∷ bs) = NoBack p (c ∷ bs)

back_append : (p : ℕ → Bool) (xs ys : List ℕ) → NoBack p ys → NoBack p (xs ++ ys)
back_append p [] ys h = h
back_append p (x ∷ []) [] h = absurd h
back_append p (x ∷ []) (y ∷ ys) h = h
back_append p (x ∷ z ∷ xs) ys h = back_append p (z ∷ xs) ys h

back_none : (p : ℕ → Bool) (ds : List ℕ) → is_empty ds ≡ false → NonePicked p ds → NoBack p ds
back_none p [] some none = cc
back_none p (b ∷ []) some none = none.0
back_none p (b ∷ c ∷ bs) some none = back_none p (c ∷ bs) refl none.1

back_last : (p : ℕ → Bool) (xs : List ℕ) → NoBack p xs → p (get_or xs (length xs - 1) 0) ≡ false
back_last p [] h = absurd h
back_last p (b ∷ []) h = h
back_last p (b ∷ c ∷ bs) h =
    let shorter : suc (length bs) - 1 ≡ length bs = omega arith in
    let longer : suc (suc (length bs)) - 1 ≡ suc (length bs) = omega arith in
    let rest = back_last p (c ∷ bs) h in
    rw longer (subst (λ n. p (get_or (c ∷ bs) n 0) ≡ false) shorter rest)

no_suffix : (p : ℕ → Bool) (xs : List ℕ) → NoBack p xs → suffix_len p xs ≡ 0
no_suffix p xs h =
    suffix_len_is p xs (length xs) 0 (omega arith) (λ k low high. absurd (omega (arith, low, high))) (λ _. back_last p xs h)
    ∙ (let e : length xs - length xs ≡ 0 = omega arith in e)

-- numbers with spaces between them, put together from the first on
abbrev pub nested : List ℕ → List ℕ → List ℕ → List ℕ → List ℕ
nested a b c d = a ++ 32 ∷ (b ++ 32 ∷ (c ++ 32 ∷ d))

numbers_nested : (i : Insn) → insn_numbers i ≡ nested (decimal i.code) (decimal i.jt) (decimal i.jf) (decimal i.k)
numbers_nested i =
    append_assoc (decimal i.code ++ 32 ∷ decimal i.jt) (32 ∷ decimal i.jf) (32 ∷ decimal i.k)
    ∙ append_assoc (decimal i.code) (32 ∷ decimal i.jt) (32 ∷ decimal i.jf ++ 32 ∷ decimal i.k)

filled_four : (w x y z : Part) → is_empty w.bytes ≡ false → is_empty x.bytes ≡ false → is_empty y.bytes ≡ false → is_empty z.bytes ≡ false
    → non_empty (w ∷ x ∷ y ∷ z ∷ []) ≡ w ∷ x ∷ y ∷ z ∷ []
filled_four w x y z hw hx hy hz = rw (hw, hx, hy, hz) refl

-- the four words of an instruction
words_nested : (at : ℕ) (a b c d : List ℕ) (j k l m : ℕ) → IsDecimal j a → IsDecimal k b → IsDecimal l c → IsDecimal m d
    → words_from at (nested a b c d)
    ≡ record { at = at; bytes = a } ∷ record { at = at + length a + 1; bytes = b } ∷ record { at = at + length a + 1 + length b + 1; bytes = c }
    ∷ record { at = at + length a + 1 + length b + 1 + length c + 1; bytes = d } ∷ []
words_nested at a b c d j k l m ha hb hc hd =
    let second = at + length a + 1 in
    let third = second + length b + 1 in
    let fourth = third + length c + 1 in
    let last = cut_whole is_listing_blank fourth d hd.blanks in
    let three = cut_front is_listing_blank third 32 c d hc.blanks refl ∙ ap (λ ps. record { at = third; bytes = c } ∷ ps) last in
    let two = cut_front is_listing_blank second 32 b (c ++ 32 ∷ d) hb.blanks refl ∙ ap (λ ps. record { at = second; bytes = b } ∷ ps) three in
    let all = cut_front is_listing_blank at 32 a (b ++ 32 ∷ (c ++ 32 ∷ d)) ha.blanks refl ∙ ap (λ ps. record { at = at; bytes = a } ∷ ps) two in
    ap non_empty all ∙ filled_four (record { at = at; bytes = a }) (record { at = second; bytes = b }) (record { at = third; bytes = c })
    (record { at = fourth; bytes = d }) ha.some hb.some hc.some hd.some

numerals_four : (w x y z : Part) → list_all is_ascii_digit w.bytes ≡ true → list_all is_ascii_digit x.bytes ≡ true → list_all is_ascii_digit y.bytes ≡ true
    → list_all is_ascii_digit z.bytes ≡ true
    → numerals_of (w ∷ x ∷ y ∷ z ∷ []) ≡ Some (w ∷ x ∷ y ∷ z ∷ [])
numerals_four w x y z hw hx hy hz = rw (hw, hx, hy, hz) refl

field_is : (most n : ℕ) (word : Part) → digits_value 10 word.bytes ≡ n → n ≤ most → field_of most word ≡ Ok n
field_is most n word value within = rw value (rw (le-leb n most within) refl)

insn_said : (at : ℕ) (w x y z : Part) (i : Insn) → field_of 65535 w ≡ Ok i.code → field_of 255 x ≡ Ok i.jt → field_of 255 y ≡ Ok i.jf
    → field_of 4294967295 z ≡ Ok i.k
    → insn_from at (Some (w ∷ x ∷ y ∷ z ∷ [])) ≡ Ok i
insn_said at w x y z i code jt jf k = rw (code, jt, jf, k) refl

insn_read : (at : ℕ) (i : Insn) → InRange i → insn_of (record { at = at; bytes = insn_numbers i }) ≡ Ok i
insn_read at i is =
    let code = decimal_is i.code (let e = is.code in omega (arith, e)) in
    let jt = decimal_is i.jt (let e = is.jt in omega (arith, e)) in
    let jf = decimal_is i.jf (let e = is.jf in omega (arith, e)) in
    let k = decimal_is i.k (let e = is.k in omega (arith, e)) in
    let w : Part = record { at = at; bytes = decimal i.code } in
    let x : Part = record { at = at + length w.bytes + 1; bytes = decimal i.jt } in
    let y : Part = record { at = x.at + length x.bytes + 1; bytes = decimal i.jf } in
    let z : Part = record { at = y.at + length y.bytes + 1; bytes = decimal i.k } in
    let words = ap (λ bytes. words_from at bytes) (numbers_nested i) ∙ words_nested at _ _ _ _ _ _ _ _ code jt jf k in
    ap (λ ws. insn_from at (numerals_of ws)) words
    ∙ (ap (λ ws. insn_from at ws) (numerals_four w x y z code.digits jt.digits jf.digits k.digits)
    ∙ insn_said at w x y z i
    (field_is 65535 i.code w code.value (let e = is.code in omega (arith, e))) (field_is 255 i.jt x jt.value (let e = is.jt in omega (arith, e)))
    (field_is 255 i.jf y jf.value (let e = is.jf in omega (arith, e))) (field_is 4294967295 i.k z k.value (let e = is.k in omega (arith, e))))

count_said : (at n : ℕ) → n ≤ 65535 → count_of (record { at = at; bytes = decimal n }) ≡ Ok n
count_said at n few =
    let d = decimal_is n (omega (arith, few)) in
    let word : Part = record { at = at; bytes = decimal n } in
    let words : words_from at (decimal n) ≡ word ∷ [] = ap non_empty (cut_whole is_listing_blank at (decimal n) d.blanks) ∙ filled_some word [] d.some in
    let numerals : numerals_of (word ∷ []) ≡ Some (word ∷ []) = rw d.digits refl in
    ap (λ ws. count_from at (numerals_of ws)) words ∙ (ap (λ ws. count_from at ws) numerals ∙ field_is 65535 n word d.value few)

-- a piece with no padding at its ends stays as it is
kept : (at : ℕ) (b : ℕ) (bs : List ℕ) → is_padding b ≡ false → NoBack is_padding (b ∷ bs)
    → without_ends is_padding (record { at = at; bytes = b ∷ bs }) ≡ record { at = at; bytes = b ∷ bs }
kept at b bs front back = let all : length (b ∷ bs) - 0 ≡ length (b ∷ bs) = omega arith in
    rw front (rw (add-zero, no_suffix is_padding (b ∷ bs) back) (rw all (ap (λ xs. record { at = at; bytes = xs }) (take-length (b ∷ bs)))))

-- bytes between commas that no comma parts: a piece
record IsPiece (bytes : List ℕ) : Type 0 where
  first : ℕ
  others : List ℕ
  is : bytes ≡ first ∷ others
  front : is_padding first ≡ false
  back : NoBack is_padding bytes
  whole : NonePicked is_separator bytes

piece_first : (at : ℕ) (bytes rest : List ℕ) → IsPiece bytes
    → pieces_from at (bytes ++ 44 ∷ rest) ≡ record { at = at; bytes = bytes } ∷ pieces_from (at + length bytes + 1) rest
piece_first at bytes rest piece =
    let part : Part = record { at = at; bytes = bytes } in
    let same : without_ends is_padding part ≡ part =
    subst (λ bs. NoBack is_padding bs → without_ends is_padding (record { at = at; bytes = bs }) ≡ record { at = at; bytes = bs }) (sym piece.is)
    (kept at piece.first piece.others piece.front) piece.back in
    let some : is_empty bytes ≡ false = ap is_empty piece.is in
    ap (λ ps. non_empty (map (without_ends is_padding) ps)) (cut_front is_separator at 44 bytes rest piece.whole refl)
    ∙ (ap (λ p. non_empty (p ∷ map (without_ends is_padding) (cut is_separator (at + length bytes + 1) rest))) same
    ∙ filled_some part (map (without_ends is_padding) (cut is_separator (at + length bytes + 1) rest)) some)

decimal_first : (n : ℕ) (ds rest : List ℕ) → IsDecimal n ds → (first : ℕ) × ((others : List ℕ) × ((ds ++ rest ≡ first ∷ others) × (is_padding first ≡ false)))
decimal_first n [] rest d = absurd (let e = d.some in cc)
decimal_first n (b ∷ bs) rest d = (b, (bs ++ rest, (refl, d.paddings.0)))

count_piece : (n : ℕ) (ds : List ℕ) → IsDecimal n ds → IsPiece ds
count_piece n ds d =
    let first = decimal_first n ds [] d in
    record {
      first = first.0;
      others = first.1.0;
      is = sym (append-nil ds) ∙ first.1.1.0;
      front = first.1.1.1;
      back = back_none is_padding ds d.some d.paddings;
      whole = d.separators;
    }

nested_piece : (a b c d : List ℕ) (j k l m : ℕ) → IsDecimal j a → IsDecimal k b → IsDecimal l c → IsDecimal m d → IsPiece (nested a b c d)
nested_piece a b c d j k l m ha hb hc hd =
    let first = decimal_first j a (32 ∷ (b ++ 32 ∷ (c ++ 32 ∷ d))) ha in
    record {
      first = first.0;
      others = first.1.0;
      is = first.1.1.0;
      front = first.1.1.1;
      back = back_append is_padding a (32 ∷ (b ++ 32 ∷ (c ++ 32 ∷ d)))
          (back_append is_padding (32 ∷ b) (32 ∷ (c ++ 32 ∷ d)) (back_append is_padding (32 ∷ c) (32 ∷ d)
          (back_append is_padding (32 ∷ []) d (back_none is_padding d hd.some hd.paddings))));
      whole = none_append is_separator a _ ha.separators (
        refl,
        none_append is_separator b _ hb.separators (
          refl,
          none_append is_separator c _ hc.separators (refl, hd.separators),
        ),
      );
    }

insn_piece : (i : Insn) → InRange i → IsPiece (insn_numbers i)
insn_piece i is =
    subst IsPiece (sym (numbers_nested i)) (nested_piece _ _ _ _ _ _ _ _
    (decimal_is i.code (let e = is.code in omega (arith, e))) (decimal_is i.jt (let e = is.jt in omega (arith, e)))
    (decimal_is i.jf (let e = is.jf in omega (arith, e))) (decimal_is i.k (let e = is.k in omega (arith, e))))

-- the instructions of the printed pieces are those that were printed
insns_read : (at : ℕ) (p : List Insn) → All InRange p → insns_of (pieces_from at (flat_map (λ i. insn_numbers i ++ 44 ∷ []) p)) ≡ Ok p
insns_read at [] all = refl
insns_read at (i ∷ p) all =
    let rest : List ℕ = flat_map (λ i. insn_numbers i ++ 44 ∷ []) p in
    let is = all 0 i (omega arith) in
    let more = insns_read (at + length (insn_numbers i) + 1) p (λ k d within. all (suc k) d (omega (arith, within))) in
    let pieces = ap (λ bytes. pieces_from at bytes) (append_assoc (insn_numbers i) (44 ∷ []) rest) ∙ piece_first at (insn_numbers i) rest (insn_piece i is) in
    ap insns_of pieces ∙ rw (insn_read at i is, more) refl

-- the printed listing of a program reads as the program
pub reads_back : (p : List Insn) → length p ≤ 65535 → All InRange p → listing (listing_text p) ≡ Ok p
reads_back p few all =
    let n = length p in
    let rest : List ℕ = flat_map (λ i. insn_numbers i ++ 44 ∷ []) p in
    let text = listing_text p in
    let pieces : pieces_from 0 text ≡ record { at = 0; bytes = decimal n } ∷ pieces_from (0 + length (decimal n) + 1) rest =
    ap (λ bytes. pieces_from 0 bytes) (append_assoc (decimal n) (44 ∷ []) rest)
    ∙ piece_first 0 (decimal n) rest (count_piece n (decimal n) (decimal_is n (omega (arith, few)))) in
    ap (λ ps. listing_of (length text) ps) pieces
    ∙ rw (count_said 0 n few, insns_read (0 + length (decimal n) + 1) p all) (rw (eq-eqb n n refl) refl)
