-- The first token of a line, found in the text as it stands.
use Rattle.std.proofs.Common.{ℕ, suc, ◌+◌, ◌≡◌, ◌⊎◌, inl, inr, Bool, true, false, ◌&&◌, List, [], ◌∷◌, take}
use Rattle.std.proofs.Common.{drop, codes, Option, Some, None, refl, sym, ◌∙◌, ap, arith, eqb}
use Rattle.std.specs.List.{prefix_len, before_first}
use Rattle.std.specs.Char.{is_ascii_digit}
use Rattle.std.proofs.lemmas.Bool.{cases_Bool, cases_eq, both_ways, ne_eqb, and_right, or_from, or_left, or_cases, and_parts, and_from}
use Rattle.bpf_asm.specs.Blanked.{is_line_feed, begins_with, closing_len, outside_byte, slash_byte, without_comments_from, with_first_byte}
use Rattle.bpf_asm.specs.Tokens.{is_text_blank, is_word, are_joined, joined_len, lexemes}

-- the first line of bytes, the first of which, this many, belong to a comment
abbrev pub line : ℕ → List ℕ → List ℕ
line commented bs = before_first is_line_feed (without_comments_from commented bs)

pub take_more : (n b : ℕ) (bs : List ℕ) → take (1 + n) (b ∷ bs) ≡ b ∷ take n bs
take_more n b bs = let e : 1 + n ≡ suc n = omega arith in rw e refl

pub drop_more : (n b : ℕ) (bs : List ℕ) → drop (1 + n) (b ∷ bs) ≡ drop n bs
drop_more n b bs = let e : 1 + n ≡ suc n = omega arith in rw e refl

-- numbers that a test tells apart are not the same
apart : (p : ℕ → Bool) (b c : ℕ) → p b ≡ true → p c ≡ false → b ≡ c → ⊥
apart p b c holds fails e = both_ways (p c) fails (sym (ap p e) ∙ holds)

pub line_more : (b : ℕ) (bs : List ℕ) → (b ≡ 10 → ⊥) → before_first is_line_feed (b ∷ bs) ≡ b ∷ before_first is_line_feed bs
line_more b bs ne = let e : eqb b 10 ≡ false = ne_eqb b 10 ne in rw e (take_more _ _ _)

-- a blank in front makes no difference
pub blank_more : (b : ℕ) (bs : List ℕ) → (b ≡ 10 → ⊥) → is_text_blank b ≡ true
    → lexemes (before_first is_line_feed (b ∷ bs)) ≡ lexemes (before_first is_line_feed bs)
blank_more b bs ne e = rw (line_more b bs ne) (rw e refl)

word_outside : (b : ℕ) (bs : List ℕ) → is_word b ≡ true → outside_byte b bs ≡ record { byte = b; commented = 0 }
word_outside b bs e =
    let semicolon : eqb b 59 ≡ false = ne_eqb b 59 (apart is_word b 59 e refl) in
    let slash : eqb 47 b ≡ false = ne_eqb 47 b (λ s. apart is_word b 47 e refl (sym s)) in
    rw (semicolon, slash) refl

word_line : (b : ℕ) (bs : List ℕ) → is_word b ≡ true → line 0 (b ∷ bs) ≡ b ∷ line 0 bs
word_line b bs e =
    ap (λ s. before_first is_line_feed (s.byte ∷ without_comments_from s.commented bs)) (word_outside b bs e) ∙ line_more b (without_comments_from 0 bs)
    (apart is_word b 10 e refl)

-- no letter, digit or _ stands in front
abbrev pub NoWord : List ℕ → Type 0
NoWord [] = Unit {0}
NoWord (b ∷ bs) = is_word b ≡ false

front_cases : (b : ℕ) (bs : List ℕ) → is_word b ≡ false → (is_line_feed b ≡ true) ⊎ (is_line_feed b ≡ false) → NoWord (before_first is_line_feed (b ∷ bs))
front_cases b bs e (inl feed) = rw feed tt
front_cases b bs e (inr other) = rw other (rw take_more e)

slash_other : (bs : List ℕ) (o : Option ℕ) → is_word (slash_byte bs o).byte ≡ false
slash_other bs (Some n) = refl
slash_other bs None = refl

outside_other : (b : ℕ) (bs : List ℕ) → is_word b ≡ false → (eqb b 59 ≡ true) ⊎ (eqb b 59 ≡ false)
    → (begins_with (b ∷ bs) (codes "/*") ≡ true) ⊎ (begins_with (b ∷ bs) (codes "/*") ≡ false) → is_word (outside_byte b bs).byte ≡ false
outside_other b bs e (inl semicolon) two = rw semicolon refl
outside_other b bs e (inr other) (inl slash) = rw (other, slash) (slash_other bs (closing_len (drop 1 bs)))
outside_other b bs e (inr other) (inr none) = rw (other, none) e

other_line : (b : ℕ) (bs : List ℕ) → is_word b ≡ false → NoWord (line 0 (b ∷ bs))
other_line b bs e =
    front_cases (outside_byte b bs).byte (without_comments_from (outside_byte b bs).commented bs) (outside_other b bs e (cases_Bool _) (cases_Bool _))
    (cases_Bool _)

pub digit_word : (b : ℕ) → is_ascii_digit b ≡ true → is_word b ≡ true
digit_word b e = or_left _ _ (or_left _ _ (or_left _ _ e))

pub not_digit : (b : ℕ) → is_word b ≡ false → (is_ascii_digit b ≡ true) ⊎ (is_ascii_digit b ≡ false) → is_ascii_digit b ≡ false
not_digit b e (inl digit) = absurd (both_ways _ e (digit_word b digit))
not_digit b e (inr other) = other

pub joins_none : (b : ℕ) (bs : List ℕ) → NoWord bs → are_joined b bs ≡ false
joins_none b [] front = refl
joins_none b (c ∷ bs) front = or_from _ _ (and_right (is_word b) _ front) (and_right (eqb b 45) _ (not_digit c front (cases_Bool _)))

word_joins : (b c : ℕ) (bs : List ℕ) → are_joined b (c ∷ bs) ≡ true → (is_word b && is_word c ≡ true) ⊎ (eqb b 45 && is_ascii_digit c ≡ true)
    → is_word c ≡ true
word_joins b c bs e (inl words) = (and_parts _ _ words).1
word_joins b c bs e (inr minus) = digit_word c (and_parts _ _ minus).1

pub single : (b : ℕ) (bs : List ℕ) → is_text_blank b ≡ false → are_joined b bs ≡ false → lexemes (b ∷ bs) ≡ (b ∷ []) ∷ lexemes bs
single b bs solid apart = rw (solid, apart) refl

pub joined : (b : ℕ) (bs : List ℕ) → is_text_blank b ≡ false → are_joined b bs ≡ true → lexemes (b ∷ bs) ≡ with_first_byte b (lexemes bs)
joined b bs solid together = rw (solid, together) refl

pub word_solid : (b : ℕ) → is_word b ≡ true → is_text_blank b ≡ false
word_solid b e =
    or_from _ _ (or_from _ _ (ne_eqb b 32 (apart is_word b 32 e refl)) (ne_eqb b 9 (apart is_word b 9 e refl))) (ne_eqb b 13 (apart is_word b 13 e refl))

word_rest : (b c : ℕ) (bs : List ℕ) → is_word b ≡ true
    → (is_word c ≡ true → lexemes (c ∷ line 0 bs) ≡ (c ∷ take (prefix_len is_word bs) bs) ∷ lexemes (line 0 (drop (prefix_len is_word bs) bs)))
    → (is_word c ≡ true) ⊎ (is_word c ≡ false)
    → lexemes (b ∷ line 0 (c ∷ bs)) ≡ (b ∷ take (prefix_len is_word (c ∷ bs)) (c ∷ bs)) ∷ lexemes (line 0 (drop (prefix_len is_word (c ∷ bs)) (c ∷ bs)))
word_rest b c bs e rest (inl word) =
    let together : are_joined b (c ∷ line 0 bs) ≡ true = or_left _ _ (and_from _ _ e word) in
    let first = ap (λ l. lexemes (b ∷ l)) (word_line c bs word) ∙ (joined b (c ∷ line 0 bs) (word_solid b e) together ∙ ap (with_first_byte b) (rest word)) in
    first ∙ rw word (rw (take_more, drop_more) refl)
word_rest b c bs e rest (inr other) =
    single b (line 0 (c ∷ bs)) (word_solid b e) (joins_none b (line 0 (c ∷ bs)) (other_line c bs other)) ∙ rw other refl

-- a word is the letters, digits and _ up to the first other byte
word_lexeme : (b : ℕ) (bs : List ℕ) → is_word b ≡ true
    → lexemes (b ∷ line 0 bs) ≡ (b ∷ take (prefix_len is_word bs) bs) ∷ lexemes (line 0 (drop (prefix_len is_word bs) bs))
word_lexeme b [] e = single b [] (word_solid b e) refl
word_lexeme b (c ∷ bs) e = word_rest b c bs e (word_lexeme c bs) (cases_Bool (is_word c))

joined_lexeme : (b : ℕ) (bs : List ℕ) → is_text_blank b ≡ false → are_joined b bs ≡ true
    → lexemes (b ∷ line 0 bs) ≡ (b ∷ take (prefix_len is_word bs) bs) ∷ lexemes (line 0 (drop (prefix_len is_word bs) bs))
joined_lexeme b [] solid e = cc
joined_lexeme b (c ∷ bs) solid e =
    let word : is_word c ≡ true = word_joins b c bs e (or_cases _ _ e) in
    ap (λ l. lexemes (b ∷ l)) (word_line c bs word) ∙
    (joined b (c ∷ line 0 bs) solid e ∙ (ap (with_first_byte b) (word_lexeme c bs word) ∙ rw word (rw (take_more, drop_more) refl)))

-- a byte outside comments is joined to the next one of the line where it is joined to the next one of the text
same_cases : (b c : ℕ) (bs : List ℕ) → are_joined b (c ∷ bs) ≡ false → (is_word c ≡ true) ⊎ (is_word c ≡ false) → are_joined b (line 0 (c ∷ bs)) ≡ false
same_cases b c bs e (inl word) = ap (are_joined b) (word_line c bs word) ∙ e
same_cases b c bs e (inr other) = joins_none b _ (other_line c bs other)

same_joins : (b : ℕ) (bs : List ℕ) → are_joined b bs ≡ false → are_joined b (line 0 bs) ≡ false
same_joins b [] e = refl
same_joins b (c ∷ bs) e = same_cases b c bs e (cases_Bool (is_word c))

slash_alone : (bs : List ℕ) → are_joined 47 bs ≡ false
slash_alone [] = refl
slash_alone (c ∷ bs) = refl

alone : (b m : ℕ) (bs : List ℕ) → ((b ≡ 47 → ⊥) → m ≡ 0) → are_joined b bs ≡ false → (b ≡ 47) ⊎ (b ≡ 47 → ⊥) → are_joined b (line m bs) ≡ false
alone b m bs outside e (inl slash) = ap (λ c. are_joined c (line m bs)) slash ∙ slash_alone (line m bs)
alone b m bs outside e (inr other) = ap (λ k. are_joined b (line k bs)) (outside other) ∙ same_joins b bs e

first_cases : (b m n : ℕ) (bs : List ℕ) → is_text_blank b ≡ false → ((b ≡ 47 → ⊥) → m ≡ 0) → n ≡ joined_len b bs
    → (are_joined b bs ≡ true) ⊎ (are_joined b bs ≡ false)
    → lexemes (b ∷ line m bs) ≡ (b ∷ take n bs) ∷ lexemes (line m (drop n bs))
first_cases b m n bs solid outside is (inl e) =
    let code : m ≡ 0 = outside (λ slash. both_ways _ (ap (λ c. are_joined c bs) slash ∙ slash_alone bs) e) in
    let long : n ≡ prefix_len is_word bs = is ∙ rw e refl in
    rw (code, long) (joined_lexeme b bs solid e)
first_cases b m n bs solid outside is (inr e) =
    let long : n ≡ 0 = is ∙ rw e refl in
    rw long (single b (line m bs) solid (alone b m bs outside e (cases_eq b 47)))

-- a line that begins with this byte, which is no blank, has these bytes as its first token
pub first_lexeme : (b m n : ℕ) (bs : List ℕ) → is_text_blank b ≡ false → ((b ≡ 47 → ⊥) → m ≡ 0) → n ≡ joined_len b bs
    → lexemes (b ∷ line m bs) ≡ (b ∷ take n bs) ∷ lexemes (line m (drop n bs))
first_lexeme b m n bs solid outside is = first_cases b m n bs solid outside is (cases_Bool (are_joined b bs))
