-- A text is put together from its comments and the bytes between them.
-- idea: a text is cut at its first comment into what stands before, the comment and the rest, which is shorter, and
-- induction over the length goes on with the rest; the count of commented bytes is the comment's length
use Rattle.std.proofs.Common.{ℕ, zero, suc, ◌+◌, ◌-◌, ◌≡◌, ◌≤◌, ◌⊎◌, inl, inr, true, false, ◌&&◌, eqb, List, [], ◌∷◌, ◌++◌, length}
use Rattle.std.proofs.Common.{Option, None, Some, codes, refl, sym, ◌∙◌, ap, arith, subst, append_assoc, length-append}
use Rattle.std.specs.Option.{option_map}
use Rattle.std.specs.List.{position_or_len}
use Rattle.std.proofs.lemmas.Bool.{cases_Bool, ne_eqb, eq-eqb, eqb-true, eqb-false, and_parts, and_right}
use Rattle.bpf_asm.specs.Blanked.{is_line_feed, blank_of, begins_with, closing_len, slash_byte, without_comments_from}
use Rattle.bpf_asm.specs.Comments.{blanks, HasNoEnd, IsOneLine, IsAtLineEnd, Blanks}
use Rattle.bpf_asm.specs.Comments.Blanks.{Nothing, Byte, LineComment, Comment, OpenComment}

more_commented : (n b : ℕ) (bs : List ℕ) → without_comments_from (suc n) (b ∷ bs) ≡ blank_of b ∷ without_comments_from n bs
more_commented n b bs =
    let some : eqb (suc n) 0 ≡ false = ne_eqb (suc n) 0 (λ e. absurd (omega (arith, e))) in
    let less : suc n - 1 ≡ n = omega arith in
    rw (some, less) refl

-- the bytes of a comment, and the rest
run : (inside rest : List ℕ) → without_comments_from (length inside) (inside ++ rest) ≡ blanks inside ++ without_comments_from 0 rest
run [] rest = refl
run (b ∷ inside) rest = more_commented (length inside) b (inside ++ rest) ∙ ap (λ xs. blank_of b ∷ xs) (run inside rest)

run_all : (inside : List ℕ) → without_comments_from (length inside) inside ≡ blanks inside
run_all [] = refl
run_all (b ∷ inside) = more_commented (length inside) b inside ∙ ap (λ xs. blank_of b ∷ xs) (run_all inside)

-- What stands before the end of a line, and the rest.
record LineSplit (bs : List ℕ) : Type 0 where
  inside : List ℕ
  rest : List ℕ
  whole : bs ≡ inside ++ rest
  long : position_or_len is_line_feed bs ≡ length inside
  line : IsOneLine inside
  end : IsAtLineEnd rest

split_cases : (b : ℕ) (bs : List ℕ) → LineSplit bs → (is_line_feed b ≡ true) ⊎ (is_line_feed b ≡ false) → LineSplit (b ∷ bs)
split_cases b bs more (inl e) = record { inside = []; rest = b ∷ bs; whole = refl; long = rw e refl; line = tt; end = eqb-true b 10 e }
split_cases b bs more (inr e) = record {
  inside = b ∷ more.inside;
  rest = more.rest;
  whole = ap (λ xs. b ∷ xs) more.whole;
  long = rw e (omega (arith, more.long));
  line = (eqb-false b 10 e, more.line);
  end = more.end;
}

split_line : (bs : List ℕ) → LineSplit bs
split_line [] = record { inside = []; rest = []; whole = refl; long = refl; line = tt; end = tt }
split_line (b ∷ bs) = split_cases b bs (split_line bs) (cases_Bool (is_line_feed b))

-- the two bytes that stand in front
two_first : (c d b : ℕ) (bs : List ℕ) → begins_with (b ∷ bs) (c ∷ d ∷ []) ≡ true → (rest : List ℕ) × (b ∷ bs ≡ c ∷ d ∷ rest)
two_first c d b [] e = let both = and_parts (eqb c b) false e in absurd (let f : false ≡ true = both.1 in cc)
two_first c d b (x ∷ bs) e =
    let both = and_parts (eqb c b) (eqb d x && true) e in
    let second = and_parts (eqb d x) true both.1 in
    let one : c ≡ b = eqb-true c b both.0 in
    let two : d ≡ x = eqb-true d x second.0 in
    (bs, (let whole : b ∷ x ∷ bs ≡ c ∷ d ∷ bs = cc in whole))

-- What stands before the first star and slash, and the rest.
record EndSplit (bs : List ℕ) (n : ℕ) : Type 0 where
  inside : List ℕ
  rest : List ℕ
  whole : bs ≡ inside ++ (codes "*/" ++ rest)
  long : n ≡ length (inside ++ codes "*/")
  none : HasNoEnd (inside ++ 42 ∷ [])

still_none : (b : ℕ) (inside rest : List ℕ) → begins_with (b ∷ (inside ++ (codes "*/" ++ rest))) (codes "*/") ≡ false
    → begins_with (b ∷ (inside ++ 42 ∷ [])) (codes "*/") ≡ false
still_none b [] rest e = and_right (eqb 42 b) _ refl
still_none b (x ∷ inside) rest e = e

end_cases : (b : ℕ) (bs : List ℕ) (n : ℕ) (o : Option ℕ) → closing_len bs ≡ o → ((m : ℕ) → closing_len bs ≡ Some m → EndSplit bs m)
    → begins_with (b ∷ bs) (codes "*/") ≡ false → option_map (λ k. k + 1) o ≡ Some n → EndSplit (b ∷ bs) n
end_cases b bs n None is more e f = cc
end_cases b bs n (Some m) is more e f =
    let after = more m is in
    let count : m + 1 ≡ n = cc in
    record {
      inside = b ∷ after.inside;
      rest = after.rest;
      whole = ap (λ xs. b ∷ xs) after.whole;
      long = omega (arith, count, after.long);
      none = (still_none b after.inside after.rest (ap (λ xs. begins_with (b ∷ xs) (codes "*/")) (sym after.whole) ∙ e), after.none);
    }

ends_here : (b : ℕ) (bs : List ℕ) (n : ℕ) → begins_with (b ∷ bs) (codes "*/") ≡ true → n ≡ 2 → EndSplit (b ∷ bs) n
ends_here b bs n e two =
    let front = two_first 42 47 b bs e in
    record { inside = []; rest = front.0; whole = front.1; long = two; none = (refl, tt) }

end_either : (b : ℕ) (bs : List ℕ) (n : ℕ) → ((m : ℕ) → closing_len bs ≡ Some m → EndSplit bs m) → closing_len (b ∷ bs) ≡ Some n
    → (begins_with (b ∷ bs) (codes "*/") ≡ true) ⊎ (begins_with (b ∷ bs) (codes "*/") ≡ false) → EndSplit (b ∷ bs) n
end_either b bs n more f (inl e) =
    let two : Some 2 ≡ Some n = rw e at f in
    ends_here b bs n e (let same : n ≡ 2 = cc in same)
end_either b bs n more f (inr e) = end_cases b bs n (closing_len bs) refl more e (rw e at f)

split_end : (bs : List ℕ) (n : ℕ) → closing_len bs ≡ Some n → EndSplit bs n
split_end [] n f = cc
split_end (b ∷ bs) n f = end_either b bs n (split_end bs) f (cases_Bool _)

no_end_cases : (b : ℕ) (bs : List ℕ) (o : Option ℕ) → closing_len bs ≡ o → (closing_len bs ≡ None → HasNoEnd bs) → begins_with (b ∷ bs) (codes "*/") ≡ false
    → option_map (λ k. k + 1) o ≡ None → HasNoEnd (b ∷ bs)
no_end_cases b bs None is more e f = (e, more is)
no_end_cases b bs (Some m) is more e f = cc

no_end_either : (b : ℕ) (bs : List ℕ) → (closing_len bs ≡ None → HasNoEnd bs) → closing_len (b ∷ bs) ≡ None
    → (begins_with (b ∷ bs) (codes "*/") ≡ true) ⊎ (begins_with (b ∷ bs) (codes "*/") ≡ false) → HasNoEnd (b ∷ bs)
no_end_either b bs more f (inl e) = let two = rw e at f in cc
no_end_either b bs more f (inr e) = no_end_cases b bs (closing_len bs) refl more e (rw e at f)

no_end : (bs : List ℕ) → closing_len bs ≡ None → HasNoEnd bs
no_end [] f = tt
no_end (b ∷ bs) f = no_end_either b bs (no_end bs) f (cases_Bool _)

so : (text shown text' shown' : List ℕ) → text ≡ text' → shown ≡ shown' → Blanks text shown → Blanks text' shown'
so text shown text' shown' e f h =
    let P : List ℕ → Type 0 = λ t. Blanks t shown in
    let Q : List ℕ → Type 0 = λ s. Blanks text' s in
    subst Q f (subst P e h)

-- shorter texts are put together so
abbrev Shorter : ℕ → Type 0
Shorter n = (cs : List ℕ) → length cs ≤ n → Blanks cs (without_comments_from 0 cs)

line_comment : (bs : List ℕ) → Shorter (length bs) → Blanks (59 ∷ bs) (without_comments_from 0 (59 ∷ bs))
line_comment bs shorter =
    let d = split_line bs in
    let short : length d.rest ≤ length bs = omega (arith, ap length d.whole, length-append d.inside d.rest) in
    let shown : without_comments_from (position_or_len is_line_feed bs) bs ≡ blanks d.inside ++ without_comments_from 0 d.rest =
    ap (λ k. without_comments_from k bs) d.long ∙ (ap (without_comments_from (length d.inside)) d.whole ∙ run d.inside d.rest) in
    so _ _ _ _ (ap (λ xs. 59 ∷ xs) (sym d.whole)) (ap (λ xs. 32 ∷ xs) (sym shown))
    (LineComment d.inside d.rest (without_comments_from 0 d.rest) d.line d.end (shorter d.rest short))

slash_cases : (cs : List ℕ) (o : Option ℕ) → closing_len cs ≡ o → Shorter (length cs)
    → Blanks (47 ∷ 42 ∷ cs) ((slash_byte (42 ∷ cs) o).byte ∷ without_comments_from (slash_byte (42 ∷ cs) o).commented (42 ∷ cs))
slash_cases cs None is shorter = so _ _ _ _ refl (ap (λ xs. 47 ∷ xs) (sym (run_all (42 ∷ cs)))) (OpenComment cs (no_end cs is))
slash_cases cs (Some n) is shorter =
    let d = split_end cs n is in
    let ended : List ℕ = d.inside ++ codes "*/" in
    let whole : cs ≡ ended ++ d.rest = d.whole ∙ sym (append_assoc d.inside (codes "*/") d.rest) in
    let short : length d.rest ≤ length cs = omega (arith, ap length whole, length-append ended d.rest) in
    let next : 1 + n ≡ suc n = omega arith in
    let shown : without_comments_from (1 + n) (42 ∷ cs) ≡ 32 ∷ (blanks ended ++ without_comments_from 0 d.rest) =
    ap (λ k. without_comments_from k (42 ∷ cs)) next ∙
    (more_commented n 42 cs ∙ ap (λ xs. 32 ∷ xs)
    (ap (λ k. without_comments_from k cs) d.long ∙ (ap (without_comments_from (length ended)) whole ∙ run ended d.rest))) in
    so _ _ _ _ (ap (λ xs. 47 ∷ 42 ∷ xs) (sym d.whole)) (ap (λ xs. 32 ∷ xs) (sym shown))
    (Comment d.inside d.rest (without_comments_from 0 d.rest) d.none (shorter d.rest short))

slash_comment : (b : ℕ) (bs : List ℕ) → Shorter (length bs) → begins_with (b ∷ bs) (codes "/*") ≡ true → Blanks (b ∷ bs) (without_comments_from 0 (b ∷ bs))
slash_comment b bs shorter e =
    let front = two_first 47 42 b bs e in
    let P : List ℕ → Type 0 = λ t. Blanks t (without_comments_from 0 t) in
    let long : suc (length bs) ≡ suc (suc (length front.0)) = ap length front.1 in
    subst P (sym front.1) (slash_cases front.0 (closing_len front.0) refl (λ cs h. shorter cs (omega (arith, h, long))))

begins_cases : (b : ℕ) (bs : List ℕ) → Shorter (length bs) → (eqb b 59 ≡ true) ⊎ (eqb b 59 ≡ false)
    → (begins_with (b ∷ bs) (codes "/*") ≡ true) ⊎ (begins_with (b ∷ bs) (codes "/*") ≡ false) → Blanks (b ∷ bs) (without_comments_from 0 (b ∷ bs))
begins_cases b bs shorter (inl e) slash =
    let P : ℕ → Type 0 = λ c. Blanks (c ∷ bs) (without_comments_from 0 (c ∷ bs)) in subst P (sym (eqb-true b 59 e)) (line_comment bs shorter)
begins_cases b bs shorter (inr e) (inl slash) = slash_comment b bs shorter slash
begins_cases b bs shorter (inr e) (inr none) =
    so _ _ _ _ refl (rw (e, none) refl) (Byte b bs (without_comments_from 0 bs) (eqb-false b 59 e) none (shorter bs (omega arith)))

upto : (n : ℕ) (bs : List ℕ) → length bs ≤ n → Blanks bs (without_comments_from 0 bs)
upto n [] h = Nothing
upto zero (b ∷ bs) h = absurd (omega (arith, h))
upto (suc n) (b ∷ bs) h = begins_cases b bs (λ cs short. upto n cs (omega (arith, short, h))) (cases_Bool _) (cases_Bool _)

-- a text is put together so, with its comments blanked
pub text_blanks : (text : List ℕ) → Blanks text (without_comments_from 0 text)
text_blanks text = upto (length text) text (omega arith)

line_long : (inside rest : List ℕ) → IsOneLine inside → IsAtLineEnd rest → position_or_len is_line_feed (inside ++ rest) ≡ length inside
line_long [] [] one end = refl
line_long [] (b ∷ rest) one end = let e : eqb b 10 ≡ true = eq-eqb b 10 end in rw e refl
line_long (b ∷ inside) rest one end =
    let e : eqb b 10 ≡ false = ne_eqb b 10 one.0 in
    rw e (omega (arith, line_long inside rest one.1 end))

still_none_before : (b : ℕ) (inside rest : List ℕ) → begins_with (b ∷ (inside ++ 42 ∷ [])) (codes "*/") ≡ false
    → begins_with (b ∷ (inside ++ (codes "*/" ++ rest))) (codes "*/") ≡ false
still_none_before b [] rest e = and_right (eqb 42 b) _ refl
still_none_before b (x ∷ inside) rest e = e

closing_long : (inside rest : List ℕ) → HasNoEnd (inside ++ 42 ∷ []) → closing_len (inside ++ (codes "*/" ++ rest)) ≡ Some (length (inside ++ codes "*/"))
closing_long [] rest none = refl
closing_long (b ∷ inside) rest none =
    let here : begins_with (b ∷ (inside ++ (codes "*/" ++ rest))) (codes "*/") ≡ false = still_none_before b inside rest none.0 in
    let count : length (inside ++ codes "*/") + 1 ≡ suc (length (inside ++ codes "*/")) = omega arith in
    rw here (ap (option_map (λ n. n + 1)) (closing_long inside rest none.1) ∙ ap Some count)

closing_none : (inside : List ℕ) → HasNoEnd inside → closing_len inside ≡ None
closing_none [] none = refl
closing_none (b ∷ inside) none =
    let here : begins_with (b ∷ inside) (codes "*/") ≡ false = none.0 in
    rw here (ap (option_map (λ n. n + 1)) (closing_none inside none.1))

-- a text that is put together so is blanked so
pub blanks_text : (text shown : List ℕ) → Blanks text shown → shown ≡ without_comments_from 0 text
blanks_text text shown Nothing = refl
blanks_text text shown (Byte b rest after other none d) =
    let semicolon : eqb b 59 ≡ false = ne_eqb b 59 other in
    rw (semicolon, none) (ap (λ xs. b ∷ xs) (blanks_text rest after d))
blanks_text text shown (LineComment inside rest after one end d) =
    ap (λ xs. 32 ∷ (blanks inside ++ xs)) (blanks_text rest after d)
    ∙ ap (λ xs. 32 ∷ xs) (sym (run inside rest) ∙ ap (λ k. without_comments_from k (inside ++ rest)) (sym (line_long inside rest one end)))
blanks_text text shown (Comment inside rest after none d) =
    let ended : List ℕ = inside ++ codes "*/" in
    let tail : List ℕ = inside ++ (codes "*/" ++ rest) in
    let whole : ended ++ rest ≡ tail = append_assoc inside (codes "*/") rest in
    let next : suc (length ended) ≡ 1 + length ended = omega arith in
    ap (λ xs. 32 ∷ 32 ∷ (blanks ended ++ xs)) (blanks_text rest after d)
    ∙ (ap (λ xs. 32 ∷ 32 ∷ xs) (sym (run ended rest) ∙ ap (without_comments_from (length ended)) whole)
    ∙ (ap (λ xs. 32 ∷ xs) (sym (more_commented (length ended) 42 tail) ∙ ap (λ k. without_comments_from k (42 ∷ tail)) next)
    ∙ sym (ap (λ o. (slash_byte (42 ∷ tail) o).byte ∷ without_comments_from (slash_byte (42 ∷ tail) o).commented (42 ∷ tail))
    (closing_long inside rest none))))
blanks_text text shown (OpenComment inside none) =
    ap (λ xs. 47 ∷ xs) (sym (run_all (42 ∷ inside)))
    ∙ sym (ap (λ o. (slash_byte (42 ∷ inside) o).byte ∷ without_comments_from (slash_byte (42 ∷ inside) o).commented (42 ∷ inside))
    (closing_none inside none))
