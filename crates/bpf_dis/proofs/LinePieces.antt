-- A line that is put together from names, numbers, signs and spaces has these tokens, and no byte that ends a line or begins a comment.
use Rattle.std.proofs.Common.{ℕ, ◌<◌, ◌≤◌, ◌≡◌, Bool, true, false, not, ◌&&◌, eqb, List, [], ◌∷◌, ◌++◌, length, decimal, Ok, refl, ◌∙◌, ap, arith}
use Rattle.std.specs.Char.{is_ascii_digit}
use Rattle.std.specs.List.{list_all}
use Rattle.std.proofs.lemmas.Bool.{and_parts, and_from, both_ways, not-true}
use Rattle.std.proofs.lemmas.List.Folds.{list_all-append}
use Rattle.bpf_asm.specs.Tokens.{Token, is_text_blank, is_word, is_sign, lexemes, token_of, tokens_of, line_tokens}
use Rattle.bpf_asm.specs.Tokens.Token.{NameToken, NumberToken, SignToken}
use Rattle.bpf_asm.specs.Lexing.{NoWordFirst}
use Rattle.bpf_dis.proofs.WordTokens.{AreWords, word_apart, word_lexeme, sign_lexeme}
use Rattle.bpf_dis.proofs.Numbers.{decimal_token, decimal_words}

-- a name or a number by its spelling and its token, a sign, or a space
pub data Piece : Type 0 where
  Word : List ℕ → Token → Piece
  Sign : ℕ → Piece
  Space : Piece

abbrev pub written : List Piece → List ℕ
written [] = []
written (Word word token ∷ ps) = word ++ written ps
written (Sign c ∷ ps) = c ∷ written ps
written (Space ∷ ps) = 32 ∷ written ps

abbrev pub tokens : List Piece → List Token
tokens [] = []
tokens (Word word token ∷ ps) = token ∷ tokens ps
tokens (Sign c ∷ ps) = SignToken c ∷ tokens ps
tokens (Space ∷ ps) = tokens ps

-- a byte that ends no line and begins no comment
abbrev pub is_kept : ℕ → Bool
is_kept b = not (eqb b 10) && (not (eqb b 59) && not (eqb b 47))

-- a sign that is a token by itself whatever stands beside it
abbrev pub is_lone : ℕ → Bool
is_lone c = is_sign c && (not (is_text_blank c) && (not (is_word c) && (not (is_ascii_digit c) && (not (eqb c 45) && is_kept c))))

-- letters, digits and _ that spell a token
abbrev pub IsWordOf : List ℕ → Token → Type 0
IsWordOf word token = (0 < length word) × AreWords word × (token_of word ≡ Ok token)

-- each word spells its token, and no word stands before another
abbrev pub Fine : List Piece → Type 0
Fine [] = Unit {0}
Fine (Word word token ∷ ps) = IsWordOf word token × NoWordFirst (written ps) × Fine ps
Fine (Sign c ∷ ps) = (is_lone c ≡ true) × Fine ps
Fine (Space ∷ ps) = Fine ps

lexemes_of : List Piece → List (List ℕ)
lexemes_of [] = []
lexemes_of (Word word token ∷ ps) = word ∷ lexemes_of ps
lexemes_of (Sign c ∷ ps) = (c ∷ []) ∷ lexemes_of ps
lexemes_of (Space ∷ ps) = lexemes_of ps

-- What a sign by itself is.
record Lone (c : ℕ) : Type 0 where
  sign : is_sign c ≡ true
  solid : is_text_blank c ≡ false
  other : is_word c ≡ false
  digit : is_ascii_digit c ≡ false
  minus : eqb c 45 ≡ false
  kept : is_kept c ≡ true

lone : (c : ℕ) → is_lone c ≡ true → Lone c
lone c h =
    let one = and_parts _ _ h in
    let two = and_parts _ _ one.1 in
    let three = and_parts _ _ two.1 in
    let four = and_parts _ _ three.1 in
    let five = and_parts _ _ four.1 in
    record { sign = one.0; solid = not-true _ two.0; other = not-true _ three.0; digit = not-true _ four.0; minus = not-true _ five.0; kept = five.1 }

word_first : (word rest : List ℕ) → 0 < length word → AreWords word → NoWordFirst rest → lexemes (word ++ rest) ≡ word ∷ lexemes rest
word_first [] rest some words none = absurd (omega (arith, some))
word_first (b ∷ word) rest some words none = word_lexeme b word rest words none

cut : (ps : List Piece) → Fine ps → lexemes (written ps) ≡ lexemes_of ps
unfolding lexemes_of
cut [] h = refl
cut (Word word token ∷ ps) h = word_first word (written ps) h.0.0 h.0.1 h.1 ∙ ap (λ ls. word ∷ ls) (cut ps h.2)
cut (Sign c ∷ ps) h = let l = lone c h.0 in sign_lexeme c (written ps) l.solid l.other l.minus ∙ ap (λ ls. (c ∷ []) ∷ ls) (cut ps h.1)
cut (Space ∷ ps) h = cut ps h

-- letters, digits and _, no digit first
abbrev pub is_name : List ℕ → Bool
is_name [] = false
is_name (b ∷ bs) = not (is_ascii_digit b) && list_all is_word (b ∷ bs)

name_token : (name : List ℕ) → is_name name ≡ true → token_of name ≡ Ok (NameToken name)
name_token [] h = absurd (both_ways false refl h)
name_token (b ∷ []) h =
    let both = and_parts (not (is_ascii_digit b)) (is_word b && true) h in
    let digit : is_ascii_digit b ≡ false = not-true (is_ascii_digit b) both.0 in
    let word : is_word b ≡ true = (and_parts (is_word b) true both.1).0 in
    rw (word, digit) refl
name_token (b ∷ c ∷ bs) h =
    let both = and_parts (not (is_ascii_digit b)) (is_word b && list_all is_word (c ∷ bs)) h in
    let digit : is_ascii_digit b ≡ false = not-true (is_ascii_digit b) both.0 in
    let word : is_word b ≡ true = (and_parts (is_word b) (list_all is_word (c ∷ bs)) both.1).0 in
    let minus : eqb b 45 ≡ false = word_apart b 45 word refl in
    rw (word, digit, minus) refl

name_words : (name : List ℕ) → is_name name ≡ true → (0 < length name) × AreWords name
name_words [] h = absurd (both_ways false refl h)
name_words (b ∷ bs) h = (omega arith, (and_parts _ _ h).1)

-- a name spells its token
pub name_word : (name : List ℕ) → is_name name ≡ true → IsWordOf name (NameToken name)
name_word name h = let words = name_words name h in (words.0, words.1, name_token name h)

-- a number in decimal spells its token
pub number_word : (n : ℕ) → n ≤ 4294967295 → IsWordOf (decimal n) (NumberToken n)
number_word n within = let words = decimal_words n (omega (arith, within)) in (words.0, words.1, decimal_token n within)

sign_token : (c : ℕ) → is_lone c ≡ true → token_of (c ∷ []) ≡ Ok (SignToken c)
sign_token c h = let l = lone c h in rw (l.other, l.digit, l.sign) refl

lexed : (ps : List Piece) → Fine ps → tokens_of (lexemes_of ps) ≡ Ok (tokens ps)
unfolding lexemes_of
lexed [] h = refl
lexed (Word word token ∷ ps) h = rw (h.0.2, lexed ps h.2) refl
lexed (Sign c ∷ ps) h = rw (sign_token c h.0, lexed ps h.1) refl
lexed (Space ∷ ps) h = lexed ps h

-- the line has the tokens of its pieces
pub tokens_are : (ps : List Piece) → Fine ps → line_tokens (written ps) ≡ Ok (tokens ps)
tokens_are ps h = ap tokens_of (cut ps h) ∙ lexed ps h

abbrev pub AreKept : List ℕ → Type 0
AreKept bs = list_all is_kept bs ≡ true

word_kept : (b : ℕ) → is_word b ≡ true → is_kept b ≡ true
word_kept b word = rw (word_apart b 10 word refl, word_apart b 59 word refl, word_apart b 47 word refl) refl

words_kept : (bs : List ℕ) → AreWords bs → AreKept bs
words_kept [] h = refl
words_kept (b ∷ bs) h = let both = and_parts _ _ h in and_from _ _ (word_kept b both.0) (words_kept bs both.1)

both_kept : (bs cs : List ℕ) → AreKept bs → AreKept cs → AreKept (bs ++ cs)
both_kept bs cs h k = list_all-append is_kept bs cs ∙ and_from _ _ h k

-- the line ends nowhere inside, and begins no comment
pub written_kept : (ps : List Piece) → Fine ps → AreKept (written ps)
written_kept [] h = refl
written_kept (Word word token ∷ ps) h = both_kept word (written ps) (words_kept word h.0.1) (written_kept ps h.2)
written_kept (Sign c ∷ ps) h = and_from _ _ (lone c h.0).kept (written_kept ps h.1)
written_kept (Space ∷ ps) h = written_kept ps h
