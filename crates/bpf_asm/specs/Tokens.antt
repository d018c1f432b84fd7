-- The tokens of a line.
use Rattle.std.specs.Prelude.{ℕ, Bool, false, ◌==◌, ◌||◌, ◌&&◌, if◌then◌else◌, codes, List, [], ◌∷◌}
use Rattle.std.specs.Prelude.{Option, None, Some, Result, Ok, Err}
use Rattle.std.specs.Char.{is_ascii_digit, is_ascii_alphanumeric}
use Rattle.std.specs.List.{list_any, prefix_len}
use Rattle.bpf_asm.specs.declared.fault.LineFault.{LineFault}
use Rattle.bpf_asm.specs.declared.fault.LineFault.TheVariants.{Syntax, Number}
use Rattle.bpf_asm.specs.Blanked.{with_first_byte}
use Rattle.bpf_asm.specs.Numbers.{spelled_number}

-- a name, the number that a spelling says, or one of the signs
pub data Token : Type 0 where
  NameToken : List ℕ → Token
  NumberToken : ℕ → Token
  SignToken : ℕ → Token

-- a space, a tab or a carriage return
abbrev pub is_text_blank : ℕ → Bool
is_text_blank b = b == 32 || b == 9 || b == 13

-- a letter, a digit or _
abbrev pub is_word : ℕ → Bool
is_word b = is_ascii_alphanumeric b || b == 95

-- a sign, which is a token by itself
abbrev pub is_sign : ℕ → Bool
is_sign b = list_any (λ c. b == c) (codes "#[]()+*&,:%")

-- the byte is of one token with the next: both are letters, digits or _, or it is a minus and the
-- next is a digit
abbrev pub are_joined : ℕ → List ℕ → Bool
are_joined b [] = false
are_joined b (c ∷ bs) = (is_word b && is_word c) || (b == 45 && is_ascii_digit c)

-- how many of the bytes after a byte are of one token with it
abbrev pub joined_len : ℕ → List ℕ → ℕ
joined_len b bs = if are_joined b bs then prefix_len is_word bs else 0

-- the spellings of a line's tokens; a byte that no token has stands for itself
abbrev pub lexemes : List ℕ → List (List ℕ)
lexemes [] = []
lexemes (b ∷ bs) =
    if is_text_blank b then lexemes bs else
    if are_joined b bs then with_first_byte b (lexemes bs) else
    (b ∷ []) ∷ lexemes bs

-- it begins with a digit, or with a minus before a digit
abbrev pub is_number : ℕ → List ℕ → Bool
is_number b [] = is_ascii_digit b
is_number b (c ∷ bs) = is_ascii_digit b || b == 45

abbrev pub number_token : Option ℕ → Result Token LineFault
number_token (Some n) = Ok (NumberToken n)
number_token None = Err Number

-- what a spelling is
abbrev pub token_of : List ℕ → Result Token LineFault
token_of [] = Err Syntax
token_of (b ∷ bs) =
    if is_number b bs then number_token (spelled_number (b ∷ bs)) else
    if is_word b then Ok (NameToken (b ∷ bs)) else
    if is_sign b then Ok (SignToken b) else
    Err Syntax

-- and then
infixl 10 ◌>>=◌
abbrev pub ◌>>=◌ :
    {A B : Type 0} → Result A LineFault → (A → Result B LineFault) → Result B LineFault
(Ok x) >>= f = f x
(Err e) >>= f = Err e

-- all tokens, or the first fault among them
abbrev pub tokens_of : List (List ℕ) → Result (List Token) LineFault
tokens_of [] = Ok []
tokens_of (lexeme ∷ lexemes) = do
  token ← token_of lexeme
  tokens ← tokens_of lexemes
  Ok (token ∷ tokens)

-- the tokens of a line, or the first fault among them
abbrev pub line_tokens : List ℕ → Result (List Token) LineFault
line_tokens line = tokens_of (lexemes line)

-- a token, and those after it unless it has a fault
abbrev pub before_fault : Result Token LineFault → List Token → List Token
before_fault (Ok token) tokens = token ∷ tokens
before_fault (Err fault) tokens = []

-- the tokens before the first fault
abbrev pub tokens_before_fault : List (List ℕ) → List Token
tokens_before_fault [] = []
tokens_before_fault (lexeme ∷ lexemes) =
    before_fault (token_of lexeme) (tokens_before_fault lexemes)
