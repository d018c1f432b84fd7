-- The operands of a line.
use Rattle.std.specs.Prelude.{ℕ, Bool, ◌==◌, nat_eq, codes, if◌then◌else◌, List, [], ◌∷◌, Option}
use Rattle.std.specs.Prelude.{None, Some, option_and_then}
use Rattle.std.specs.Cmp.Lexicographic.{pointwise}
use Rattle.bpf_insn.specs.declared.form.Src.{Src}
use Rattle.bpf_insn.specs.declared.form.Src.TheVariants.{K, X}
use Rattle.bpf_asm.specs.Tokens.{Token}
use Rattle.bpf_asm.specs.Tokens.Token.{NameToken, NumberToken, SignToken}

-- an operand by its shape; a test's has where it takes what the accumulator is compared with, and
-- the constant
pub data Operand : Type 0 where
  Nothing : Operand
  Absolute : ℕ → Operand
  Indexed : ℕ → Operand
  Scratch : ℕ → Operand
  Immediate : ℕ → Operand
  Bare : ℕ → Operand
  Word : List ℕ → Operand
  HashWord : List ℕ → Operand
  IndexRegister : Operand
  Accumulator : Operand
  Length : Operand
  HeaderLength : ℕ → ℕ → ℕ → Operand
  Targets : Src → ℕ → List ℕ → Option (List ℕ) → Operand

-- two names are the same
abbrev pub is_name : List ℕ → List ℕ → Bool
is_name name word = pointwise nat_eq name word

-- and then
infixl 10 ◌>>=◌
abbrev pub ◌>>=◌ : {A B : Type 0} → Option A → (A → Option B) → Option B
o >>= f = option_and_then f o

-- the tokens after this sign, where it is the first
abbrev pub after_sign : ℕ → List Token → Option (List Token)
after_sign c (SignToken b ∷ ts) = if b == c then Some ts else None
after_sign c ts = None

-- a number, and the tokens after it
abbrev pub first_number : List Token → Option (ℕ × List Token)
first_number (NumberToken k ∷ ts) = Some (k, ts)
first_number ts = None

-- a name, and the tokens after it
abbrev pub first_name : List Token → Option (List ℕ × List Token)
first_name (NameToken name ∷ ts) = Some (name, ts)
first_name ts = None

-- this, where no token is left
abbrev pub at_end : {A : Type 0} → A → List Token → Option A
at_end x [] = Some x
at_end x (t ∷ ts) = None

-- [k], and the tokens after it
unfoldable pub number_in_brackets : List Token → Option (ℕ × List Token)
number_in_brackets ts = do
  ts ← after_sign 91 ts
  k ← first_number ts
  ts ← after_sign 93 k.1
  Some (k.0, ts)

-- the tokens after the name x
abbrev pub after_x : List Token → Option (List Token)
after_x (NameToken name ∷ ts) = if is_name name (codes "x") then Some ts else None
after_x ts = None

-- the tokens after the index register, x or %x
abbrev pub after_index : List Token → Option (List Token)
after_index (SignToken c ∷ ts) = if c == 37 then after_x ts else None
after_index ts = after_x ts

-- the rest of [x + k] and [%x + k], after the bracket
unfoldable pub indexed_operand : List Token → Option Operand
indexed_operand ts = do
  ts ← after_index ts
  ts ← after_sign 43 ts
  k ← first_number ts
  ts ← after_sign 93 k.1
  at_end (Indexed k.0) ts

-- the rest of [k], [x + k] and [%x + k], after the bracket
abbrev pub load_operand : List Token → Option Operand
load_operand (NumberToken k ∷ ts) = after_sign 93 ts >>= at_end (Absolute k)
load_operand ts = indexed_operand ts

-- the rest of a test's operand after the first label
abbrev pub second_target : Src → ℕ → List ℕ → List Token → Option Operand
second_target src k first [] = Some (Targets src k first None)
second_target src k first (t ∷ ts) = do
  ts ← after_sign 44 (t ∷ ts)
  second ← first_name ts
  at_end (Targets src k first (Some second.0)) second.1

-- the rest of a test's operand: a comma and a label, once or twice
unfoldable pub targets : Src → ℕ → List Token → Option Operand
targets src k ts = do
  ts ← after_sign 44 ts
  first ← first_name ts
  second_target src k first.0 first.1

-- the rest of m*([k]&n), after m
unfoldable pub header_length : ℕ → List Token → Option Operand
header_length m ts = do
  ts ← after_sign 42 ts
  ts ← after_sign 40 ts
  k ← number_in_brackets ts
  ts ← after_sign 38 k.1
  n ← first_number ts
  ts ← after_sign 41 n.1
  at_end (HeaderLength m k.0 n.0) ts

-- an operand that begins with a number
abbrev pub after_number : ℕ → List Token → Option Operand
after_number k [] = Some (Bare k)
after_number k (t ∷ ts) = header_length k (t ∷ ts)

-- an operand that begins with a name
abbrev pub after_name : List ℕ → List Token → Option Operand
after_name name [] = Some (Word name)
after_name name (t ∷ ts) =
    if is_name name (codes "M") then
    (number_in_brackets (t ∷ ts) >>= λ k. at_end (Scratch k.0) k.1)
    else
    if is_name name (codes "x") then targets X 0 (t ∷ ts) else
    None

-- an operand that begins with # and a number
abbrev pub after_constant : ℕ → List Token → Option Operand
after_constant k [] = Some (Immediate k)
after_constant k (t ∷ ts) = targets K k (t ∷ ts)

-- an operand that begins with #
abbrev pub after_hash : List Token → Option Operand
after_hash (NumberToken k ∷ ts) = after_constant k ts
after_hash (NameToken name ∷ ts) = at_end (HashWord name) ts
after_hash ts = None

-- an operand that begins with %x
abbrev pub after_register : List Token → Option Operand
after_register [] = Some IndexRegister
after_register (t ∷ ts) = targets X 0 (t ∷ ts)

-- an operand that begins with %
abbrev pub after_percent : List Token → Option Operand
after_percent (NameToken name ∷ ts) =
    if is_name name (codes "x") then after_register ts else
    if is_name name (codes "a") then at_end Accumulator ts else
    None
after_percent ts = None

-- the operand that tokens are; None where they are of no shape
abbrev pub operand_of : List Token → Option Operand
operand_of [] = Some Nothing
operand_of (NumberToken k ∷ ts) = after_number k ts
operand_of (NameToken name ∷ ts) = after_name name ts
operand_of (SignToken c ∷ ts) =
    if c == 91 then load_operand ts else
    if c == 35 then after_hash ts else
    if c == 37 then after_percent ts else
    None
