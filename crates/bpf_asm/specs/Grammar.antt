-- The grammar of a line: how labels, an instruction and its operand are written in tokens.
-- the signs are # 35, % 37, & 38, ( 40, ) 41, * 42, + 43, comma 44, colon 58, [ 91 and ] 93
use Rattle.std.specs.Prelude.{ℕ, ◌≡◌, ◌⊎◌, codes, List, [], ◌∷◌, ◌++◌, Option, None, Some, Ok}
use Rattle.bpf_insn.specs.declared.form.Src.{Src}
use Rattle.bpf_insn.specs.declared.form.Src.TheVariants.{K, X}
use Rattle.bpf_asm.specs.declared.mnemonic.Mnemonic.{Mnemonic}
use Rattle.bpf_asm.specs.Tokens.{Token, line_tokens}
use Rattle.bpf_asm.specs.Tokens.Token.{NameToken, NumberToken, SignToken}
use Rattle.bpf_asm.specs.Operands.{Operand}
use Rattle.bpf_asm.specs.Operands.Operand.{Nothing, Absolute, Indexed, Scratch, Immediate, Bare}
use Rattle.bpf_asm.specs.Operands.Operand.{Word, HashWord}
use Rattle.bpf_asm.specs.Operands.Operand.{IndexRegister, Accumulator, Length, HeaderLength}
use Rattle.bpf_asm.specs.Operands.Operand.{Targets}
use Rattle.bpf_asm.specs.Mnemonics.{mnemonic_of}
use Rattle.bpf_asm.specs.Templates.{Template, template_of}
use Rattle.bpf_asm.specs.Lines.{Reading}

-- the index register: x or %x
abbrev pub IsIndex : List Token → Type 0
IsIndex ts =
    (ts ≡ NameToken (codes "x") ∷ []) ⊎ (ts ≡ SignToken 37 ∷ NameToken (codes "x") ∷ [])

-- what a test compares with: #k, x or %x; x has no constant
abbrev pub IsSource : Src → ℕ → List Token → Type 0
IsSource K k ts = ts ≡ SignToken 35 ∷ NumberToken k ∷ []
IsSource X k ts = (k ≡ 0) × IsIndex ts

-- a comma and a label, once or twice
abbrev pub target_tokens : List ℕ → Option (List ℕ) → List Token
target_tokens first None = SignToken 44 ∷ NameToken first ∷ []
target_tokens first (Some second) =
    SignToken 44 ∷ NameToken first ∷ SignToken 44 ∷ NameToken second ∷ []

-- how an operand is written
abbrev pub IsOperand : Operand → List Token → Type 0
-- nothing
IsOperand Nothing ts = ts ≡ []
-- [k]
IsOperand (Absolute k) ts = ts ≡ SignToken 91 ∷ NumberToken k ∷ SignToken 93 ∷ []
-- [x + k] or [%x + k]
IsOperand (Indexed k) ts =
    (x : List Token) × IsIndex x
    × (ts ≡ SignToken 91 ∷ (x ++ SignToken 43 ∷ NumberToken k ∷ SignToken 93 ∷ []))
-- M[k]
IsOperand (Scratch k) ts =
    ts ≡ NameToken (codes "M") ∷ SignToken 91 ∷ NumberToken k ∷ SignToken 93 ∷ []
-- #k
IsOperand (Immediate k) ts = ts ≡ SignToken 35 ∷ NumberToken k ∷ []
-- k
IsOperand (Bare k) ts = ts ≡ NumberToken k ∷ []
-- a name
IsOperand (Word name) ts = ts ≡ NameToken name ∷ []
-- # and a name
IsOperand (HashWord name) ts = ts ≡ SignToken 35 ∷ NameToken name ∷ []
-- %x
IsOperand IndexRegister ts = ts ≡ SignToken 37 ∷ NameToken (codes "x") ∷ []
-- %a
IsOperand Accumulator ts = ts ≡ SignToken 37 ∷ NameToken (codes "a") ∷ []
-- the view's length is always written as a name
IsOperand Length ts = ⊥
-- m*([k]&n)
IsOperand (HeaderLength m k n) ts =
    ts ≡ NumberToken m ∷ SignToken 42 ∷ SignToken 40
    ∷ SignToken 91 ∷ NumberToken k ∷ SignToken 93
    ∷ SignToken 38 ∷ NumberToken n ∷ SignToken 41 ∷ []
-- #k,L or #k,L,L and the same of x
IsOperand (Targets src k first second) ts =
    (front : List Token) × IsSource src k front × (ts ≡ front ++ target_tokens first second)

-- an instruction as it is written: a mnemonic, and an operand that it takes
pub record WritesInsn (template : Template) (ts : List Token) : Type 0 where
  pub name : List ℕ
  pub mnemonic : Mnemonic
  pub operand : Operand
  pub operand_tokens : List Token
  pub tokens : ts ≡ NameToken name ∷ operand_tokens
  pub known : mnemonic_of name ≡ Some mnemonic
  pub written : IsOperand operand operand_tokens
  pub taken : template_of mnemonic operand ≡ Some template

-- an instruction, or none
abbrev pub WritesInsnOrNone : Option Template → List Token → Type 0
WritesInsnOrNone None ts = ts ≡ []
WritesInsnOrNone (Some template) ts = WritesInsn template ts

-- labels, a colon after each
abbrev pub label_tokens : List (List ℕ) → List Token
label_tokens [] = []
label_tokens (name ∷ names) = NameToken name ∷ SignToken 58 ∷ label_tokens names

-- the shape of a line without a fault: its labels, and its instruction if it has one
pub record Shape : Type 0 where
  pub labels : List (List ℕ)
  pub insn : Option Template

-- a line has this shape: its tokens have no fault, and they are the labels and then the instruction
-- if there is one
abbrev pub HasShape : List ℕ → Shape → Type 0
HasShape line shape =
    (rest : List Token) × (line_tokens line ≡ Ok (label_tokens shape.labels ++ rest))
    × WritesInsnOrNone shape.insn rest

-- what a line with this shape reads as
abbrev pub shape_reading : Shape → Reading
shape_reading shape = record { labels = shape.labels; insn = Ok shape.insn }
