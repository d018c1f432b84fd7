-- Which fault the instruction of a line has, by the grammar: a fault of the tokens that follow the
-- line's labels.
use Rattle.std.specs.Prelude.{ℕ, ◌≡◌, ◌≢◌, List, ◌∷◌, ◌++◌, None, Some, Ok, Err}
use Rattle.bpf_asm.specs.declared.fault.LineFault.{LineFault}
use Rattle.bpf_asm.specs.declared.fault.LineFault.TheVariants.{Syntax, UnknownMnemonic}
use Rattle.bpf_asm.specs.declared.fault.LineFault.TheVariants.{OperandNotAllowed}
use Rattle.bpf_asm.specs.declared.mnemonic.Mnemonic.{Mnemonic}
use Rattle.bpf_asm.specs.Tokens.{Token, line_tokens}
use Rattle.bpf_asm.specs.Tokens.Token.{NameToken, SignToken}
use Rattle.bpf_asm.specs.Operands.{Operand}
use Rattle.bpf_asm.specs.Mnemonics.{mnemonic_of}
use Rattle.bpf_asm.specs.Templates.{template_of}
use Rattle.bpf_asm.specs.Lines.{Reading}
use Rattle.bpf_asm.specs.Grammar.{IsOperand, label_tokens}

-- no operand is written so
abbrev pub IsNoOperand : List Token → Type 0
IsNoOperand ts = (operand : Operand) → ¬ IsOperand operand ts

-- tokens that write no instruction, and their first fault; where there are no tokens there is none
pub data InsnBreaks : List Token → LineFault → Type 0 where
  -- what stands in front is no name
  NoName : (token : Token) (ts : List Token) → ((name : List ℕ) → token ≢ NameToken name)
      → InsnBreaks (token ∷ ts) Syntax
  -- a name stands in front, but it is no mnemonic
  NoMnemonic : (name : List ℕ) (ts : List Token) → mnemonic_of name ≡ None
      → InsnBreaks (NameToken name ∷ ts) UnknownMnemonic
  -- a mnemonic stands in front, but no operand is written after it
  NoOperand : (name : List ℕ) (mnemonic : Mnemonic) (ts : List Token)
      → mnemonic_of name ≡ Some mnemonic → IsNoOperand ts → InsnBreaks (NameToken name ∷ ts) Syntax
  -- a mnemonic and an operand, which it doesn't take
  NotTaken : (name : List ℕ) (mnemonic : Mnemonic) (operand : Operand) (ts : List Token)
      → mnemonic_of name ≡ Some mnemonic → IsOperand operand ts
      → template_of mnemonic operand ≡ None
      → InsnBreaks (NameToken name ∷ ts) OperandNotAllowed

-- no label, a name and a colon, stands in front
abbrev pub BeginsWithNoLabel : List Token → Type 0
BeginsWithNoLabel ts =
    (name : List ℕ) (rest : List Token) → ts ≢ NameToken name ∷ SignToken 58 ∷ rest

-- a line whose tokens have no fault, with these labels and with this fault of what follows them
abbrev pub HasInsnFault : List ℕ → List (List ℕ) → LineFault → Type 0
HasInsnFault line labels fault =
    (rest : List Token) × (line_tokens line ≡ Ok (label_tokens labels ++ rest))
    × BeginsWithNoLabel rest × InsnBreaks rest fault

-- what such a line reads as
abbrev pub fault_reading : List (List ℕ) → LineFault → Reading
fault_reading labels fault = record { labels = labels; insn = Err fault }
