-- What a valid program is: a filter program that may run on every frame. Each path sets a scratch
-- word before it reads it.
use Rattle.std.specs.Prelude.{ℕ, ◌-◌, ◌<◌, ◌≤◌, ◌≡◌, ◌⊎◌, List, length, Option, None, Some}
use Rattle.std.specs.Prelude.{slice_get}
use Rattle.bpf_insn.specs.declared.insn.TheConstants.{MAX_INSNS, SCRATCH_WORDS}
use Rattle.bpf_insn.specs.declared.insn.Insn.{Insn}
use Rattle.bpf_insn.specs.declared.form.Form.{Form}
use Rattle.bpf_insn.specs.declared.form.Form.TheVariants.{Alu, RetK, RetA}
use Rattle.bpf_insn.specs.declared.form.Op.TheVariants.{Div, Mod}
use Rattle.bpf_insn.specs.declared.form.Src.TheVariants.{K}
use Rattle.bpf_insn.specs.Flow.{JumpsOut}
use Rattle.bpf_insn.specs.Forms.{form}
use Rattle.bpf_verify.specs.ControlFlow.{ReadsWord, WritesWord, UnsetRead}

-- an instruction of this form returns
abbrev pub FormReturns : Option Form → Type 0
FormReturns (Some RetK) = Unit {0}
FormReturns (Some RetA) = Unit {0}
FormReturns _ = ⊥

-- an instruction of this form divides by the constant 0
abbrev pub FormDividesByZero : Option Form → Insn → Type 0
FormDividesByZero (Some (Alu Div K)) insn = insn.k ≡ 0
FormDividesByZero (Some (Alu Mod K)) insn = insn.k ≡ 0
FormDividesByZero _ insn = ⊥

-- the instruction at this index has no form
abbrev pub LacksForm : List Insn → ℕ → Type 0
LacksForm program at = (insn : Insn) × (slice_get program at ≡ Some insn) × (form insn.code ≡ None)

-- the instruction at this index reads or writes a scratch word past the last
abbrev pub UsesWordPastScratch : List Insn → ℕ → Type 0
UsesWordPastScratch program at =
    (word : ℕ) × (ReadsWord program at word ⊎ WritesWord program at word) × (SCRATCH_WORDS ≤ word)

-- the instruction at this index divides by the constant 0
abbrev pub DividesByZero : List Insn → ℕ → Type 0
DividesByZero program at =
    (insn : Insn) × (slice_get program at ≡ Some insn) × FormDividesByZero (form insn.code) insn

-- the last instruction returns
abbrev pub EndsWithReturn : List Insn → Type 0
EndsWithReturn program =
    (insn : Insn) × (slice_get program (length program - 1) ≡ Some insn)
    × FormReturns (form insn.code)

-- a valid program of at most `most` instructions
pub record ValidWithin (most : ℕ) (program : List Insn) : Type 0 where
  pub some : 0 < length program
  pub fits : length program ≤ most
  pub formed : (at : ℕ) → ¬ LacksForm program at
  pub scratch : (at : ℕ) → ¬ UsesWordPastScratch program at
  pub divisors : (at : ℕ) → ¬ DividesByZero program at
  pub targets : (at : ℕ) → ¬ JumpsOut program at
  pub ends : EndsWithReturn program
  pub no_unset_read : (path : List ℕ) (word : ℕ) → ¬ UnsetRead program path word

-- a valid program
abbrev pub Valid : List Insn → Type 0
Valid program = ValidWithin MAX_INSNS program
