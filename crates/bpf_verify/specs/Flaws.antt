-- The first condition of a valid program that a program breaks, at the least index where it breaks
-- one. It is a refusal but for the path of an unset read.
use Rattle.std.specs.Prelude.{ℕ, ◌<◌, ◌≤◌, ◌≡◌, ◌⊎◌, List, length}
use Rattle.bpf_insn.specs.declared.insn.TheConstants.{MAX_INSNS}
use Rattle.bpf_insn.specs.declared.insn.Insn.{Insn}
use Rattle.bpf_insn.specs.Flow.{JumpsOut}
use Rattle.bpf_verify.specs.declared.flaw.Flaw.{Flaw}
use Rattle.bpf_verify.specs.declared.flaw.Flaw.TheVariants.{Empty, TooLong, BadOpcode, BadScratch}
use Rattle.bpf_verify.specs.declared.flaw.Flaw.TheVariants.{ZeroDivisor, JumpOut, NoReturn, Unset}
use Rattle.bpf_verify.specs.ControlFlow.{ReadsWord, UnsetReadAt}
use Rattle.bpf_verify.specs.Masks.{ArrivesUnset}
use Rattle.bpf_verify.specs.Validity.{LacksForm, UsesWordPastScratch, DividesByZero, EndsWithReturn}

-- the program has 1 to MAX_INSNS instructions
abbrev pub HasLength : List Insn → Type 0
HasLength program = (0 < length program) × (length program ≤ MAX_INSNS)

-- the instruction at this index breaks one of the four conditions on single instructions
abbrev pub BreaksAt : List Insn → ℕ → Type 0
BreaksAt program at =
    (LacksForm program at ⊎ UsesWordPastScratch program at)
    ⊎ (DividesByZero program at ⊎ JumpsOut program at)

-- the flaw names the condition that the instruction at this index breaks
abbrev pub BreaksAs : List Insn → ℕ → Flaw → Type 0
BreaksAs program at (BadOpcode place) = (place ≡ at) × LacksForm program at
BreaksAs program at (BadScratch place) = (place ≡ at) × UsesWordPastScratch program at
BreaksAs program at (ZeroDivisor place) = (place ≡ at) × DividesByZero program at
BreaksAs program at (JumpOut place) = (place ≡ at) × JumpsOut program at
BreaksAs program at _ = ⊥

-- no instruction before this index breaks one
abbrev pub NoneBreaksBelow : List Insn → ℕ → Type 0
NoneBreaksBelow program bound = (at : ℕ) → at < bound → ¬ BreaksAt program at

-- every condition of a valid program holds but that it has no unset read, which is not judged
pub record IsWellFormed (program : List Insn) : Type 0 where
  pub sized : HasLength program
  pub unbroken : NoneBreaksBelow program (length program)
  pub ends : EndsWithReturn program

-- no unset read of any word ends before this index
abbrev pub NoUnsetReadBelow : List Insn → ℕ → Type 0
NoUnsetReadBelow program bound = (at : ℕ) (path : List ℕ) (word : ℕ) → at < bound
    → ¬ UnsetReadAt program at path word

-- the flaw is the first condition that the program breaks
abbrev pub HasFlaw : List Insn → Flaw → Type 0
HasFlaw program Empty = length program ≡ 0
HasFlaw program TooLong = MAX_INSNS < length program
HasFlaw program (BadOpcode at) =
    HasLength program × NoneBreaksBelow program at × LacksForm program at
HasFlaw program (BadScratch at) =
    HasLength program × NoneBreaksBelow program at × UsesWordPastScratch program at
HasFlaw program (ZeroDivisor at) =
    HasLength program × NoneBreaksBelow program at × DividesByZero program at
HasFlaw program (JumpOut at) =
    HasLength program × NoneBreaksBelow program at × JumpsOut program at
HasFlaw program NoReturn =
    HasLength program × NoneBreaksBelow program (length program) × (¬ EndsWithReturn program)
HasFlaw program (Unset at word) =
    IsWellFormed program × NoUnsetReadBelow program at
    × ReadsWord program at word × ArrivesUnset program at word
