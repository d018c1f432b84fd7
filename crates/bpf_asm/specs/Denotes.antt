-- Which program a text denotes.
use Rattle.std.specs.Prelude.{ℕ, ◌+◌, ◌≡◌, ◌≢◌, ◌<◌, ◌≤◌, List, [], ◌∷◌, ◌++◌, map, length, Option}
use Rattle.std.specs.Prelude.{None, Some, All, AllPairs, Contains}
use Rattle.std.specs.List.{filter_map}
use Rattle.bpf_insn.specs.declared.insn.Insn.{Insn}
use Rattle.bpf_insn.specs.declared.insn.TheConstants.{MAX_INSNS}
use Rattle.bpf_insn.specs.Forms.{code_of}
use Rattle.bpf_asm.specs.Blanked.{without_comments, lines_of}
use Rattle.bpf_asm.specs.Templates.{Template, Jump}
use Rattle.bpf_asm.specs.Templates.Jump.{NoJump, Always, Branch}
use Rattle.bpf_asm.specs.Grammar.{Shape, HasShape}

-- each line has its shape
abbrev pub HaveShapes : List (List ℕ) → List Shape → Type 0
HaveShapes [] [] = Unit {0}
HaveShapes (line ∷ lines) (shape ∷ shapes) = HasShape line shape × HaveShapes lines shapes
HaveShapes lines shapes = ⊥

-- a label, and the index of the instruction after it
pub record Label : Type 0 where
  pub name : List ℕ
  pub at : ℕ

-- the index after a line, which may have an instruction
abbrev pub index_after : ℕ → Option Template → ℕ
index_after at None = at
index_after at (Some template) = at + 1

-- the labels of lines, before the first of which this many instructions stand
abbrev pub labels_from : ℕ → List Shape → List Label
labels_from at [] = []
labels_from at (shape ∷ shapes) =
    map (λ name. record { name = name; at = at }) shape.labels
    ++ labels_from (index_after at shape.insn) shapes

-- the instructions of lines, their labels left open
abbrev pub templates_of : List Shape → List Template
templates_of shapes = filter_map (λ shape. shape.insn) shapes

-- from the instruction with this index the offset leads to the one that the label names: offset 0
-- is the next one
abbrev pub Leads : List Label → ℕ → List ℕ → ℕ → Type 0
Leads labels at name offset = Contains labels (record { name = name; at = at + 1 + offset })

-- the offset of a test's label, which is a byte; a label that is left out is the next instruction
abbrev pub BranchesToLabels : List Label → ℕ → Option (List ℕ) → ℕ → Type 0
BranchesToLabels labels at None offset = offset ≡ 0
BranchesToLabels labels at (Some name) offset = (offset ≤ 255) × Leads labels at name offset

-- the fields of the instruction with this index: those that it doesn't use are 0
abbrev pub HasJumpFields : List Label → ℕ → Jump → ℕ → Insn → Type 0
HasJumpFields labels at NoJump k insn = (insn.jt ≡ 0) × (insn.jf ≡ 0) × (insn.k ≡ k)
HasJumpFields labels at (Always name) k insn =
    (insn.jt ≡ 0) × (insn.jf ≡ 0) × Leads labels at name insn.k
HasJumpFields labels at (Branch holds fails) k insn =
    BranchesToLabels labels at holds insn.jt × BranchesToLabels labels at fails insn.jf
    × (insn.k ≡ k)

-- the instruction with this index is the one that its line says
abbrev pub IsInsn : List Label → ℕ → Template → Insn → Type 0
IsInsn labels at template insn =
    (insn.code ≡ code_of template.form) × HasJumpFields labels at template.jump template.k insn

-- so is each instruction from this index on
abbrev pub AreInsns : List Label → ℕ → List Template → List Insn → Type 0
AreInsns labels at [] [] = Unit {0}
AreInsns labels at (template ∷ templates) (insn ∷ insns) =
    IsInsn labels at template insn × AreInsns labels (at + 1) templates insns
AreInsns labels at templates insns = ⊥

-- the text whose lines have these shapes denotes the program
pub record DenotesBy (shapes : List Shape) (program : List Insn) : Type 0 where
  -- no name stands twice as a label
  pub once : AllPairs (λ l m. l.name ≢ m.name) (labels_from 0 shapes)
  -- each label names the instruction after it
  pub named : All (λ l. l.at < length program) (labels_from 0 shapes)
  -- there are as many instructions as lines with one, and each is the table's
  pub insns : AreInsns (labels_from 0 shapes) 0 (templates_of shapes) program
  pub size : length program ≤ MAX_INSNS

-- the text denotes the program: each line has its shape, and by these shapes the program is the
-- text's
abbrev pub Denotes : List ℕ → List Insn → Type 0
Denotes text program =
    (shapes : List Shape) × HaveShapes (lines_of (without_comments text)) shapes
    × DenotesBy shapes program

-- the text denotes some program
abbrev pub DenotesSome : List ℕ → Type 0
DenotesSome text = (program : List Insn) × Denotes text program
