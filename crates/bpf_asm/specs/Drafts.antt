-- What the assembler's values stand for between its two passes, and what each step of a pass does
-- to them.
use Rattle.std.specs.Prelude.{ℕ, ◌+◌, ◌≡◌, ◌≤◌, ◌⊎◌, ◌↔◌, List, [], ◌∷◌, ◌++◌, map, length, Option}
use Rattle.std.specs.Prelude.{None, Some}
use Rattle.std.specs.Prelude.{Contains, Result, MatchResult, if◌then◌else◌, bytes_eq, vec_len}
use Rattle.std.specs.Global.{Vec}
use Rattle.std.specs.BTreeMap.{get_by}
use Rattle.std.specs.Cmp.Lexicographic.{slice_cmp}
use Rattle.std.specs.Ordering.{nat_cmp}
use Rattle.bpf_insn.specs.declared.insn.Insn.{Insn}
use Rattle.bpf_insn.specs.declared.insn.TheConstants.{MAX_INSNS}
use Rattle.bpf_asm.specs.declared.fault.AsmFault.{AsmFault}
use Rattle.bpf_asm.specs.declared.fault.AsmFault.TheVariants.{LabelTwice, TooLong, Memory}
use Rattle.bpf_asm.specs.declared.labels.LabelTable.{LabelTable}
use Rattle.bpf_asm.specs.declared.draft.Draft.{Draft}
use Rattle.bpf_asm.specs.declared.draft.Unlinked.{Unlinked}
use Rattle.bpf_asm.specs.Templates.{Template}
use Rattle.bpf_asm.specs.Grammar.{Shape, HasShape}
use Rattle.bpf_asm.specs.Denotes.{Label, HaveShapes, labels_from, templates_of, Leads}
use Rattle.bpf_asm.specs.Denotes.{BranchesToLabels, IsInsn, AreInsns}
use Rattle.bpf_asm.specs.FirstFault.{names_of, Once, AreFollowed, Unfollowed, LineBreaks}
use Rattle.bpf_asm.specs.FirstFault.{FaultInLine, LabelBreaks, TargetBreaks, JumpBreaks}
use Rattle.bpf_asm.specs.Views.{template_data, jump_data, unlinked_data}

-- the index that a name has in a table of labels
unfoldable pub index_in : LabelTable → List ℕ → Option ℕ
index_in table name = get_by (λ key. slice_cmp nat_cmp name key.now) table.indexes

-- a name gets this index, and each other name keeps its own
abbrev pub Defines : LabelTable → List ℕ → ℕ → LabelTable → Type 0
Defines old name at new =
    (other : List ℕ)
    → index_in new other ≡ if bytes_eq name other then Some at else index_in old other

-- the table has these labels and no others
abbrev pub IsTableOf : List Label → LabelTable → Type 0
IsTableOf labels table =
    (name : List ℕ) (at : ℕ)
    → (index_in table name ≡ Some at) ↔ Contains labels (record { name = name; at = at })

-- the instruction of a line, where there is one, with the line's number, before those of later
-- lines
abbrev pub cons_numbered : ℕ → Option Template → List (Template × ℕ) → List (Template × ℕ)
cons_numbered number None numbered = numbered
cons_numbered number (Some template) numbered = (template, number) ∷ numbered

-- the instructions of lines, each with its line's number; the first line has this number
abbrev pub numbered_templates : ℕ → List Shape → List (Template × ℕ)
numbered_templates number [] = []
numbered_templates number (shape ∷ shapes) =
    cons_numbered number shape.insn (numbered_templates (number + 1) shapes)

abbrev pub templates_in : List Unlinked → List Template
templates_in insns = map (λ insn. template_data insn.template) insns

-- one of these instructions names a label with a fault, and those before it are the table's
pub record BreaksAmong
    (labels : List Label) (insns : List Unlinked) (fault : AsmFault) : Type 0 where
  pub before : List Unlinked
  pub here : Unlinked
  pub after : List Unlinked
  pub whole : insns ≡ before ++ here ∷ after
  pub linked : List Insn
  pub lead : AreInsns labels 0 (templates_in before) linked
  pub breaks : JumpBreaks labels (length before) here.line (jump_data here.template.jump) fault

-- a line with these labels alone
abbrev pub label_shape : List (List ℕ) → Shape
label_shape names = record { labels = names; insn = None }

-- where the last labels stand, if no instruction follows them
abbrev pub EndsLabels : List Shape → Option ℕ → Type 0
EndsLabels shapes None = AreFollowed shapes
EndsLabels shapes (Some number) = Unfollowed shapes number

-- the draft of lines with these shapes
pub record IsDraftOf (shapes : List Shape) (draft : Draft) : Type 0 where
  pub insns : map unlinked_data draft.insns.items ≡ numbered_templates 1 shapes
  pub counted : vec_len draft.insns ≡ length (templates_of shapes)
  pub labels : IsTableOf (labels_from 0 shapes) draft.labels
  pub unfollowed : EndsLabels shapes draft.unfollowed
  pub once : Once (names_of shapes)
  pub size : length (templates_of shapes) ≤ MAX_INSNS

-- out of memory, or one of these names is a label for the second time after lines with these shapes
abbrev pub TwiceOrMemory : List Shape → List (List ℕ) → ℕ → AsmFault → Type 0
TwiceOrMemory shapes names line fault =
    (fault ≡ Memory) ⊎ ((fault ≡ LabelTwice line) × ¬ Once (names_of shapes ++ names))

-- out of memory, or as many instructions as a program may have
abbrev pub FullOrMemory : List Shape → AsmFault → Type 0
FullOrMemory shapes fault =
    (fault ≡ Memory) ⊎ ((fault ≡ TooLong) × (length (templates_of shapes) ≡ MAX_INSNS))

-- the draft of any lines before the line with this number becomes that of those lines and this one,
-- or the fault is that of this line after those
abbrev pub AddsLine : Draft → List ℕ → ℕ → Result (Unit {0}) AsmFault → Draft → Type 0
AddsLine old line number result new =
    (shapes : List Shape) → length shapes + 1 ≡ number → IsDraftOf shapes old
    → MatchResult result
    (λ _. (shape : Shape) × HasShape line shape × IsDraftOf (shapes ++ shape ∷ []) new)
    (λ fault. (fault ≡ Memory) ⊎ LineBreaks shapes line number fault)

-- the same of a line with these labels alone
abbrev pub AddsLabels : Draft → List (List ℕ) → ℕ → Result (Unit {0}) AsmFault → Draft → Type 0
AddsLabels old names number result new =
    (shapes : List Shape) → length shapes + 1 ≡ number → IsDraftOf shapes old
    → MatchResult result
    (λ _. IsDraftOf (shapes ++ label_shape names ∷ []) new)
    (TwiceOrMemory shapes names number)

-- the line with this number, which had any labels alone, gets one more
abbrev pub AddsLabel : Draft → List ℕ → ℕ → Result (Unit {0}) AsmFault → Draft → Type 0
AddsLabel old name number result new =
    (shapes : List Shape) (names : List (List ℕ)) → length shapes + 1 ≡ number
    → IsDraftOf (shapes ++ label_shape names ∷ []) old
    → MatchResult result
    (λ _. IsDraftOf (shapes ++ label_shape (names ++ name ∷ []) ∷ []) new)
    (TwiceOrMemory shapes (names ++ name ∷ []) number)

-- the line with this number, which had any labels alone, gets its instruction
abbrev pub AddsInsn : Draft → Template → ℕ → Result (Unit {0}) AsmFault → Draft → Type 0
AddsInsn old template number result new =
    (shapes : List Shape) (names : List (List ℕ)) → length shapes + 1 ≡ number
    → IsDraftOf (shapes ++ label_shape names ∷ []) old
    → MatchResult result
    (λ _. IsDraftOf (shapes ++ record { labels = names; insn = Some template } ∷ []) new)
    (FullOrMemory shapes)

-- the draft of all lines, or the first fault of a line
abbrev pub ReadsLines : List (List ℕ) → Result Draft AsmFault → Type 0
ReadsLines lines result =
    MatchResult result
    (λ draft. (shapes : List Shape) × HaveShapes lines shapes × IsDraftOf shapes draft)
    (λ fault. (fault ≡ Memory) ⊎ FaultInLine lines fault)

-- the instructions of the draft by its labels, or the first fault of a jump
abbrev pub LinksAll : Draft → Result (Vec Insn) AsmFault → Type 0
LinksAll draft result =
    (labels : List Label) → IsTableOf labels draft.labels
    → MatchResult result
    (λ program. AreInsns labels 0 (templates_in draft.insns.items) program.items)
    (λ fault. (fault ≡ Memory) ⊎ BreaksAmong labels draft.insns.items fault)

-- the instruction with this index by the labels of a table, or the first fault of its labels
abbrev pub LinksInsn : LabelTable → ℕ → Unlinked → Result Insn AsmFault → Type 0
LinksInsn table at insn result =
    (labels : List Label) → IsTableOf labels table
    → MatchResult result
    (IsInsn labels at (template_data insn.template))
    (JumpBreaks labels at insn.line (jump_data insn.template.jump))

-- the offset in a test with this index, or the fault of its label
abbrev pub LinksTarget : LabelTable → ℕ → ℕ → Option (List ℕ) → Result ℕ AsmFault → Type 0
LinksTarget table at number target result =
    (labels : List Label) → IsTableOf labels table
    → MatchResult result (BranchesToLabels labels at target) (TargetBreaks labels at number target)

-- the offset from the instruction with this index to a label, or the label's fault
abbrev pub LinksLabel : LabelTable → ℕ → ℕ → List ℕ → Result ℕ AsmFault → Type 0
LinksLabel table at number name result =
    (labels : List Label) → IsTableOf labels table
    → MatchResult result (Leads labels at name) (LabelBreaks labels at number name)
