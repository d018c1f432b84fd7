-- Where the jumps of a program lead, and which lines have a label.
use Rattle.std.specs.Prelude.{ℕ, ◌+◌, ◌≡◌, ◌<◌, Bool, false, ◌||◌, ◌==◌, List, [], ◌∷◌, ◌++◌}
use Rattle.std.specs.Prelude.{length, Option, Some, slice_get, slice_index_or, Contains}
use Rattle.std.specs.List.{list_any}
use Rattle.bpf_insn.specs.declared.insn.Insn.{Insn}
use Rattle.bpf_insn.specs.declared.form.Form.{Form}
use Rattle.bpf_insn.specs.Flow.{jump_targets}
use Rattle.bpf_insn.specs.Forms.{form}

-- the indexes to which instructions may jump; the first of these has this index
abbrev pub targets_from : ℕ → List Insn → List ℕ
targets_from at [] = []
targets_from at (insn ∷ insns) =
    jump_targets (form insn.code) insn at ++ targets_from (at + 1) insns

-- some jump of the program leads to this index
abbrev pub is_target : List Insn → ℕ → Bool
is_target program to = list_any (λ target. target == to) (targets_from 0 program)

-- an instruction of the program may jump to this index
abbrev pub SomeJumpLeads : List Insn → ℕ → Type 0
SomeJumpLeads program to =
    (at : ℕ) × (insn : Insn) × (slice_get program at ≡ Some insn)
    × Contains (jump_targets (form insn.code) insn at) to

-- each index to which the instruction with this index may jump becomes labelled, and no other
-- changes
abbrev pub LabelsTargets : List Bool → Option Form → Insn → ℕ → List Bool → Type 0
LabelsTargets old form insn at new =
    (to : ℕ) → to < length old
    → slice_index_or new to false
    ≡ (slice_index_or old to false
    || list_any (λ target. target == to) (jump_targets form insn at))

-- the indexes that are labelled are those to which a jump of the program leads
abbrev pub LabelsAll : List Insn → List Bool → Type 0
LabelsAll program labelled =
    (to : ℕ) → to < length program → slice_index_or labelled to false ≡ is_target program to
