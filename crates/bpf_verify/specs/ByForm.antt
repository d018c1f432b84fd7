-- What an instruction's own conditions come to once its form is known.
use Rattle.std.specs.Prelude.{ℕ, ◌≤◌, ◌≡◌, ◌⊎◌, List, Some, slice_get}
use Rattle.bpf_insn.specs.declared.insn.Insn.{Insn}
use Rattle.bpf_insn.specs.declared.form.Form.{Form}
use Rattle.bpf_insn.specs.declared.insn.TheConstants.{SCRATCH_WORDS}
use Rattle.bpf_insn.specs.Forms.{form}
use Rattle.bpf_insn.specs.Uses.{FormReadsWord, FormWritesWord}

-- this instruction, of this form, stands at the index
abbrev pub IsAt : List Insn → ℕ → Form → Insn → Type 0
IsAt program at f insn = (slice_get program at ≡ Some insn) × (form insn.code ≡ Some f)

-- an instruction of this form reads or writes the scratch word k, which is past the last
abbrev pub FormUsesWordPastScratch : Form → Insn → Type 0
FormUsesWordPastScratch f insn =
    (FormReadsWord (Some f) insn insn.k ⊎ FormWritesWord (Some f) insn insn.k)
    × (SCRATCH_WORDS ≤ insn.k)
