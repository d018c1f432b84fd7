-- Which programs have a text, and the first fault of one that has none.
use Rattle.std.specs.Prelude.{ℕ, ◌<◌, ◌≡◌, false, List, length, Option, None, Some, slice_get}
use Rattle.bpf_insn.specs.declared.insn.Insn.{Insn}
use Rattle.bpf_insn.specs.declared.form.Form.{Form}
use Rattle.bpf_insn.specs.Flow.{FormJumpsOut, JumpsOut}
use Rattle.bpf_insn.specs.Forms.{form}
use Rattle.bpf_insn.specs.Uses.{uses_k, uses_distances}
use Rattle.bpf_dis.specs.declared.fault.DisFault.{DisFault}
use Rattle.bpf_dis.specs.declared.fault.DisFault.TheVariants.{NoForm, JumpOut, Memory}

-- the fields that an instruction of this form doesn't use are 0
abbrev pub UnusedAreZero : Form → Insn → Type 0
UnusedAreZero form insn =
    (uses_k form ≡ false → insn.k ≡ 0)
    × (uses_distances form ≡ false → (insn.jt ≡ 0) × (insn.jf ≡ 0))

-- a text can say the instruction: it has this form, and the fields that a text doesn't show are 0
abbrev pub FormIsSaid : Option Form → Insn → Type 0
FormIsSaid None insn = ⊥
FormIsSaid (Some form) insn = UnusedAreZero form insn

-- the instruction with this index can be said
abbrev pub IsSaid : List Insn → ℕ → Type 0
IsSaid program at =
    (insn : Insn) × (slice_get program at ≡ Some insn) × FormIsSaid (form insn.code) insn

-- each instruction below this index can be said, and its jumps lead to instructions
abbrev pub AreSaidBefore : List Insn → ℕ → Type 0
AreSaidBefore program bound = (at : ℕ) → at < bound → IsSaid program at × ¬ JumpsOut program at

-- the program has a text
abbrev pub HasText : List Insn → Type 0
HasText program = AreSaidBefore program (length program)

-- the program has no text for this fault: the first instruction that can't be said or jumps out
abbrev pub IsTextFaultOf : List Insn → DisFault → Type 0
IsTextFaultOf program (NoForm at) =
    (at < length program) × AreSaidBefore program at × ¬ IsSaid program at
IsTextFaultOf program (JumpOut at) =
    (at < length program) × AreSaidBefore program at × IsSaid program at × JumpsOut program at
IsTextFaultOf program Memory = ⊥

-- an instruction of this form, with this index in a program of `len`, has this fault
abbrev pub FormHasFault : ℕ → Option Form → ℕ → Insn → DisFault → Type 0
FormHasFault len form at insn (NoForm index) = (index ≡ at) × ¬ FormIsSaid form insn
FormHasFault len form at insn (JumpOut index) =
    (index ≡ at) × FormIsSaid form insn × FormJumpsOut len form insn at
FormHasFault len form at insn Memory = ⊥
