-- What the verifier's masks say: at each index a bit for each scratch word, which is clear exactly
-- where some path arrives there with the word unwritten.
use Rattle.std.specs.Prelude.{ℕ, ◌<◌, ◌≡◌, ◌⊎◌, ◌↔◌, List, [], ◌∷◌, ◌++◌, length, Some, slice_index}
use Rattle.std.specs.Int.{bit_at}
use Rattle.bpf_insn.specs.declared.insn.Insn.{Insn}
use Rattle.bpf_insn.specs.declared.form.Form.{Form}
use Rattle.bpf_insn.specs.declared.insn.TheConstants.{SCRATCH_WORDS}
use Rattle.bpf_insn.specs.Flow.{FormLeads}
use Rattle.bpf_insn.specs.Uses.{FormWritesWord}
use Rattle.bpf_verify.specs.ControlFlow.{IsPath, NoneWrites}

-- the path arrives at this index, and no instruction before its last writes the word
abbrev pub ArrivesBy : List Insn → ℕ → List ℕ → ℕ → Type 0
ArrivesBy program at path word =
    (earlier : List ℕ) × (path ≡ earlier ++ at ∷ [])
    × IsPath program path × NoneWrites program earlier word

-- some path arrives at this index with the word unwritten
abbrev pub ArrivesUnset : List Insn → ℕ → ℕ → Type 0
ArrivesUnset program at word = (path : List ℕ) × ArrivesBy program at path word

-- the word's bit is clear in the mask
abbrev pub IsClear : ℕ → ℕ → Type 0
IsClear mask word = bit_at mask word ≡ 0

-- the masks say of each index and word whether some path arrives there with the word unwritten
abbrev pub ShowsUnset : List Insn → List ℕ → Type 0
ShowsUnset program masks = (at word : ℕ) → at < length program → word < SCRATCH_WORDS
    → IsClear (slice_index masks at) word ↔ ArrivesUnset program at word

-- the mask after an instruction of this form: a word's bit is clear where it was before and the
-- instruction doesn't write the word
abbrev pub MaskAfter : Form → Insn → ℕ → ℕ → Type 0
MaskAfter f insn old new = (word : ℕ) → word < SCRATCH_WORDS
    → IsClear new word ↔ (IsClear old word × (¬ FormWritesWord (Some f) insn word))

-- the masks after the instruction at an index passed its mask to where it leads: a word's bit is
-- clear where it was before, and where the instruction leads if it is clear in the mask passed
abbrev pub PassesMask : Form → Insn → ℕ → ℕ → List ℕ → List ℕ → Type 0
PassesMask f insn at mask old new = (to word : ℕ) → IsClear (slice_index new to) word
    ↔ (IsClear (slice_index old to) word ⊎ (FormLeads (Some f) insn at to × IsClear mask word))
