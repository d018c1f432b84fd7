-- Control flow: edges, paths from the first instruction, and reads of scratch words that a path
-- leaves unset.
use Rattle.std.specs.Prelude.{ℕ, ◌<◌, ◌≡◌, List, [], ◌∷◌, ◌++◌, length, Some, slice_get}
use Rattle.bpf_insn.specs.declared.insn.Insn.{Insn}
use Rattle.bpf_insn.specs.Flow.{FormLeads}
use Rattle.bpf_insn.specs.Forms.{form}
use Rattle.bpf_insn.specs.Uses.{FormReadsWord, FormWritesWord}

-- an edge of control flow from one index to another
abbrev pub Edge : List Insn → ℕ → ℕ → Type 0
Edge program from to =
    (insn : Insn) × (slice_get program from ≡ Some insn) × FormLeads (form insn.code) insn from to

-- these are indexes of instructions, and an edge leads from each to the next
abbrev pub GoesByEdges : List Insn → List ℕ → Type 0
GoesByEdges program [] = Unit {0}
GoesByEdges program (at ∷ []) = at < length program
GoesByEdges program (at ∷ next ∷ rest) = Edge program at next × GoesByEdges program (next ∷ rest)

-- a path: a list of indexes that begins with the first instruction and goes by edges
abbrev pub IsPath : List Insn → List ℕ → Type 0
IsPath program [] = ⊥
IsPath program (first ∷ rest) = (first ≡ 0) × GoesByEdges program (first ∷ rest)

-- the instruction at this index reads the scratch word
abbrev pub ReadsWord : List Insn → ℕ → ℕ → Type 0
ReadsWord program at word =
    (insn : Insn) × (slice_get program at ≡ Some insn) × FormReadsWord (form insn.code) insn word

-- the instruction at this index writes the scratch word
abbrev pub WritesWord : List Insn → ℕ → ℕ → Type 0
WritesWord program at word =
    (insn : Insn) × (slice_get program at ≡ Some insn) × FormWritesWord (form insn.code) insn word

-- no instruction at these indexes writes the scratch word
abbrev pub NoneWrites : List Insn → List ℕ → ℕ → Type 0
NoneWrites program [] word = Unit {0}
NoneWrites program (at ∷ rest) word = (¬ WritesWord program at word) × NoneWrites program rest word

-- an unset read that ends at this index: a path whose last instruction stands there and reads the
-- word, which no earlier one writes
abbrev pub UnsetReadAt : List Insn → ℕ → List ℕ → ℕ → Type 0
UnsetReadAt program at path word =
    (earlier : List ℕ) × (path ≡ earlier ++ at ∷ [])
    × IsPath program path × ReadsWord program at word × NoneWrites program earlier word

-- an unset read of a word
abbrev pub UnsetRead : List Insn → List ℕ → ℕ → Type 0
UnsetRead program path word = (at : ℕ) × UnsetReadAt program at path word
