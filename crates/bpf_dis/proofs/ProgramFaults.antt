-- The first fault of a program is that of its first instruction with one.
use Rattle.std.proofs.Common.{ℕ, ◌+◌, ◌<◌, ◌≡◌, ◌⊎◌, inl, inr, List, length, slice_get, Option, Some, sym, ap, subst, below_more}
use Rattle.std.proofs.lemmas.Bool.{cases_order}
use Rattle.bpf_insn.specs.declared.insn.Insn.{Insn}
use Rattle.bpf_insn.specs.declared.form.Form.{Form}
use Rattle.bpf_insn.specs.Flow.{FormJumpsOut, JumpsOut}
use Rattle.bpf_insn.specs.Forms.{form}
use Rattle.bpf_dis.specs.declared.fault.DisFault.{DisFault}
use Rattle.bpf_dis.specs.declared.fault.DisFault.TheVariants.{NoForm, JumpOut, Memory}
use Rattle.bpf_dis.specs.Faults.{UnusedAreZero, FormIsSaid, IsSaid, AreSaidBefore, HasText, IsTextFaultOf, FormHasFault}
use Rattle.bpf_dis.proofs.ProgramTexts.{same_insn}

-- an instruction of this form that can be said and stays inside
pub said_inside : (len at : ℕ) (insn : Insn) (f : Form) (o : Option Form) → Some f ≡ o → UnusedAreZero f insn → ¬ FormJumpsOut len (Some f) insn at
    → FormIsSaid o insn × ¬ FormJumpsOut len o insn at
said_inside len at insn f o formed unused inside =
    let P : Option Form → Type 0 = λ o. FormIsSaid o insn × ¬ FormJumpsOut len o insn at in
    subst P formed (unused, inside)

-- what is said of whatever instruction stands at an index is said of this one
here_said : (program : List Insn) (at : ℕ) (insn : Insn) → slice_get program at ≡ Some insn → IsSaid program at → FormIsSaid (form insn.code) insn
here_said program at insn stands said =
    let P : Insn → Type 0 = λ i. FormIsSaid (form i.code) i in
    subst P (same_insn program at said.0 insn said.1 stands) said.2

-- so is a jump out
pub here_out : (program : List Insn) (at : ℕ) (insn : Insn) → slice_get program at ≡ Some insn → JumpsOut program at
    → FormJumpsOut (length program) (form insn.code) insn at
here_out program at insn stands out =
    let P : Insn → Type 0 = λ i. FormJumpsOut (length program) (form i.code) i at in
    subst P (same_insn program at out.0 insn out.1 stands) out.2

-- the fault of an instruction before which there is none is the program's
pub fault_is : (program : List Insn) (at : ℕ) (insn : Insn) (fault : DisFault) → slice_get program at ≡ Some insn → at < length program
    → AreSaidBefore program at
    → FormHasFault (length program) (form insn.code) at insn fault → IsTextFaultOf program fault
fault_is program at insn (NoForm index) stands below before has =
    let P : ℕ → Type 0 = λ p. IsTextFaultOf program (NoForm p) in
    subst P (sym has.0) (below, before, λ said. has.1 (here_said program at insn stands said))
fault_is program at insn (JumpOut index) stands below before has =
    let P : ℕ → Type 0 = λ p. IsTextFaultOf program (JumpOut p) in
    subst P (sym has.0) (below, before, (insn, stands, has.1), (insn, stands, has.2))
fault_is program at insn Memory stands below before has = absurd has

-- one more instruction without a fault
pub said_more : (program : List Insn) (at : ℕ) (insn : Insn) → slice_get program at ≡ Some insn → AreSaidBefore program at
    → FormIsSaid (form insn.code) insn × ¬ FormJumpsOut (length program) (form insn.code) insn at → AreSaidBefore program (at + 1)
said_more program at insn stands before well = below_more _ _ before ((insn, stands, well.0), λ out. well.1 (here_out program at insn stands out))

-- the jumps of an instruction of a program that has a text
pub inside_at : (program : List Insn) (at : ℕ) (insn : Insn) (f : Form) → HasText program → at < length program → slice_get program at ≡ Some insn
    → Some f ≡ form insn.code
    → ¬ FormJumpsOut (length program) (Some f) insn at
inside_at program at insn f text below stands formed =
    let P : Option Form → Type 0 = λ o. ¬ FormJumpsOut (length program) o insn at in
    subst P (sym formed) (λ out. (text at below).1 (insn, stands, out))

-- a program that has a text has no fault
pub no_fault : (program : List Insn) (fault : DisFault) → HasText program → IsTextFaultOf program fault → ⊥
no_fault program (NoForm at) text h = h.2 (text at h.0).0
no_fault program (JumpOut at) text h = (text at h.0).1 h.3
no_fault program Memory text h = h

-- the instruction at the index of a fault has it
abbrev FaultHere : List Insn → ℕ → Type 0
FaultHere program at = IsSaid program at × ¬ JumpsOut program at → ⊥

one_index : (program : List Insn) (at index : ℕ) → AreSaidBefore program at → FaultHere program at → AreSaidBefore program index → FaultHere program index
    → (at ≡ index) ⊎ ((at < index) ⊎ (index < at)) → at ≡ index
one_index program at index before here earlier there (inl same) = same
one_index program at index before here earlier there (inr (inl below)) = absurd (here (earlier at below))
one_index program at index before here earlier there (inr (inr above)) = absurd (there (before index above))

-- a program has one fault at most
pub one_fault : (program : List Insn) (f g : DisFault) → IsTextFaultOf program f → IsTextFaultOf program g → f ≡ g
one_fault program (NoForm at) (NoForm index) h k =
    ap NoForm (one_index program at index h.1 (λ both. h.2 both.0) k.1 (λ both. k.2 both.0) (cases_order at index))
one_fault program (NoForm at) (JumpOut index) h k =
    let same = one_index program at index h.1 (λ both. h.2 both.0) k.1 (λ both. both.1 k.3) (cases_order at index) in
    let P : ℕ → Type 0 = λ p. IsSaid program p in
    absurd (h.2 (subst P (sym same) k.2))
one_fault program (JumpOut at) (NoForm index) h k =
    let same = one_index program at index h.1 (λ both. both.1 h.3) k.1 (λ both. k.2 both.0) (cases_order at index) in
    let P : ℕ → Type 0 = λ p. IsSaid program p in
    absurd (k.2 (subst P same h.2))
one_fault program (JumpOut at) (JumpOut index) h k =
    ap JumpOut (one_index program at index h.1 (λ both. both.1 h.3) k.1 (λ both. both.1 k.3) (cases_order at index))
one_fault program f Memory h k = absurd k
one_fault program Memory g h k = absurd h
