-- The program of a text has a text.
-- idea: the instruction of each line fits its form, so its fields can be said; labels stand before instructions, and a test
-- names one label at least, so no target lies past the last instruction
use Rattle.std.proofs.Common.{ℕ, zero, suc, ◌+◌, ◌<◌, ◌≤◌, ◌≡◌, ◌⊎◌, ◌↔◌, inl, inr, false, List, [], ◌∷◌, length}
use Rattle.std.proofs.Common.{slice_get, Option, None, Some, All, refl, sym, ◌∙◌, subst, arith}
use Rattle.std.specs.List.{cons_option}
use Rattle.std.proofs.lemmas.List.Elements.{All-contains}
use Rattle.bpf_insn.specs.declared.insn.Insn.{Insn}
use Rattle.bpf_insn.specs.declared.form.Form.{Form}
use Rattle.bpf_insn.specs.declared.form.Form.TheVariants.{Ja, Test}
use Rattle.bpf_insn.specs.declared.form.Cond.{Cond}
use Rattle.bpf_insn.specs.declared.form.Src.{Src}
use Rattle.bpf_insn.specs.Flow.{FormJumpsOut}
use Rattle.bpf_insn.specs.Forms.{form, code_of}
use Rattle.bpf_insn.specs.Uses.{uses_k}
use Rattle.bpf_asm.specs.Tokens.{Token}
use Rattle.bpf_asm.specs.Templates.{Template, Jump, NamesOne, NamesLabels, FitsForm}
use Rattle.bpf_asm.specs.Templates.Jump.{NoJump, Always, Branch}
use Rattle.bpf_asm.specs.Grammar.{Shape, WritesInsn, WritesInsnOrNone}
use Rattle.bpf_asm.specs.Denotes.{Label, HaveShapes, labels_from, templates_of, Leads, BranchesToLabels, HasJumpFields, IsInsn, AreInsns, Denotes}
use Rattle.bpf_dis.specs.Faults.{UnusedAreZero, FormIsSaid, HasText}
use Rattle.bpf_dis.proofs.ProgramFaults.{said_inside, here_out}

-- the laws of the crates below: each form has one code, and the instruction of a line fits its form
abbrev OneCode : Type 0
OneCode = (code : ℕ) (f : Form) → (form code ≡ Some f) ↔ (code ≡ code_of f)

abbrev LinesFit : Type 0
LinesFit = (template : Template) (tokens : List Token) → WritesInsn template tokens → FitsForm template

-- each of these fits its form
abbrev FitEach : List Template → Type 0
FitEach [] = Unit {0}
FitEach (template ∷ templates) = FitsForm template × FitEach templates

fit_cons : (insn : Option Template) (rest : List Token) (templates : List Template) → LinesFit → WritesInsnOrNone insn rest → FitEach templates
    → FitEach (cons_option insn templates)
fit_cons None rest templates fit h more = more
fit_cons (Some template) rest templates fit h more = (fit template rest h, more)

fit_each : (lines : List (List ℕ)) (shapes : List Shape) → LinesFit → HaveShapes lines shapes → FitEach (templates_of shapes)
fit_each [] [] fit h = tt
fit_each [] (shape ∷ shapes) fit h = absurd h
fit_each (line ∷ lines) [] fit h = absurd h
fit_each (line ∷ lines) (shape ∷ shapes) fit h = fit_cons shape.insn h.0.0 (templates_of shapes) fit h.0.2 (fit_each lines shapes fit h.1)

-- the labels stand before instructions of a program of this length
abbrev AreWithin : ℕ → List Label → Type 0
AreWithin n labels = All (λ label. label.at < n) labels

target_below : (n : ℕ) (labels : List Label) (at : ℕ) (name : List ℕ) (offset : ℕ) → AreWithin n labels → Leads labels at name offset → at + 1 + offset < n
target_below n labels at name offset within leads =
    All-contains (λ (label : Label). label.at < n) labels (record { name = name; at = at + 1 + offset }) within leads

branch_below : (n : ℕ) (labels : List Label) (at : ℕ) (target : Option (List ℕ)) (offset : ℕ) → AreWithin n labels → BranchesToLabels labels at target offset
    → at + 1 < n → at + 1 + offset < n
branch_below n labels at None offset within is next = omega (arith, is, next)
branch_below n labels at (Some name) offset within leads next = target_below n labels at name offset within leads.1

-- an instruction follows a test, since it names a label
next_below : (n : ℕ) (labels : List Label) (at : ℕ) (holds fails : Option (List ℕ)) (jt jf : ℕ) → AreWithin n labels → NamesOne holds fails
    → BranchesToLabels labels at holds jt → BranchesToLabels labels at fails jf → at + 1 < n
next_below n labels at None None jt jf within named h f = absurd named
next_below n labels at (Some name) fails jt jf within named h f = let below = target_below n labels at name jt within h.1 in omega (arith, below)
next_below n labels at None (Some name) jt jf within named h f = let below = target_below n labels at name jf within f.1 in omega (arith, below)

one_below : (n a b to : ℕ) → a < n → b < n → (to ≡ a) ⊎ (to ≡ b) → n ≤ to → ⊥
one_below n a b to ha hb (inl e) past = omega (arith, ha, e, past)
one_below n a b to ha hb (inr e) past = omega (arith, hb, e, past)

-- the fields that this form doesn't use are 0, and no target lies past the end
abbrev IsInside : ℕ → Form → ℕ → Insn → Type 0
IsInside n f at insn = UnusedAreZero f insn × ¬ FormJumpsOut n (Some f) insn at

test_inside : (n : ℕ) (labels : List Label) (cond : Cond) (src : Src) (at k : ℕ) (holds fails : Option (List ℕ)) (insn : Insn) → AreWithin n labels
    → NamesOne holds fails → (uses_k (Test cond src) ≡ false → k ≡ 0) → HasJumpFields labels at (Branch holds fails) k insn → IsInside n (Test cond src) at insn
test_inside n labels cond src at k holds fails insn within named unused h =
    let next = next_below n labels at holds fails insn.jt insn.jf within named h.0 h.1 in
    let jt = branch_below n labels at holds insn.jt within h.0 next in
    let jf = branch_below n labels at fails insn.jf within h.1 next in
    ((λ e. h.2 ∙ unused e, λ e. cc), λ out. one_below n _ _ out.0 jt jf out.1 out.2)

fields_so : (labels : List Label) (at k : ℕ) (jump other : Jump) (insn : Insn) → jump ≡ other → HasJumpFields labels at jump k insn
    → HasJumpFields labels at other k insn
fields_so labels at k jump other insn e h = let P : Jump → Type 0 = λ j. HasJumpFields labels at j k insn in subst P e h

form_inside : (n : ℕ) (labels : List Label) (f : Form) (at k : ℕ) (jump : Jump) (insn : Insn) → AreWithin n labels → NamesLabels f jump
    → (uses_k f ≡ false → k ≡ 0) → HasJumpFields labels at jump k insn → IsInside n f at insn
form_inside n labels Ja at k jump insn within named unused h =
    let fields = fields_so labels at k jump (Always named.0) insn named.1 h in
    let below = target_below n labels at named.0 insn.k within fields.2 in
    ((λ e. cc, λ _. (fields.0, fields.1)), λ out. omega (arith, below, out.1, out.2))
form_inside n labels (Test cond src) at k jump insn within named unused h =
    test_inside n labels cond src at k named.0 named.1 insn within named.3 unused (fields_so labels at k jump (Branch named.0 named.1) insn named.2 h)
form_inside n labels f at k jump insn within named unused h =
    let fields = fields_so labels at k jump NoJump insn named h in
    ((λ e. fields.2 ∙ unused e, λ _. (fields.0, fields.1)), λ out. out.1)

-- the instruction with this index can be said, and its targets lie in a program of this length
abbrev IsSaidInside : ℕ → ℕ → Insn → Type 0
IsSaidInside n at insn = FormIsSaid (form insn.code) insn × ¬ FormJumpsOut n (form insn.code) insn at

insn_said : (n : ℕ) (labels : List Label) (at : ℕ) (template : Template) (insn : Insn) → OneCode → AreWithin n labels → FitsForm template
    → IsInsn labels at template insn → IsSaidInside n at insn
insn_said n labels at template insn one within fits h =
    let inside = form_inside n labels template.form at template.k template.jump insn within fits.labels fits.unused h.1 in
    said_inside n at insn template.form (form insn.code) (sym ((one insn.code template.form).1 h.0)) inside.0 inside.1

-- so does the instruction with an index among those from another on
abbrev StandsSaid : ℕ → ℕ → List Insn → ℕ → Type 0
StandsSaid n at insns i = (insn : Insn) × (slice_get insns i ≡ Some insn) × IsSaidInside n (at + i) insn

said_from : (n : ℕ) (labels : List Label) (at : ℕ) (templates : List Template) (insns : List Insn) (i : ℕ) → OneCode → AreWithin n labels
    → FitEach templates → AreInsns labels at templates insns → i < length insns → StandsSaid n at insns i
said_from n labels at [] [] i one within fit h below = absurd (omega (arith, below))
said_from n labels at [] (insn ∷ insns) i one within fit h below = absurd h
said_from n labels at (template ∷ templates) [] i one within fit h below = absurd h
said_from n labels at (template ∷ templates) (insn ∷ insns) zero one within fit h below =
    let same : at ≡ at + 0 = omega arith in
    let P : ℕ → Type 0 = λ p. IsSaidInside n p insn in
    (insn, refl, subst P same (insn_said n labels at template insn one within fit.0 h.0))
said_from n labels at (template ∷ templates) (insn ∷ insns) (suc i) one within fit h below =
    let more = said_from n labels (at + 1) templates insns i one within fit.1 h.1 (omega (arith, below)) in
    let same : at + 1 + i ≡ at + suc i = omega arith in
    let P : ℕ → Type 0 = λ p. IsSaidInside n p more.0 in
    (more.0, more.1, subst P same more.2)

-- the program of a text has a text
pub has_text : OneCode → LinesFit → (text : List ℕ) (program : List Insn) → Denotes text program → HasText program
has_text one fit text program h = λ at below.
    let n : ℕ = length program in
    let found = said_from n (labels_from 0 h.0) 0 (templates_of h.0) program at one h.2.named (fit_each _ h.0 fit h.1) h.2.insns below in
    let same : 0 + at ≡ at = omega arith in
    let P : ℕ → Type 0 = λ p. IsSaidInside n p found.0 in
    let here = subst P same found.2 in
    ((found.0, found.1, here.0), λ out. here.1 (here_out program at found.0 found.1 out))
