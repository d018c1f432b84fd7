-- A label that an instruction names leads on, or it has one fault.
use Rattle.std.proofs.Common.{ℕ, ◌+◌, ◌-◌, ◌≡◌, ◌≢◌, ◌<◌, ◌≤◌, ◌⊎◌, inl, inr, true, false, List, [], ◌∷◌}
use Rattle.std.proofs.Common.{Option, None, Some, refl, sym, ◌∙◌, ap, arith, subst, All, Contains}
use Rattle.std.proofs.lemmas.Bool.{cases_Bool, cases_lt}
use Rattle.std.proofs.lemmas.List.Elements.{All-contains, All-nil, All-cons, Contains-append_right}
use Rattle.std.proofs.lemmas.Slice.Eq.{bytes_eq-Decides}
use Rattle.std.specs.Str.{bytes_eq}
use Rattle.bpf_insn.specs.declared.insn.Insn.{Insn}
use Rattle.bpf_asm.specs.declared.fault.AsmFault.{AsmFault}
use Rattle.bpf_asm.specs.declared.fault.AsmFault.TheVariants.{LabelMissing, Backward, TooFar}
use Rattle.bpf_insn.specs.Forms.{code_of}
use Rattle.bpf_asm.specs.Templates.{Template, Jump}
use Rattle.bpf_asm.specs.Templates.Jump.{NoJump, Always, Branch}
use Rattle.bpf_asm.specs.Denotes.{Label, Leads, BranchesToLabels, HasJumpFields, IsInsn}
use Rattle.bpf_asm.specs.FirstFault.{LabelBreaks, TargetBreaks, JumpBreaks}
use Rattle.bpf_asm.specs.FirstFault.LabelBreaks.{Missing, Back}
use Rattle.bpf_asm.proofs.Programs.{one_index}
use Rattle.bpf_asm.proofs.ShapeLists.{LabelledOnce, label_at}

missing_none : (labels : List Label) (name : List ℕ) (target : ℕ) → All (λ l. l.name ≢ name) labels → Contains labels (label_at target name) → ⊥
missing_none labels name target none there = All-contains (λ (l : Label). l.name ≢ name) labels (label_at target name) none there refl

-- a label that leads on has no fault
leads_well : (labels : List Label) (at number : ℕ) (name : List ℕ) (offset : ℕ) (fault : AsmFault) → LabelledOnce labels → Leads labels at name offset
    → LabelBreaks labels at number name fault → ⊥
leads_well labels at number name offset fault once leads (Missing none) = missing_none labels name (at + 1 + offset) none leads
leads_well labels at number name offset fault once leads (Back target there back) =
    let same : at + 1 + offset ≡ target = one_index labels name (at + 1 + offset) target once leads there in
    absurd (omega (arith, same, back))

target_well : (labels : List Label) (at number : ℕ) (target : Option (List ℕ)) (offset : ℕ) (fault : AsmFault) → LabelledOnce labels
    → BranchesToLabels labels at target offset → TargetBreaks labels at number target fault → ⊥
target_well labels at number None offset fault once leads breaks = breaks
target_well labels at number (Some name) offset fault once leads (inl breaks) = leads_well labels at number name offset fault once leads.1 breaks
target_well labels at number (Some name) offset fault once leads (inr far) =
    let same : at + 1 + offset ≡ at + 1 + far.0.0 = one_index labels name (at + 1 + offset) (at + 1 + far.0.0) once leads.1 far.0.1 in
    absurd (omega (arith, same, leads.0, far.0.2))

fields_well : (labels : List Label) (at number k : ℕ) (jump : Jump) (insn : Insn) (fault : AsmFault) → LabelledOnce labels → HasJumpFields labels at jump k insn
    → JumpBreaks labels at number jump fault → ⊥
fields_well labels at number k NoJump insn fault once fields breaks = breaks
fields_well labels at number k (Always name) insn fault once fields breaks = leads_well labels at number name insn.k fault once fields.2 breaks
fields_well labels at number k (Branch holds fails) insn fault once fields (inl breaks) =
    target_well labels at number holds insn.jt fault once fields.0 breaks
fields_well labels at number k (Branch holds fails) insn fault once fields (inr breaks) =
    target_well labels at number fails insn.jf fault once fields.1 breaks.1

-- an instruction of the table has no fault
pub insn_well : (labels : List Label) (at number : ℕ) (template : Template) (insn : Insn) (fault : AsmFault) → LabelledOnce labels
    → IsInsn labels at template insn → JumpBreaks labels at number template.jump fault → ⊥
insn_well labels at number template insn fault once h breaks = fields_well labels at number template.k template.jump insn fault once h.1 breaks

one_label_fault : (labels : List Label) (at number : ℕ) (name : List ℕ) (f g : AsmFault) → LabelBreaks labels at number name f
    → LabelBreaks labels at number name g → f ≡ g
one_label_fault labels at number name f g (Missing none) (Missing none') = refl
one_label_fault labels at number name f g (Missing none) (Back target there back) = absurd (missing_none labels name target none there)
one_label_fault labels at number name f g (Back target there back) (Missing none) = absurd (missing_none labels name target none there)
one_label_fault labels at number name f g (Back target there back) (Back target' there' back') = refl

one_target_fault : (labels : List Label) (at number : ℕ) (target : Option (List ℕ)) (f g : AsmFault) → LabelledOnce labels
    → TargetBreaks labels at number target f → TargetBreaks labels at number target g → f ≡ g
one_target_fault labels at number None f g once h k = absurd h
one_target_fault labels at number (Some name) f g once (inl h) (inl k) = one_label_fault labels at number name f g h k
one_target_fault labels at number (Some name) f g once (inl h) (inr k) = absurd (leads_well labels at number name k.0.0 f once k.0.1 h)
one_target_fault labels at number (Some name) f g once (inr h) (inl k) = absurd (leads_well labels at number name h.0.0 g once h.0.1 k)
one_target_fault labels at number (Some name) f g once (inr h) (inr k) = h.1 ∙ sym k.1

-- an instruction has one first fault
pub one_jump_fault : (labels : List Label) (at number : ℕ) (jump : Jump) (f g : AsmFault) → LabelledOnce labels → JumpBreaks labels at number jump f
    → JumpBreaks labels at number jump g → f ≡ g
one_jump_fault labels at number NoJump f g once h k = absurd h
one_jump_fault labels at number (Always name) f g once h k = one_label_fault labels at number name f g h k
one_jump_fault labels at number (Branch holds fails) f g once (inl h) (inl k) = one_target_fault labels at number holds f g once h k
one_jump_fault labels at number (Branch holds fails) f g once (inl h) (inr k) = absurd (target_well labels at number holds k.0.0 f once k.0.1 h)
one_jump_fault labels at number (Branch holds fails) f g once (inr h) (inl k) = absurd (target_well labels at number holds h.0.0 g once h.0.1 k)
one_jump_fault labels at number (Branch holds fails) f g once (inr h) (inr k) = one_target_fault labels at number fails f g once h.1 k.1

-- An index for a name among labels.
abbrev pub HasIndex : List Label → List ℕ → Type 0
HasIndex labels name = (target : ℕ) × Contains labels (label_at target name)

has_more : (label : Label) (labels : List Label) (name : List ℕ) → HasIndex labels name → HasIndex (label ∷ labels) name
has_more label labels name h = (h.0, Contains-append_right (label ∷ []) labels (label_at h.0 name) h.1)

has_first : (label : Label) (labels : List Label) (name : List ℕ) → label.name ≡ name → HasIndex (label ∷ labels) name
has_first label labels name e = (label.at, (0, omega arith, ap (label_at label.at) e))

find_cases : (label : Label) (labels : List Label) (name : List ℕ) → HasIndex labels name ⊎ All (λ l. l.name ≢ name) labels
    → (bytes_eq label.name name ≡ true) ⊎ (bytes_eq label.name name ≡ false) → HasIndex (label ∷ labels) name ⊎ All (λ l. l.name ≢ name) (label ∷ labels)
find_cases label labels name (inl found) same = inl (has_more label labels name found)
find_cases label labels name (inr none) (inl same) = inl (has_first label labels name ((bytes_eq-Decides label.name name).0 same))
find_cases label labels name (inr none) (inr other) =
    let differs : label.name ≢ name = λ e. let yes = (bytes_eq-Decides label.name name).1 e in cc in
    inr (All-cons (λ (l : Label). l.name ≢ name) label labels differs none)

-- a name is a label or not
pub find_label : (labels : List Label) (name : List ℕ) → HasIndex labels name ⊎ All (λ l. l.name ≢ name) labels
find_label [] name = inr (All-nil (λ (l : Label). l.name ≢ name))
find_label (label ∷ labels) name = find_cases label labels name (find_label labels name) (cases_Bool (bytes_eq label.name name))

-- an offset that leads to a label, or its fault
abbrev pub LeadsOrBreaks : List Label → ℕ → ℕ → List ℕ → Type 0
LeadsOrBreaks labels at number name = ((offset : ℕ) × Leads labels at name offset) ⊎ ((fault : AsmFault) × LabelBreaks labels at number name fault)

index_step : (labels : List Label) (at number : ℕ) (name : List ℕ) (target : ℕ) → Contains labels (label_at target name) → (at < target) ⊎ (target ≤ at)
    → LeadsOrBreaks labels at number name
index_step labels at number name target there (inl on) =
    let e : target ≡ at + 1 + (target - (at + 1)) = omega (arith, on) in
    let P : ℕ → Type 0 = λ p. Contains labels (label_at p name) in
    inl (target - (at + 1), subst P e there)
index_step labels at number name target there (inr back) = inr (Backward number, Back target there back)

label_cases : (labels : List Label) (at number : ℕ) (name : List ℕ) → HasIndex labels name ⊎ All (λ l. l.name ≢ name) labels
    → LeadsOrBreaks labels at number name
label_cases labels at number name (inl found) = index_step labels at number name found.0 found.1 (cases_lt at found.0)
label_cases labels at number name (inr none) = inr (LabelMissing number, Missing none)

label_step : (labels : List Label) (at number : ℕ) (name : List ℕ) → LeadsOrBreaks labels at number name
label_step labels at number name = label_cases labels at number name (find_label labels name)

abbrev BranchesOrBreaks : List Label → ℕ → ℕ → Option (List ℕ) → Type 0
BranchesOrBreaks labels at number target =
    ((offset : ℕ) × BranchesToLabels labels at target offset) ⊎ ((fault : AsmFault) × TargetBreaks labels at number target fault)

offset_cases : (labels : List Label) (at number : ℕ) (name : List ℕ) (offset : ℕ) → Leads labels at name offset → (255 < offset) ⊎ (offset ≤ 255)
    → BranchesOrBreaks labels at number (Some name)
offset_cases labels at number name offset leads (inl far) = inr (TooFar number, inr ((offset, leads, far), refl))
offset_cases labels at number name offset leads (inr near) = inl (offset, (near, leads))

target_cases : (labels : List Label) (at number : ℕ) (name : List ℕ) → LeadsOrBreaks labels at number name → BranchesOrBreaks labels at number (Some name)
target_cases labels at number name (inl leads) = offset_cases labels at number name leads.0 leads.1 (cases_lt 255 leads.0)
target_cases labels at number name (inr breaks) = inr (breaks.0, inl breaks.1)

target_step : (labels : List Label) (at number : ℕ) (target : Option (List ℕ)) → BranchesOrBreaks labels at number target
target_step labels at number None = inl (0, refl)
target_step labels at number (Some name) = target_cases labels at number name (label_step labels at number name)

abbrev FieldsOrBreaks : List Label → ℕ → ℕ → ℕ → ℕ → Jump → Type 0
FieldsOrBreaks labels at number code k jump =
    ((insn : Insn) × (insn.code ≡ code) × HasJumpFields labels at jump k insn) ⊎ ((fault : AsmFault) × JumpBreaks labels at number jump fault)

always_cases : (labels : List Label) (at number code k : ℕ) (name : List ℕ) → LeadsOrBreaks labels at number name
    → FieldsOrBreaks labels at number code k (Always name)
always_cases labels at number code k name (inl leads) = inl (record { code = code; jt = 0; jf = 0; k = leads.0 }, refl, (refl, refl, leads.1))
always_cases labels at number code k name (inr breaks) = inr breaks

branch_cases : (labels : List Label) (at number code k : ℕ) (holds fails : Option (List ℕ)) → BranchesOrBreaks labels at number holds
    → BranchesOrBreaks labels at number fails → FieldsOrBreaks labels at number code k (Branch holds fails)
branch_cases labels at number code k holds fails (inl h) (inl f) = inl (record { code = code; jt = h.0; jf = f.0; k = k }, refl, (h.1, f.1, refl))
branch_cases labels at number code k holds fails (inl h) (inr f) = inr (f.0, inr (h, f.1))
branch_cases labels at number code k holds fails (inr h) other = inr (h.0, inl h.1)

jump_step : (labels : List Label) (at number code k : ℕ) (jump : Jump) → FieldsOrBreaks labels at number code k jump
jump_step labels at number code k NoJump = inl (record { code = code; jt = 0; jf = 0; k = k }, refl, (refl, refl, refl))
jump_step labels at number code k (Always name) = always_cases labels at number code k name (label_step labels at number name)
jump_step labels at number code k (Branch holds fails) =
    branch_cases labels at number code k holds fails (target_step labels at number holds) (target_step labels at number fails)

insn_cases : (labels : List Label) (at number : ℕ) (template : Template) → FieldsOrBreaks labels at number (code_of template.form) template.k template.jump
    → ((insn : Insn) × IsInsn labels at template insn) ⊎ ((fault : AsmFault) × JumpBreaks labels at number template.jump fault)
insn_cases labels at number template (inl h) = inl (h.0, (h.1, h.2))
insn_cases labels at number template (inr h) = inr h

-- the instruction of a template, or the first fault of its labels
pub insn_step : (labels : List Label) (at number : ℕ) (template : Template)
    → ((insn : Insn) × IsInsn labels at template insn) ⊎ ((fault : AsmFault) × JumpBreaks labels at number template.jump fault)
insn_step labels at number template = insn_cases labels at number template (jump_step labels at number (code_of template.form) template.k template.jump)
