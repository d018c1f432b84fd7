-- The indexes to which instructions may jump are those of each of them.
use Rattle.std.proofs.Common.{ℕ, zero, suc, ◌+◌, ◌≡◌, ◌⊎◌, ◌↔◌, inl, inr, true, ◌||◌, eqb, List, []}
use Rattle.std.proofs.Common.{◌∷◌, slice_get, Some, Contains, refl, sym, ◌∙◌, subst, arith}
use Rattle.std.proofs.lemmas.Bool.{eqb-true, eq-eqb, or_cases, or_left, or_right}
use Rattle.std.proofs.lemmas.List.Folds.{list_any-append, list_any_at}
use Rattle.bpf_insn.specs.declared.insn.Insn.{Insn}
use Rattle.bpf_insn.specs.Forms.{form}
use Rattle.bpf_insn.specs.Flow.{jump_targets}
use Rattle.bpf_dis.specs.Targets.{targets_from, is_target, SomeJumpLeads}
use Rattle.bpf_dis.proofs.LabelledTargets.{leads}

here : (to target : ℕ) (targets : List ℕ) → target ≡ to → Contains (target ∷ targets) to
here to target targets e = (0, omega arith, e)

later : (to target : ℕ) (targets : List ℕ) → Contains targets to → Contains (target ∷ targets) to
later to target targets h = (suc h.0, omega (arith, h.1), h.2)

found_cases : (to target : ℕ) (targets : List ℕ) → (leads to targets ≡ true → Contains targets to) → (eqb target to ≡ true) ⊎ (leads to targets ≡ true)
    → Contains (target ∷ targets) to
found_cases to target targets more (inl e) = here to target targets (eqb-true target to e)
found_cases to target targets more (inr h) = later to target targets (more h)

-- a number that the test finds is in the list
found : (to : ℕ) (targets : List ℕ) → leads to targets ≡ true → Contains targets to
found to [] h = cc
found to (target ∷ targets) h = found_cases to target targets (found to targets) (or_cases (eqb target to) (leads to targets) h)

-- and the other way round
finds : (to : ℕ) (targets : List ℕ) → Contains targets to → leads to targets ≡ true
finds to targets h = list_any_at (λ target. eqb target to) targets h.0 to h.1 (eq-eqb _ to h.2)

-- one of these instructions, the first of which has this index, may jump there
abbrev LeadsFrom : ℕ → List Insn → ℕ → Type 0
LeadsFrom at insns to = (i : ℕ) × (insn : Insn) × (slice_get insns i ≡ Some insn) × Contains (jump_targets (form insn.code) insn (at + i)) to

first_leads : (at : ℕ) (insn : Insn) (insns : List Insn) (to : ℕ) → Contains (jump_targets (form insn.code) insn at) to → LeadsFrom at (insn ∷ insns) to
first_leads at insn insns to h =
    let same : at ≡ at + 0 = omega arith in
    let P : ℕ → Type 0 = λ p. Contains (jump_targets (form insn.code) insn p) to in
    (0, insn, refl, subst P same h)

later_leads : (at : ℕ) (insn : Insn) (insns : List Insn) (to : ℕ) → LeadsFrom (at + 1) insns to → LeadsFrom at (insn ∷ insns) to
later_leads at insn insns to h =
    let same : at + 1 + h.0 ≡ at + suc h.0 = omega arith in
    let P : ℕ → Type 0 = λ p. Contains (jump_targets (form h.1.code) h.1 p) to in
    (suc h.0, h.1, h.2, subst P same h.3)

leads_cases : (at : ℕ) (insn : Insn) (insns : List Insn) (to : ℕ) → (leads to (targets_from (at + 1) insns) ≡ true → LeadsFrom (at + 1) insns to)
    → (leads to (jump_targets (form insn.code) insn at) ≡ true) ⊎ (leads to (targets_from (at + 1) insns) ≡ true) → LeadsFrom at (insn ∷ insns) to
leads_cases at insn insns to more (inl h) = first_leads at insn insns to (found to (jump_targets (form insn.code) insn at) h)
leads_cases at insn insns to more (inr h) = later_leads at insn insns to (more h)

both : (at : ℕ) (insn : Insn) (insns : List Insn) (to : ℕ)
    → leads to (targets_from at (insn ∷ insns)) ≡ (leads to (jump_targets (form insn.code) insn at) || leads to (targets_from (at + 1) insns))
both at insn insns to = list_any-append (λ target. eqb target to) (jump_targets (form insn.code) insn at) (targets_from (at + 1) insns)

some_leads : (at : ℕ) (insns : List Insn) (to : ℕ) → leads to (targets_from at insns) ≡ true → LeadsFrom at insns to
some_leads at [] to h = cc
some_leads at (insn ∷ insns) to h = leads_cases at insn insns to (some_leads (at + 1) insns to) (or_cases _ _ (sym (both at insn insns to) ∙ h))

pub some_insn : (insn other : Insn) → Some insn ≡ Some other → insn ≡ other
some_insn insn other e = let same : insn ≡ other = cc in same

is_led : (at : ℕ) (insns : List Insn) (to i : ℕ) (other : Insn) → slice_get insns i ≡ Some other → Contains (jump_targets (form other.code) other (at + i)) to
    → leads to (targets_from at insns) ≡ true
is_led at [] to i other stands h = cc
is_led at (insn ∷ insns) to zero other stands h =
    let same : at + 0 ≡ at = omega arith in
    let P : ℕ → Type 0 = λ p. Contains (jump_targets (form other.code) other p) to in
    let Q : Insn → Type 0 = λ x. Contains (jump_targets (form x.code) x at) to in
    both at insn insns to ∙ or_left _ _ (finds to (jump_targets (form insn.code) insn at) (subst Q (sym (some_insn insn other stands)) (subst P same h)))
is_led at (insn ∷ insns) to (suc i) other stands h =
    let same : at + suc i ≡ at + 1 + i = omega arith in
    let P : ℕ → Type 0 = λ p. Contains (jump_targets (form other.code) other p) to in
    both at insn insns to ∙ or_right _ _ (is_led (at + 1) insns to i other stands (subst P same h))

-- the test finds the indexes to which an instruction may jump
pub target_is : (program : List Insn) (to : ℕ) → (is_target program to ≡ true) ↔ SomeJumpLeads program to
target_is program to = (
  λ h.
      let led = some_leads 0 program to h in
      let same : 0 + led.0 ≡ led.0 = omega arith in
      let P : ℕ → Type 0 = λ p. Contains (jump_targets (form led.1.code) led.1 p) to in
      (led.0, led.1, led.2, subst P same led.3),
  λ led.
      let same : led.0 ≡ 0 + led.0 = omega arith in
      let P : ℕ → Type 0 = λ p. Contains (jump_targets (form led.1.code) led.1 p) to in
      is_led 0 program to led.0 led.1 led.2 (subst P same led.3),
)
