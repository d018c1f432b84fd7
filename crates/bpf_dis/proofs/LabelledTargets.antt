-- The labels after some of the instructions, with the jumps of those that are left, are those of all jumps.
use Rattle.std.proofs.Common.{ℕ, suc, ◌+◌, ◌<◌, ◌≡◌, Bool, ◌||◌, eqb, List, ◌∷◌, ◌++◌, length, drop, get_or, Option, sym, ◌∙◌, ap, arith, drop-cons}
use Rattle.std.specs.List.{list_any}
use Rattle.std.proofs.Math.Bool.{or_assoc}
use Rattle.std.proofs.lemmas.List.Folds.{list_any-append}
use Rattle.bpf_insn.specs.declared.insn.Insn.{Insn}
use Rattle.bpf_insn.specs.declared.form.Form.{Form}
use Rattle.bpf_insn.specs.Forms.{form}
use Rattle.bpf_insn.specs.Flow.{jump_targets}
use Rattle.bpf_dis.specs.Targets.{targets_from}

abbrev pub leads : ℕ → List ℕ → Bool
leads to targets = list_any (λ target. eqb target to) targets

-- the jumps of the instructions from an index on are those of the first and of the others
first_targets : (program : List Insn) (at : ℕ) (d : Insn) (o : Option Form) → at < length program → o ≡ form (get_or program at d).code
    → targets_from at (drop at program) ≡ jump_targets o (get_or program at d) at ++ targets_from (at + 1) (drop (at + 1) program)
first_targets program at d o below formed =
    let next : suc at ≡ at + 1 = omega arith in
    ap (targets_from at) (drop-cons program at d below ∙ ap (λ i. get_or program at d ∷ drop i program) next)
    ∙ ap (λ f. jump_targets f (get_or program at d) at ++ targets_from (at + 1) (drop (at + 1) program)) (sym formed)

-- one more instruction's targets are labelled
pub labelled_more : (program : List Insn) (at to : ℕ) (d : Insn) (o : Option Form) (before after target : Bool) → at < length program
    → o ≡ form (get_or program at d).code
    → after ≡ (before || leads to (jump_targets o (get_or program at d) at))
    → (before || leads to (targets_from at (drop at program))) ≡ target
    → (after || leads to (targets_from (at + 1) (drop (at + 1) program))) ≡ target
labelled_more program at to d o before after target below formed marked so_far =
    let here : List ℕ = jump_targets o (get_or program at d) at in
    let later : List ℕ = targets_from (at + 1) (drop (at + 1) program) in
    ap (λ b. b || leads to later) marked
    ∙ (or_assoc before (leads to here) (leads to later)
    ∙ (ap (λ b. before || b) (sym (list_any-append (λ target. eqb target to) here later))
    ∙ (ap (λ ts. before || leads to ts) (sym (first_targets program at d o below formed)) ∙ so_far)))
