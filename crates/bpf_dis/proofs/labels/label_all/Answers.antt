use Rattle.std.proofs.Common.{ℕ, ◌<◌, ◌||◌, length, List, sym, ◌∙◌, ap, subst, get_or, false, None, Some, arith}
use Rattle.std.proofs.Math.Bool.{or-false}
use Rattle.std.proofs.lemmas.List.{drop_all}
use Rattle.std.proofs.lemmas.Option.{slice_get-get_or}
use Rattle.bpf_insn.specs.declared.insn.Insn.{Insn}
use Rattle.bpf_insn.specs.Flow.{FormJumpsOut}
use Rattle.bpf_dis.specs.Targets.{targets_from, is_target}
use Rattle.bpf_dis.proofs.ProgramFaults.{inside_at}
use Rattle.bpf_dis.proofs.LabelledTargets.{leads, labelled_more}
use Rattle.bpf_dis.proofs.labels.label_all.Goals as goal
use Rattle.bpf_dis.proofs.labels.label_all.Goals.{in-Some, in_default}

pub label_targets-requires-clause-inside : goal.label_targets-requires-clause-inside
label_targets-requires-clause-inside c =
    let none : Insn = record { code = 0; jt = 0; jf = 0; k = 0 } in
    let insn : Insn = get_or c.args.program.now c.insns.at none in
    let P : ℕ → Type 0 = λ n. ¬ FormJumpsOut n (Some c.in-Some.form) insn c.insns.at in
    subst P (sym c.insns.invariant.size)
    (inside_at c.args.program.now c.insns.at insn c.in-Some.form c.requires c.insns-test.true
    (slice_get-get_or c.args.program.now c.insns.at none c.insns-test.true) c.in-Some.ensures.table)

pub insns-preserved : goal.insns-preserved
insns-preserved c =
    let program : List Insn = c.args.program.now in
    let none : Insn = record { code = 0; jt = 0; jf = 0; k = 0 } in
    elim c.match-form_of.branch [
      | in-Some w ↦ record {
        size = ap (λ v. length v.items) w.labelled-is ∙ (w.label_targets.ensures.size ∙ c.insns.invariant.size);
        so_far = λ to below.
            let inside : to < length c.insns.labelled.items = omega (arith, below, c.insns.invariant.size) in
            let so_far = ap (λ v. get_or v.items to false) w.labelled-is ∙ w.label_targets.ensures.added to inside in
            labelled_more program c.insns.at to none (Some w.in-Some.form) (get_or c.insns.labelled.items to false)
            (get_or c.match-form_of.labelled.items to false) (is_target program to) c.insns-test.true w.in-Some.ensures.table so_far
            (c.insns.invariant.so_far to below);
      }
      | in_default w ↦ record {
        size = ap (λ v. length v.items) w.labelled-is ∙ c.insns.invariant.size;
        so_far = λ to below.
            let before = get_or c.insns.labelled.items to false in
            let same = ap (λ v. get_or v.items to false) w.labelled-is ∙ sym (or-false before) in
            labelled_more program c.insns.at to none None before (get_or c.match-form_of.labelled.items to false)
            (is_target program to) c.insns-test.true w.in_default.ensures.table same (c.insns.invariant.so_far to below);
      }
    ]

pub returns-clause-targets : goal.returns-clause-targets
returns-clause-targets c =
    λ to below.
    let program : List Insn = c.args.program.now in
    let label = get_or c.insns.labelled.items to false in
    sym (or-false label) ∙ (ap (λ rest. label || leads to (targets_from c.insns.at rest)) (sym (drop_all c.insns.at program c.insns-test.false))
    ∙ c.insns.invariant.so_far to below)
