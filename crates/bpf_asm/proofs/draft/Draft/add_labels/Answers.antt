use Rattle.std.proofs.Common.{◌≡◌, [], ◌∷◌, ◌++◌, refl, sym, ◌∙◌, ap, append_assoc}
use Rattle.std.proofs.lemmas.Result.{err_from_is_err_and}
use Rattle.bpf_asm.specs.Views.{labels_in}
use Rattle.bpf_asm.proofs.LabelTables.{draft_empty}
use Rattle.bpf_asm.proofs.Assembling.{twice_so_far, some_within}
use Rattle.bpf_asm.proofs.draft.Draft.add_labels.Goals as goal

pub labels-init : goal.labels-init
labels-init c = record { room = c.requires; names = []; said = refl; drafted = λ shapes at h. draft_empty shapes c.args.self.now h }

pub returns-in_err-add_label-clause-added : goal.returns-in_err-add_label-clause-added
returns-in_err-add_label-clause-added c = λ shapes at h.
    let names = c.labels.invariant.names in
    let said : labels_in c.args.labels ≡ names ++ c.in-Some.name.now ∷ labels_in c.in-Some.after =
    c.labels.invariant.said ∙ ap (λ l. names ++ l) c.in-Some.ensures in
    let p = err_from_is_err_and c.from_residual.result c.from_residual.ensures.1 in
    rw (p.1, p.2) (twice_so_far shapes names c.in-Some.name.now (labels_in c.in-Some.after)
    (labels_in c.args.labels) c.args.line c.in_err-add_label.field-0.0 said
    (c.in_err-add_label.ensures.added shapes names at (c.labels.invariant.drafted shapes at h)))

pub returns-in_err-add_label-clause-memory : goal.returns-in_err-add_label-clause-memory
returns-in_err-add_label-clause-memory c =
    let names = c.labels.invariant.names in
    let said : labels_in c.args.labels ≡ names ++ c.in-Some.name.now ∷ labels_in c.in-Some.after =
    c.labels.invariant.said ∙ ap (λ l. names ++ l) c.in-Some.ensures in
    let p = err_from_is_err_and c.from_residual.result c.from_residual.ensures.1 in
    rw p.1 (λ e. some_within names c.in-Some.name.now (labels_in c.in-Some.after) (labels_in c.args.labels) said)

pub labels-preserved : goal.labels-preserved
labels-preserved c =
    let names = c.labels.invariant.names in
    record {
      room = rw c.in_ok-add_label.ensures.insns c.labels.invariant.room;
      names = names ++ c.in-Some.name.now ∷ [];
      said = c.labels.invariant.said ∙ (ap (λ l. names ++ l) c.in-Some.ensures ∙ sym
          (append_assoc names (c.in-Some.name.now ∷ []) (labels_in c.in-Some.after)));
      drafted = λ shapes at h. c.in_ok-add_label.ensures.added shapes names at (c.labels.invariant.drafted shapes at h);
    }
