use Rattle.std.proofs.Common.{ℕ, ◌≡◌, ◌+◌, ◌≤◌, List, [], ◌∷◌, ◌++◌, length, vec_len}
use Rattle.bpf_insn.specs.declared.insn.TheConstants.{MAX_INSNS}
use Rattle.bpf_asm.specs.Grammar.{Shape}
use Rattle.bpf_asm.specs.Views.{labels_in}
use Rattle.bpf_asm.specs.Drafts.{IsDraftOf, label_shape}
use Rattle.bpf_asm.proofs.draft.Draft.add_labels.Given as goal

-- the labels so far are in the draft
abbrev pub invariant-labels : goal.invariant-labels
invariant-labels l = record {
  room : vec_len l.self.insns ≤ MAX_INSNS;
  names : List (List ℕ);
  said : labels_in l.initial.rest ≡ names ++ labels_in l.rest;
  drafted : (shapes : List Shape) → length shapes + 1 ≡ l.line → IsDraftOf shapes l.initial.self → IsDraftOf (shapes ++ label_shape names ∷ []) l.self;
}

abbrev pub decreases-labels : goal.decreases-labels
decreases-labels l = length (labels_in l.rest)
