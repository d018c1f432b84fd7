-- Unset reads, place by place.
use Rattle.std.proofs.Common.{ℕ, ◌+◌, inl, inr, List, length, Option, None, Some, sym, subst}
use Rattle.std.specs.Prelude.{slice_index, MatchOption}
use Rattle.std.proofs.lemmas.Option.{slice_get_within}
use Rattle.bpf_insn.specs.declared.insn.Insn.{Insn}
use Rattle.bpf_insn.specs.declared.form.Form.{Form}
use Rattle.bpf_insn.specs.Uses.{FormReadsWord}
use Rattle.bpf_verify.specs.declared.flaw.Flaw.{Flaw}
use Rattle.bpf_verify.specs.ControlFlow.{ReadsWord, UnsetReadAt}
use Rattle.bpf_verify.specs.Validity.{Valid}
use Rattle.bpf_verify.specs.ByForm.{IsAt}
use Rattle.bpf_verify.specs.Masks.{IsClear, ShowsUnset}
use Rattle.bpf_verify.specs.Flaws.{HasFlaw, IsWellFormed, NoUnsetReadBelow}
use Rattle.bpf_verify.proofs.InsnPlaces.{here, there}
use Rattle.bpf_verify.proofs.Breaks.{read_is_k}
use Rattle.bpf_verify.proofs.Valid.{valid_from}
use Rattle.bpf_verify.proofs.WellFormed.{read_below}
use Rattle.bpf_verify.proofs.Arrivals.{below_or_at}

-- an instruction of a form that reads word k reads it at its place
pub reads_at : (p : List Insn) (at : ℕ) (f : Form) (i : Insn) → IsAt p at f i → FormReadsWord (Some f) i i.k → ReadsWord p at i.k
reads_at p at f i stands reads = (i, stands.0, there (λ o j. FormReadsWord o j i.k) i f stands.1 reads)

none_here : (p : List Insn) (at : ℕ) (f : Form) (i : Insn) (masks : List ℕ) → IsWellFormed p → ShowsUnset p masks → IsAt p at f i
    → (FormReadsWord (Some f) i i.k → IsClear (slice_index masks at) i.k → ⊥) → (path : List ℕ) (word : ℕ) → UnsetReadAt p at path word → ⊥
none_here p at f i masks formed told stands none path word unset =
    let reads : ReadsWord p at word = unset.3 in
    let by_form = here (λ o j. FormReadsWord o j word) p at i f reads.0 stands reads.1 reads.2 in
    let is_k = read_is_k f i word by_form in
    let inside = slice_get_within p at reads.0 reads.1 in
    let clear = (told at word inside (read_below p at word formed reads)).1 (path, (unset.0, unset.1, unset.2, unset.4)) in
    none (subst (λ w. FormReadsWord (Some f) i w) (sym is_k) by_form) (subst (λ w. IsClear (slice_index masks at) w) (sym is_k) clear)

-- one more place at which no unset read ends
pub none_more : (p : List Insn) (at : ℕ) (f : Form) (i : Insn) (masks : List ℕ) → IsWellFormed p → ShowsUnset p masks → IsAt p at f i
    → NoUnsetReadBelow p at → (FormReadsWord (Some f) i i.k → IsClear (slice_index masks at) i.k → ⊥) → NoUnsetReadBelow p (at + 1)
none_more p at f i masks formed told stands below none place path word inside unset = elim (below_or_at place at inside) as (λ _. ⊥) [
  | inl e ↦ none_here p at f i masks formed told stands none path word (subst (λ x. UnsetReadAt p x path word) e unset)
  | inr before ↦ below place path word before unset
]

-- a well-formed program is valid, or has an unset read
pub valid_or_unset : (p : List Insn) (found : Option Flaw) → IsWellFormed p
    → MatchOption found (NoUnsetReadBelow p (length p)) (λ flaw. HasFlaw p flaw) → MatchOption found (Valid p) (λ flaw. HasFlaw p flaw)
valid_or_unset p None formed none = valid_from p formed none
valid_or_unset p (Some flaw) formed has = has
