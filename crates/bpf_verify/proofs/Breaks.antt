-- The conditions of single instructions, form by form.
use Rattle.std.proofs.Common.{ℕ, ◌≤◌, ◌≡◌, ◌⊎◌, inl, inr, List, length, None, Some, sym, subst}
use Rattle.bpf_insn.specs.declared.insn.Insn.{Insn}
use Rattle.bpf_insn.specs.declared.insn.TheConstants.{SCRATCH_WORDS}
use Rattle.bpf_insn.specs.declared.form.Form.{Form}
use Rattle.bpf_insn.specs.declared.form.Form.TheVariants.{LdMem, LdxMem, St, Stx}
use Rattle.bpf_insn.specs.Uses.{FormReadsWord, FormWritesWord}
use Rattle.bpf_verify.specs.ControlFlow.{ReadsWord, WritesWord}
use Rattle.bpf_insn.specs.Flow.{FormJumpsOut, JumpsOut}
use Rattle.bpf_verify.specs.Validity.{FormDividesByZero, LacksForm, UsesWordPastScratch, DividesByZero}
use Rattle.bpf_verify.specs.ByForm.{IsAt, FormUsesWordPastScratch}
use Rattle.bpf_verify.specs.declared.flaw.Flaw.{Flaw}
use Rattle.bpf_verify.specs.declared.flaw.Flaw.TheVariants.{BadOpcode, BadScratch, ZeroDivisor, JumpOut}
use Rattle.bpf_verify.specs.Flaws.{BreaksAs, BreaksAt, HasFlaw, HasLength, NoneBreaksBelow}
use Rattle.bpf_verify.proofs.InsnPlaces.{here, there}

pub read_is_k : (f : Form) (i : Insn) (word : ℕ) → FormReadsWord (Some f) i word → i.k ≡ word
read_is_k LdMem i word reads = reads
read_is_k LdxMem i word reads = reads
read_is_k _ i word reads = absurd reads

written_is_k : (f : Form) (i : Insn) (word : ℕ) → FormWritesWord (Some f) i word → i.k ≡ word
written_is_k St i word writes = writes
written_is_k Stx i word writes = writes
written_is_k _ i word writes = absurd writes

-- the scratch word that an instruction uses is the word k
reads_past : (f : Form) (i : Insn) (word : ℕ) → FormReadsWord (Some f) i word → SCRATCH_WORDS ≤ word → FormUsesWordPastScratch f i
reads_past f i word reads past =
    let k = sym (read_is_k f i word reads) in
    (inl (subst (λ w. FormReadsWord (Some f) i w) k reads), subst (λ w. SCRATCH_WORDS ≤ w) k past)

writes_past : (f : Form) (i : Insn) (word : ℕ) → FormWritesWord (Some f) i word → SCRATCH_WORDS ≤ word → FormUsesWordPastScratch f i
writes_past f i word writes past =
    let k = sym (written_is_k f i word writes) in
    (inr (subst (λ w. FormWritesWord (Some f) i w) k writes), subst (λ w. SCRATCH_WORDS ≤ w) k past)

-- an instruction that breaks no condition by its form breaks none
pub no_break : (p : List Insn) (at : ℕ) (i : Insn) (f : Form) → IsAt p at f i
    → (FormUsesWordPastScratch f i → ⊥) → (FormDividesByZero (Some f) i → ⊥) → (FormJumpsOut (length p) (Some f) i at → ⊥) → BreaksAt p at → ⊥
no_break p at i f stands uses divides jumps (inl (inl lacks)) =
    let none : Some f ≡ None = here (λ o _. o ≡ None) p at i f lacks.0 stands lacks.1 lacks.2 in cc
no_break p at i f stands uses divides jumps (inl (inr (word, inl reads, past))) =
    uses (reads_past f i word (here (λ o j. FormReadsWord o j word) p at i f reads.0 stands reads.1 reads.2) past)
no_break p at i f stands uses divides jumps (inl (inr (word, inr writes, past))) =
    uses (writes_past f i word (here (λ o j. FormWritesWord o j word) p at i f writes.0 stands writes.1 writes.2) past)
no_break p at i f stands uses divides jumps (inr (inl zero)) = divides (here FormDividesByZero p at i f zero.0 stands zero.1 zero.2)
no_break p at i f stands uses divides jumps (inr (inr out)) = jumps (here (λ o j. FormJumpsOut (length p) o j at) p at i f out.0 stands out.1 out.2)

pub uses_word_past_scratch : (p : List Insn) (at : ℕ) (i : Insn) (f : Form) → IsAt p at f i → FormUsesWordPastScratch f i → UsesWordPastScratch p at
uses_word_past_scratch p at i f stands uses = (
  i.k,
  elim uses.0 as (λ _. ReadsWord p at i.k ⊎ WritesWord p at i.k) [
    | inl reads ↦ inl (i, stands.0, there (λ o j. FormReadsWord o j i.k) i f stands.1 reads)
    | inr writes ↦ inr (i, stands.0, there (λ o j. FormWritesWord o j i.k) i f stands.1 writes)
  ],
  uses.1,
)

-- the first condition that an instruction breaks, where none before it breaks one, is the flaw
pub breaks_first : (p : List Insn) (at : ℕ) (flaw : Flaw) → HasLength p → NoneBreaksBelow p at → BreaksAs p at flaw → HasFlaw p flaw
breaks_first p at (BadOpcode place) long below breaks = (long, subst (NoneBreaksBelow p) (sym breaks.0) below, subst (LacksForm p) (sym breaks.0) breaks.1)
breaks_first p at (BadScratch place) long below breaks = (
  long,
  subst (NoneBreaksBelow p) (sym breaks.0) below,
  subst (UsesWordPastScratch p) (sym breaks.0) breaks.1,
)
breaks_first p at (ZeroDivisor place) long below breaks = (
  long,
  subst (NoneBreaksBelow p) (sym breaks.0) below,
  subst (DividesByZero p) (sym breaks.0) breaks.1,
)
breaks_first p at (JumpOut place) long below breaks = (long, subst (NoneBreaksBelow p) (sym breaks.0) below, subst (JumpsOut p) (sym breaks.0) breaks.1)
breaks_first p at _ long below breaks = absurd breaks
