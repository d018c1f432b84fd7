-- What a well-formed program's instructions may do: each has a form, uses scratch words that are there, and leads to an index of the program.
use Rattle.std.proofs.Common.{ℕ, ◌+◌, ◌-◌, ◌<◌, ◌≤◌, ◌≡◌, ◌⊎◌, inl, inr, List, length, None, Some, subst, slice_get, arith}
use Rattle.std.proofs.lemmas.Option.{slice_get_within}
use Rattle.bpf_insn.specs.declared.insn.Insn.{Insn}
use Rattle.bpf_insn.specs.declared.insn.TheConstants.{SCRATCH_WORDS}
use Rattle.bpf_insn.specs.declared.form.Form.{Form}
use Rattle.bpf_insn.specs.declared.form.Form.TheVariants.{Ja, Test, RetK, RetA}
use Rattle.bpf_insn.specs.Forms.{form}
use Rattle.bpf_insn.specs.Flow.{FormLeads}
use Rattle.bpf_verify.specs.ControlFlow.{ReadsWord, WritesWord}
use Rattle.bpf_insn.specs.Flow.{FormJumps}
use Rattle.bpf_verify.specs.Validity.{FormReturns}
use Rattle.bpf_verify.specs.ByForm.{IsAt}
use Rattle.bpf_verify.specs.Flaws.{IsWellFormed}
use Rattle.bpf_verify.proofs.InsnPlaces.{here, there}
use Rattle.bpf_verify.proofs.Valid.{unbroken}

below_or_past : (a b : ℕ) → (a < b) ⊎ (b ≤ a)
below_or_past a b = grind arith

pub has_form : (p : List Insn) (at : ℕ) (i : Insn) → IsWellFormed p → slice_get p at ≡ Some i → form i.code ≡ None → ⊥
has_form p at i formed is none = unbroken p formed at (inl (inl (i, is, none)))

pub read_below : (p : List Insn) (at word : ℕ) → IsWellFormed p → ReadsWord p at word → word < SCRATCH_WORDS
read_below p at word formed reads = elim (below_or_past word SCRATCH_WORDS)
    as (λ _. word < SCRATCH_WORDS) [ inl below ↦ below | inr past ↦ absurd (unbroken p formed at (inl (inr (word, inl reads, past)))) ]

pub write_below : (p : List Insn) (at word : ℕ) → IsWellFormed p → WritesWord p at word → word < SCRATCH_WORDS
write_below p at word formed writes = elim (below_or_past word SCRATCH_WORDS)
    as (λ _. word < SCRATCH_WORDS) [ inl below ↦ below | inr past ↦ absurd (unbroken p formed at (inl (inr (word, inr writes, past)))) ]

-- an instruction leads by a jump, or to the next place without a return
jumps_or_next : (f : Form) (i : Insn) (from to : ℕ) → FormLeads (Some f) i from to
    → FormJumps (Some f) i from to ⊎ ((to ≡ from + 1) × (FormReturns (Some f) → ⊥))
jumps_or_next RetK i from to h = absurd h
jumps_or_next RetA i from to h = absurd h
jumps_or_next Ja i from to h = inl h
jumps_or_next (Test cond src) i from to h = inl h
jumps_or_next _ i from to h = inr (h, λ returns. returns)

last_is : (at n : ℕ) → at < n → n ≤ at + 1 → n - 1 ≡ at
last_is at n h k = omega arith

-- what follows the last place would follow a return
not_past : (p : List Insn) (from : ℕ) (f : Form) (i : Insn) → IsWellFormed p → IsAt p from f i → (FormReturns (Some f) → ⊥) → length p ≤ from + 1 → ⊥
not_past p from f i formed stands goes_on past =
    let last = last_is from (length p) (slice_get_within p from i stands.0) past in
    let ends = formed.ends in
    let there_too : slice_get p from ≡ Some ends.0 = subst (λ n. slice_get p n ≡ Some ends.0) last ends.1 in
    goes_on (here (λ o _. FormReturns o) p from i f ends.0 stands there_too ends.2)

pub leads_within : (p : List Insn) (from to : ℕ) (f : Form) (i : Insn) → IsWellFormed p → IsAt p from f i → FormLeads (Some f) i from to → to < length p
leads_within p from to f i formed stands leads = elim (below_or_past to (length p)) as (λ _. to < length p) [
  | inl below ↦ below
  | inr past ↦ elim (jumps_or_next f i from to leads) as (λ _. to < length p) [
    | inl jumps ↦ absurd (unbroken p formed from (inr (inr (i, stands.0, (to, there (λ o j. FormJumps o j from to) i f stands.1 jumps, past)))))
    | inr next ↦ absurd (not_past p from f i formed stands next.1 (subst (λ n. length p ≤ n) next.0 past))
  ]
]
