-- Paths taken apart and put together at their last edge, and how a word arrives unwritten at a place: by an edge from an earlier one.
use Rattle.std.proofs.Common.{ℕ, suc, zero, ◌+◌, ◌<◌, ◌≤◌, ◌≡◌, ◌≢◌, ◌⊎◌, ◌↔◌, slice_set, inl, inr, List, [], ◌∷◌}
use Rattle.std.proofs.Common.{◌++◌, length, Option, None, Some, refl, sym, ◌∙◌, ap, subst, arith}
use Rattle.std.specs.Prelude.{slice_index, replicate}
use Rattle.std.specs.Int.{bit_at}
use Rattle.std.proofs.lemmas.Option.{slice_get_within}
use Rattle.std.proofs.lemmas.List.{get_or-set_same, get_or-set_other, length-set, length-replicate, get_or-replicate}
use Rattle.std.proofs.lemmas.Nat.Bits.{bit_at_ones, bit_at-zero}
use Rattle.bpf_insn.specs.declared.insn.TheConstants.{SCRATCH_WORDS}
use Rattle.bpf_insn.specs.declared.insn.Insn.{Insn}
use Rattle.bpf_insn.specs.declared.form.Form.{Form}
use Rattle.bpf_insn.specs.declared.form.Form.TheVariants.{Ja, Test, RetK, RetA}
use Rattle.bpf_insn.specs.Forms.{form}
use Rattle.bpf_insn.specs.Uses.{FormWritesWord}
use Rattle.bpf_insn.specs.Flow.{FormLeads}
use Rattle.bpf_verify.specs.ControlFlow.{Edge, GoesByEdges, IsPath, WritesWord, NoneWrites}
use Rattle.bpf_verify.specs.ByForm.{IsAt}
use Rattle.bpf_verify.specs.Masks.{ArrivesUnset, IsClear}
use Rattle.bpf_verify.proofs.InsnPlaces.{here, there}

form_forward : (o : Option Form) (i : Insn) (from to : ℕ) → FormLeads o i from to → from < to
form_forward None i from to h = absurd h
form_forward (Some RetK) i from to h = absurd h
form_forward (Some RetA) i from to h = absurd h
form_forward (Some Ja) i from to h = omega (arith, h)
form_forward (Some (Test cond src)) i from to h = elim h as (λ _. from < to) [ inl e ↦ omega (arith, e) | inr e ↦ omega (arith, e) ]
form_forward (Some _) i from to h = omega (arith, h)

-- edges lead forward
pub edge_forward : (p : List Insn) (from to : ℕ) → Edge p from to → from < to
edge_forward p from to e = form_forward (form e.0.code) e.0 from to e.2

pub edge_inside : (p : List Insn) (from to : ℕ) → Edge p from to → from < length p
edge_inside p from to e = slice_get_within p from e.0 e.1

goes_snoc : (p : List Insn) (xs : List ℕ) (from to : ℕ) → GoesByEdges p (xs ++ from ∷ []) → Edge p from to → to < length p
    → GoesByEdges p ((xs ++ from ∷ []) ++ to ∷ [])
goes_snoc p [] from to goes edge within = (edge, within)
goes_snoc p (x ∷ []) from to goes edge within = (goes.0, (edge, within))
goes_snoc p (x ∷ y ∷ ys) from to goes edge within = (goes.0, goes_snoc p (y ∷ ys) from to goes.1 edge within)

goes_unsnoc : (p : List Insn) (xs : List ℕ) (from to : ℕ) → GoesByEdges p ((xs ++ from ∷ []) ++ to ∷ []) → GoesByEdges p (xs ++ from ∷ []) × Edge p from to
goes_unsnoc p [] from to goes = (edge_inside p from to goes.0, goes.0)
goes_unsnoc p (x ∷ []) from to goes = ((goes.0, edge_inside p from to goes.1.0), goes.1.0)
goes_unsnoc p (x ∷ y ∷ ys) from to goes = let rest = goes_unsnoc p (y ∷ ys) from to goes.1 in ((goes.0, rest.0), rest.1)

path_snoc : (p : List Insn) (xs : List ℕ) (from to : ℕ) → IsPath p (xs ++ from ∷ []) → Edge p from to → to < length p → IsPath p ((xs ++ from ∷ []) ++ to ∷ [])
path_snoc p [] from to path edge within = (path.0, goes_snoc p [] from to path.1 edge within)
path_snoc p (x ∷ xs) from to path edge within = (path.0, goes_snoc p (x ∷ xs) from to path.1 edge within)

path_unsnoc : (p : List Insn) (xs : List ℕ) (from to : ℕ) → IsPath p ((xs ++ from ∷ []) ++ to ∷ []) → IsPath p (xs ++ from ∷ []) × Edge p from to
path_unsnoc p [] from to path = let rest = goes_unsnoc p [] from to path.1 in ((path.0, rest.0), rest.1)
path_unsnoc p (x ∷ xs) from to path = let rest = goes_unsnoc p (x ∷ xs) from to path.1 in ((path.0, rest.0), rest.1)

none_snoc : (p : List Insn) (xs : List ℕ) (from word : ℕ) → NoneWrites p xs word → (WritesWord p from word → ⊥) → NoneWrites p (xs ++ from ∷ []) word
none_snoc p [] from word none last = (last, tt)
none_snoc p (x ∷ xs) from word none last = (none.0, none_snoc p xs from word none.1 last)

none_unsnoc : (p : List Insn) (xs : List ℕ) (from word : ℕ) → NoneWrites p (xs ++ from ∷ []) word → NoneWrites p xs word × (WritesWord p from word → ⊥)
none_unsnoc p [] from word none = (tt, none.0)
none_unsnoc p (x ∷ xs) from word none = let rest = none_unsnoc p xs from word none.1 in ((none.0, rest.0), rest.1)

-- a list is empty, or has a last member
empty_or_last : (xs : List ℕ) → (xs ≡ []) ⊎ ((front : List ℕ) × (last : ℕ) × (xs ≡ front ++ last ∷ []))
empty_or_last [] = inl refl
empty_or_last (x ∷ xs) = elim (empty_or_last xs) as (λ _. (x ∷ xs ≡ []) ⊎ ((front : List ℕ) × (last : ℕ) × (x ∷ xs ≡ front ++ last ∷ []))) [
  | inl e ↦ inr ([], x, ap (λ ys. x ∷ ys) e)
  | inr h ↦ inr (x ∷ h.0, h.1, ap (λ ys. x ∷ ys) h.2)
]

-- the place is the first, or an edge leads there from a place below the bound where the word arrives unwritten and stays so
abbrev pub ArrivesFromBelow : List Insn → ℕ → ℕ → ℕ → Type 0
ArrivesFromBelow p bound at word = (at ≡ 0) ⊎ ((from : ℕ) × (from < bound) × ArrivesUnset p from word × Edge p from at × (WritesWord p from word → ⊥))

arrives_last : (p : List Insn) (bound at word : ℕ) → at ≤ bound → (earlier : List ℕ) → IsPath p (earlier ++ at ∷ []) → NoneWrites p earlier word
    → ArrivesFromBelow p bound at word
arrives_last p bound at word enough earlier path none = elim (empty_or_last earlier) as (λ _. ArrivesFromBelow p bound at word) [
  | inl e ↦ let path' : IsPath p (at ∷ []) = subst (λ xs. IsPath p (xs ++ at ∷ [])) e path in inl path'.0
  | inr h ↦
      let apart = path_unsnoc p h.0 h.1 at (subst (λ xs. IsPath p (xs ++ at ∷ [])) h.2 path) in
      let unwritten = none_unsnoc p h.0 h.1 word (subst (λ xs. NoneWrites p xs word) h.2 none) in
      let below : h.1 < bound = omega (arith, edge_forward p h.1 at apart.1, enough) in
      inr (h.1, below, (h.0 ++ h.1 ∷ [], (h.0, refl, apart.0, unwritten.0)), apart.1, unwritten.1)
]

arrives_next : (p : List Insn) (from at word : ℕ) → at < length p → ArrivesUnset p from word → Edge p from at → (WritesWord p from word → ⊥)
    → ArrivesUnset p at word
arrives_next p from at word within arrives edge none =
    let by = arrives.1 in
    let path = subst (λ xs. IsPath p xs) by.1 by.2 in (
      (by.0 ++ from ∷ []) ++ at ∷ [],
      (by.0 ++ from ∷ [], refl, path_snoc p by.0 from at path edge within, none_snoc p by.0 from word by.3 none),
    )

-- all ways to a place come from below it
pub arrives_from_below : (p : List Insn) (bound at word : ℕ) → at < length p → at ≤ bound → ArrivesUnset p at word ↔ ArrivesFromBelow p bound at word
arrives_from_below p bound at word within enough = (
  λ arrives. let by = arrives.1 in arrives_last p bound at word enough by.0 (subst (λ xs. IsPath p xs) by.1 by.2) by.3,
  λ below. elim below as (λ _. ArrivesUnset p at word) [
    | inl e ↦ (at ∷ [], ([], refl, (e, within), tt))
    | inr h ↦ arrives_next p h.0 at word within h.2 h.3 h.4
  ],
)

pub below_or_at : (a b : ℕ) → a < b + 1 → (a ≡ b) ⊎ (a < b)
below_or_at a b h = grind arith

-- the ways to a place that end with an edge from the instruction at the bound
abbrev pub ArrivesThrough : List Insn → ℕ → ℕ → ℕ → Form → Insn → Type 0
ArrivesThrough p bound to word f i = FormLeads (Some f) i bound to × (ArrivesUnset p bound word × (FormWritesWord (Some f) i word → ⊥))

last_or_earlier : (p : List Insn) (bound to word : ℕ) (f : Form) (i : Insn) → IsAt p bound f i
    → (from : ℕ) → ArrivesUnset p from word → Edge p from to → (WritesWord p from word → ⊥)
    → (from ≡ bound) ⊎ (from < bound) → ArrivesFromBelow p bound to word ⊎ ArrivesThrough p bound to word f i
last_or_earlier p bound to word f i stands from arrives edge none which =
    elim which as (λ _. ArrivesFromBelow p bound to word ⊎ ArrivesThrough p bound to word f i) [
      | inl e ↦
          let edge' : Edge p bound to = subst (λ x. Edge p x to) e edge in
          let none' : WritesWord p bound word → ⊥ = subst (λ x. WritesWord p x word → ⊥) e none in
          inr (
            here (λ o j. FormLeads o j bound to) p bound i f edge'.0 stands edge'.1 edge'.2,
            (subst (λ x. ArrivesUnset p x word) e arrives, λ writes. none' (i, stands.0, there (λ o j. FormWritesWord o j word) i f stands.1 writes)),
          )
      | inr below ↦ inl (inr (from, below, arrives, edge, none))
    ]

-- one more place to come from
pub arrives_more : (p : List Insn) (bound to word : ℕ) (f : Form) (i : Insn) → IsAt p bound f i
    → ArrivesFromBelow p (bound + 1) to word ↔ (ArrivesFromBelow p bound to word ⊎ ArrivesThrough p bound to word f i)
arrives_more p bound to word f i stands = (
  λ below. elim below as (λ _. ArrivesFromBelow p bound to word ⊎ ArrivesThrough p bound to word f i) [
    | inl e ↦ inl (inl e)
    | inr h ↦ last_or_earlier p bound to word f i stands h.0 h.2 h.3 h.4 (below_or_at h.0 bound h.1)
  ],
  λ either. elim either as (λ _. ArrivesFromBelow p (bound + 1) to word) [
    | inl below ↦ elim below as (λ _. ArrivesFromBelow p (bound + 1) to word) [
      | inl e ↦ inl e
      | inr h ↦ inr (h.0, (let k : h.0 < bound + 1 = omega (arith, h.1) in k), h.2, h.3, h.4)
    ]
    | inr h ↦ inr (
      bound,
      (let k : bound < bound + 1 = omega arith in k),
      h.1.0,
      (i, stands.0, there (λ o j. FormLeads o j bound to) i f stands.1 h.0),
      λ writes. h.1.1 (here (λ o j. FormWritesWord o j word) p bound i f writes.0 stands writes.1 writes.2),
    )
  ],
)

-- the masks after an instruction, from those before it
pub arrives_after : (p : List Insn) (at to word : ℕ) (f : Form) (i : Insn) (before after mask handed : ℕ) → IsAt p at f i → at < length p
    → IsClear before word ↔ ArrivesFromBelow p at to word
    → IsClear mask word ↔ ArrivesFromBelow p at at word
    → IsClear handed word ↔ (IsClear mask word × (FormWritesWord (Some f) i word → ⊥))
    → IsClear after word ↔ (IsClear before word ⊎ (FormLeads (Some f) i at to × IsClear handed word))
    → IsClear after word ↔ ArrivesFromBelow p (at + 1) to word
arrives_after p at to word f i before after mask handed stands inside told here_told kept passed =
    let more = arrives_more p at to word f i stands in
    let here = arrives_from_below p at at word inside (omega arith) in (
      λ clear. more.1 (elim (passed.0 clear) as (λ _. ArrivesFromBelow p at to word ⊎ ArrivesThrough p at to word f i) [
        | inl old ↦ inl (told.0 old)
        | inr new ↦ let k = kept.0 new.1 in inr (new.0, (here.1 (here_told.0 k.0), k.1))
      ]),
      λ arrives. passed.1 (elim (more.0 arrives) as (λ _. IsClear before word ⊎ (FormLeads (Some f) i at to × IsClear handed word)) [
        | inl old ↦ inl (told.1 old)
        | inr new ↦ inr (new.0, kept.1 (here_told.1 (here.0 new.1.0), new.1.1))
      ]),
    )

-- nothing arrives from below the first place, but at the first place itself
pub first_arrives_alone : (p : List Insn) (word mask : ℕ) → mask ≡ 0 → IsClear mask word ↔ ArrivesFromBelow p 0 0 word
first_arrives_alone p word mask e = (λ clear. inl refl, λ arrives. subst (λ m. IsClear m word) (sym e) (bit_at-zero word))

pub others_not_reached : (p : List Insn) (to word mask : ℕ) → (to ≡ 0 → ⊥) → word < SCRATCH_WORDS → mask ≡ 65535 → IsClear mask word
    ↔ ArrivesFromBelow p 0 to word
others_not_reached p to word mask ne below e =
    let one : bit_at mask word ≡ 1 = subst (λ m. bit_at m word ≡ 1) (sym e) (bit_at_ones 16 word below) in (
      λ clear. let bad : 1 ≡ 0 = sym one ∙ clear in absurd (omega (arith, bad)),
      λ arrives. elim arrives as (λ _. IsClear mask word) [ inl e0 ↦ absurd (ne e0) | inr h ↦ absurd (omega (arith, h.1)) ],
    )

-- the masks before the first instruction: none of its bits is set at the first place, all are at the others
pub first_masks_arrive : (p : List Insn) (n to word : ℕ) → to < n → word < SCRATCH_WORDS → IsClear (slice_index (slice_set (replicate n 65535) 0 0) to) word
    ↔ ArrivesFromBelow p 0 to word
first_masks_arrive p n zero word inside below =
    first_arrives_alone p word _ (get_or-set_same (replicate n 65535) 0 0 0 (rw length-replicate inside))
first_masks_arrive p n (suc to) word inside below =
    let ne : suc to ≢ 0 = λ e. cc in
    others_not_reached p (suc to) word _ ne below (get_or-set_other (replicate n 65535) 0 (suc to) 0 0 ne ∙ get_or-replicate n (suc to) 65535 0 inside)

pub first_masks_long : (n : ℕ) → length {A = ℕ} (slice_set (replicate n 65535) 0 0) ≡ n
first_masks_long n = length-set {A = ℕ} (replicate n 65535) 0 0 ∙ length-replicate {A = ℕ} n 65535
