-- A text denotes at most one program.
use Rattle.std.proofs.Common.{ℕ, ◌+◌, ◌≡◌, ◌<◌, ◌≢◌, ◌⊎◌, inl, inr, List, [], ◌∷◌, get_or, Option, None}
use Rattle.std.proofs.Common.{Some, refl, sym, ◌∙◌, ap, arith, AllPairs, Contains, subst}
use Rattle.std.proofs.lemmas.Bool.{cases_order}
use Rattle.std.proofs.lemmas.List.{get_or_default}
use Rattle.bpf_insn.specs.declared.insn.Insn.{Insn}
use Rattle.bpf_asm.specs.Blanked.{without_comments, lines_of}
use Rattle.bpf_insn.specs.Forms.{code_of}
use Rattle.bpf_asm.specs.Templates.{Template, Jump}
use Rattle.bpf_asm.specs.Templates.Jump.{NoJump, Always, Branch}
use Rattle.bpf_asm.specs.Grammar.{Shape}
use Rattle.bpf_asm.proofs.LineReadings.{one_shape}
use Rattle.bpf_asm.specs.Denotes.{HaveShapes, Label, labels_from, templates_of, Leads, BranchesToLabels, HasJumpFields, AreInsns, DenotesBy, Denotes}

-- lines have one list of shapes
pub one_shapes : (lines : List (List ℕ)) (ss ts : List Shape) → HaveShapes lines ss → HaveShapes lines ts → ss ≡ ts
one_shapes [] [] [] h k = refl
one_shapes [] [] (t ∷ ts) h k = absurd k
one_shapes [] (s ∷ ss) ts h k = absurd h
one_shapes (line ∷ lines) [] ts h k = absurd h
one_shapes (line ∷ lines) (s ∷ ss) [] h k = absurd k
one_shapes (line ∷ lines) (s ∷ ss) (t ∷ ts) h k =
    ap (λ x. x ∷ ss) (one_shape line s t h.0 k.0) ∙ ap (λ xs. t ∷ xs) (one_shapes lines ss ts h.1 k.1)

-- no name stands twice as a label
abbrev pub Once : List Label → Type 0
Once labels = AllPairs (λ l m. l.name ≢ m.name) labels

index_cases : (labels : List Label) (name : List ℕ) (p q : ℕ) → Once labels
    → (h : Contains labels (record { name = name; at = p })) (k : Contains labels (record { name = name; at = q }))
    → (h.0 ≡ k.0) ⊎ ((h.0 < k.0) ⊎ (k.0 < h.0)) → p ≡ q
index_cases labels name p q once h k (inl same) =
    let l : Label = record { name = name; at = p } in
    let m : Label = record { name = name; at = q } in
    let found : get_or labels k.0 l ≡ l = ap (λ i. get_or labels i l) (sym same) ∙ h.2 in
    let both : l ≡ m = sym found ∙ (get_or_default labels k.0 l m k.1 ∙ k.2) in
    ap (λ x. x.at) both
index_cases labels name p q once h k (inr (inl below)) =
    let l : Label = record { name = name; at = p } in
    let m : Label = record { name = name; at = q } in
    let found : get_or labels k.0 l ≡ m = get_or_default labels k.0 l m k.1 ∙ k.2 in
    absurd (once h.0 k.0 l below k.1 (ap (λ x. x.name) h.2 ∙ sym (ap (λ x. x.name) found)))
index_cases labels name p q once h k (inr (inr above)) =
    let l : Label = record { name = name; at = p } in
    let m : Label = record { name = name; at = q } in
    let found : get_or labels h.0 m ≡ l = get_or_default labels h.0 m l h.1 ∙ h.2 in
    absurd (once k.0 h.0 m above h.1 (ap (λ x. x.name) k.2 ∙ sym (ap (λ x. x.name) found)))

-- a label has one index
pub one_index : (labels : List Label) (name : List ℕ) (p q : ℕ) → Once labels → Contains labels (record { name = name; at = p })
    → Contains labels (record { name = name; at = q }) → p ≡ q
one_index labels name p q once h k = index_cases labels name p q once h k (cases_order h.0 k.0)

one_offset : (labels : List Label) (at : ℕ) (name : List ℕ) (a b : ℕ) → Once labels → Leads labels at name a → Leads labels at name b → a ≡ b
one_offset labels at name a b once h k = let e = one_index labels name (at + 1 + a) (at + 1 + b) once h k in omega arith

one_branch : (labels : List Label) (at : ℕ) (target : Option (List ℕ)) (a b : ℕ) → Once labels → BranchesToLabels labels at target a
    → BranchesToLabels labels at target b
    → a ≡ b
one_branch labels at None a b once h k = h ∙ sym k
one_branch labels at (Some name) a b once h k = one_offset labels at name a b once h.1 k.1

insn_same : (i j : Insn) → i.code ≡ j.code → i.jt ≡ j.jt → i.jf ≡ j.jf → i.k ≡ j.k → i ≡ j
insn_same i j code jt jf k =
    ap (λ x. record { code = x; jt = i.jt; jf = i.jf; k = i.k }) code
    ∙ (ap (λ x. record { code = j.code; jt = x; jf = i.jf; k = i.k }) jt
    ∙ (ap (λ x. record { code = j.code; jt = j.jt; jf = x; k = i.k }) jf
    ∙ ap (λ x. record { code = j.code; jt = j.jt; jf = j.jf; k = x }) k))

one_insn_by : (labels : List Label) (at code k : ℕ) (jump : Jump) (i j : Insn) → Once labels → i.code ≡ code → j.code ≡ code → HasJumpFields labels at jump k i
    → HasJumpFields labels at jump k j → i ≡ j
one_insn_by labels at code k NoJump i j once c d h g = insn_same i j (c ∙ sym d) (h.0 ∙ sym g.0) (h.1 ∙ sym g.1) (h.2 ∙ sym g.2)
one_insn_by labels at code k (Always name) i j once c d h g =
    insn_same i j (c ∙ sym d) (h.0 ∙ sym g.0) (h.1 ∙ sym g.1) (one_offset labels at name i.k j.k once h.2 g.2)
one_insn_by labels at code k (Branch holds fails) i j once c d h g =
    insn_same i j (c ∙ sym d) (one_branch labels at holds i.jt j.jt once h.0 g.0) (one_branch labels at fails i.jf j.jf once h.1 g.1) (h.2 ∙ sym g.2)

-- templates have one list of instructions
pub one_program : (labels : List Label) (at : ℕ) (templates : List Template) (p q : List Insn) → Once labels → AreInsns labels at templates p
    → AreInsns labels at templates q → p ≡ q
one_program labels at [] [] [] once h k = refl
one_program labels at [] [] (j ∷ q) once h k = absurd k
one_program labels at [] (i ∷ p) q once h k = absurd h
one_program labels at (t ∷ ts) [] q once h k = absurd h
one_program labels at (t ∷ ts) (i ∷ p) [] once h k = absurd k
one_program labels at (t ∷ ts) (i ∷ p) (j ∷ q) once h k =
    ap (λ x. x ∷ p) (one_insn_by labels at (code_of t.form) t.k t.jump i j once h.0.0 k.0.0 h.0.1 k.0.1) ∙ ap (λ xs. j ∷ xs)
    (one_program labels (at + 1) ts p q once h.1 k.1)

denotes_by : (ss ts : List Shape) (p q : List Insn) → ss ≡ ts → DenotesBy ss p → DenotesBy ts q → p ≡ q
denotes_by ss ts p q e h k =
    let F : List Shape → Type 0 = λ xs. AreInsns (labels_from 0 xs) 0 (templates_of xs) q in
    one_program (labels_from 0 ss) 0 (templates_of ss) p q h.once h.insns (subst F (sym e) k.insns)

-- a text denotes at most one program
pub denotes_one : (text : List ℕ) (p q : List Insn) → Denotes text p → Denotes text q → p ≡ q
denotes_one text p q h k = denotes_by h.0 k.0 p q (one_shapes (lines_of (without_comments text)) h.0 k.0 h.1 k.1) h.2 k.2
