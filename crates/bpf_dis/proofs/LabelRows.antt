-- The labels of a program: each names its own index, no two are the same, and each index to which a jump leads has one.
use Rattle.std.proofs.Common.{ℕ, ◌+◌, ◌<◌, ◌≤◌, ◌^◌, ◌≡◌, ◌≢◌, ◌⊎◌, inl, inr, Bool, true, false, decimal, List, [], ◌∷◌, ◌++◌}
use Rattle.std.proofs.Common.{map, length, drop, None, All, AllPairs, Contains, refl, ◌∙◌, ap, subst, arith}
use Rattle.std.proofs.lemmas.Bool.{cases_eq, both_ways}
use Rattle.std.proofs.lemmas.Fmt.{decimal_injective}
use Rattle.std.proofs.lemmas.List.Elements.{All-cons, Contains-append_right}
use Rattle.std.proofs.lemmas.List.Kept.{AllPairs-cons}
use Rattle.bpf_insn.specs.declared.insn.Insn.{Insn}
use Rattle.bpf_insn.specs.Forms.{form}
use Rattle.bpf_asm.specs.Grammar.{Shape}
use Rattle.bpf_asm.specs.Denotes.{Label, labels_from}
use Rattle.bpf_dis.specs.ProgramText.{label_name}
use Rattle.bpf_dis.specs.Targets.{is_target}
use Rattle.bpf_dis.proofs.Lines.{line_labels, insn_template, line_shape}
use Rattle.bpf_dis.proofs.Statements.{label_at}

-- the shapes of the lines of these instructions of a program, and of the empty line after the last line feed
abbrev pub shapes_from : List Insn → ℕ → List Insn → List Shape
shapes_from program at [] = record { labels = []; insn = None } ∷ []
shapes_from program at (insn ∷ insns) = line_shape (is_target program at) at (insn_template (form insn.code) at insn) ∷ shapes_from program (at + 1) insns

-- the label of a line, with its index
abbrev row : Bool → ℕ → List Label
row labelled at = map (λ name. record { name = name; at = at }) (line_labels labelled at)

-- a label names its index, which is one of these
pub record IsIn (from end : ℕ) (l : Label) : Type 0 where
  pub named : l.name ≡ label_name l.at
  pub first : from ≤ l.at
  pub last : l.at < end

-- labels of these indexes, each once
pub record Rows (from end : ℕ) (labels : List Label) : Type 0 where
  pub inside : All (IsIn from end) labels
  pub once : AllPairs (λ l m. l.name ≢ m.name) labels

wider : (at end : ℕ) (l : Label) → IsIn (at + 1) end l → IsIn at end l
wider at end l h = record { named = h.named; first = omega (arith, h.first); last = h.last }

apart : (at end : ℕ) (l : Label) → at < end → end ≤ 2 ^ 64 → IsIn (at + 1) end l → label_name at ≢ l.name
apart at end l below within h =
    λ e.
    let same : decimal at ≡ decimal l.at = ap (drop 1) (e ∙ h.named) in
    let to : at ≡ l.at = decimal_injective at l.at (omega (arith, below, within)) (omega (arith, h.last, within)) same in
    absurd (omega (arith, to, h.first))

more_rows : (labelled : Bool) (at end : ℕ) (rest : List Label) → at < end → end ≤ 2 ^ 64 → Rows (at + 1) end rest → Rows at end (row labelled at ++ rest)
more_rows false at end rest below within h = record { inside = λ k d here. wider at end _ (h.inside k d here); once = h.once }
more_rows true at end rest below within h = record {
  inside = All-cons (IsIn at end) (label_at at) rest (record { named = refl; first = omega arith; last = below })
      (λ k d here. wider at end _ (h.inside k d here));
  once = AllPairs-cons (λ l m. l.name ≢ m.name) (label_at at) rest (λ k d here. apart at end _ below within (h.inside k d here)) h.once;
}

-- the labels of the lines of instructions
pub rows : (program : List Insn) (at : ℕ) (insns : List Insn) → at + length insns ≤ 2 ^ 64
    → Rows at (at + length insns) (labels_from at (shapes_from program at insns))
rows program at [] within = record { inside = λ k d here. absurd (omega (arith, here)); once = λ i j d below here. absurd (omega (arith, here)) }
rows program at (insn ∷ insns) within =
    let end : at + 1 + length insns ≡ at + length (insn ∷ insns) = omega arith in
    let P : ℕ → Type 0 = λ e. Rows (at + 1) e (labels_from (at + 1) (shapes_from program (at + 1) insns)) in
    more_rows (is_target program at) at (at + length (insn ∷ insns)) _ (omega arith) within
    (subst P end (rows program (at + 1) insns (omega (arith, within))))

row_has : (labelled : Bool) (at to : ℕ) (rest : List Label) → labelled ≡ true → at ≡ to → Contains (row labelled at ++ rest) (label_at to)
row_has false at to rest marked here = absurd (both_ways false refl marked)
row_has true at to rest marked here =
    let P : ℕ → Type 0 = λ p. Contains (row true at ++ rest) (label_at p) in
    subst P here (0, omega arith, refl)

has_cases : (program : List Insn) (at to : ℕ) (insn : Insn) (rest : List Label) → is_target program to ≡ true → ((at ≡ to → ⊥) → Contains rest (label_at to))
    → (at ≡ to) ⊎ (at ≡ to → ⊥)
    → Contains (row (is_target program at) at ++ rest) (label_at to)
has_cases program at to insn rest marked more (inl here) =
    row_has (is_target program at) at to rest (ap (is_target program) here ∙ marked) here
has_cases program at to insn rest marked more (inr other) = Contains-append_right (row (is_target program at) at) rest (label_at to) (more other)

-- an index to which a jump leads has its label
pub has_label : (program : List Insn) (at : ℕ) (insns : List Insn) (to : ℕ) → at ≤ to → to < at + length insns → is_target program to ≡ true
    → Contains (labels_from at (shapes_from program at insns)) (label_at to)
has_label program at [] to from below marked = absurd (omega (arith, from, below))
has_label program at (insn ∷ insns) to from below marked =
    has_cases program at to insn _ marked (λ other. has_label program (at + 1) insns to (omega (arith, from, other)) (omega (arith, below)) marked)
    (cases_eq at to)
