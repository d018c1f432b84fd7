-- The text of a program denotes the program.
-- idea: the shapes of the lines are written down from the program, line by line, with a label where a jump leads; that these
-- shapes denote the program is then three facts: labels are apart, targets have theirs, and codes and fields are the program's
use Rattle.std.proofs.Common.{ℕ, suc, ◌+◌, ◌<◌, ◌≤◌, ◌^◌, ◌≡◌, ◌⊎◌, inl, inr, true, eqb, List, [], ◌∷◌, length}
use Rattle.std.proofs.Common.{slice_get, Option, None, Some, All, Contains, refl, sym, ◌∙◌, subst, arith}
use Rattle.std.specs.List.{list_any}
use Rattle.std.proofs.lemmas.Bool.{cases_lt, eq-eqb, or_left, or_right}
use Rattle.std.proofs.lemmas.List.Folds.{list_any-append}
use Rattle.std.proofs.lemmas.List.Elements.{All-nil, All-cons}
use Rattle.std.proofs.lemmas.Option.{slice_get_within, get_or_from_slice_get}
use Rattle.bpf_insn.specs.declared.insn.Insn.{Insn}
use Rattle.bpf_insn.specs.declared.insn.TheConstants.{MAX_INSNS}
use Rattle.bpf_insn.specs.declared.form.Form.{Form}
use Rattle.bpf_insn.specs.Bytes.{InRange}
use Rattle.bpf_insn.specs.Forms.{form}
use Rattle.bpf_asm.specs.Blanked.{lines_of}
use Rattle.bpf_asm.specs.Grammar.{Shape}
use Rattle.bpf_asm.specs.Denotes.{Label, HaveShapes, labels_from, templates_of, IsInsn, AreInsns, Denotes}
use Rattle.bpf_insn.specs.Flow.{jump_targets, IsOneOf, FormJumpsOut}
use Rattle.bpf_dis.specs.Targets.{targets_from, is_target}
use Rattle.bpf_dis.specs.ProgramText.{line_text, lines_text, program_text}
use Rattle.bpf_dis.specs.Faults.{UnusedAreZero, FormIsSaid, HasText}
use Rattle.bpf_dis.proofs.Targets.{some_insn}
use Rattle.bpf_insn.proofs.Codes.{code_is}
use Rattle.bpf_dis.proofs.Statements.{EachKnown, fields, form_says, label_at}
use Rattle.bpf_dis.proofs.Lines.{AreShown, shown_blanked, line_shown, line_first, insn_template, line_shape, IsLine, line_is}
use Rattle.bpf_dis.proofs.LabelRows.{shapes_from, rows, has_label}

-- What is known of the instruction with this index in a program of n instructions.
pub record SaidAt (n at : ℕ) (insn : Insn) : Type 0 where
  pub f : Form
  pub formed : form insn.code ≡ Some f
  pub unused : UnusedAreZero f insn
  pub range : InRange insn
  pub inside : ¬ FormJumpsOut n (Some f) insn at

-- the same of each of these instructions
abbrev EachSaid : ℕ → ℕ → List Insn → Type 0
EachSaid n at [] = Unit {0}
EachSaid n at (insn ∷ insns) = SaidAt n at insn × EachSaid n (at + 1) insns

-- each index of a program of n instructions that is a target has its label
abbrev Known : ℕ → List Label → List ℕ → Type 0
Known n labels targets = (to : ℕ) → to < n → list_any (λ target. eqb target to) targets ≡ true → Contains labels (label_at to)

each_known : (n : ℕ) (labels : List Label) (targets : List ℕ) → Known n labels targets → All (λ target. target < n) targets → EachKnown labels targets
each_known n labels [] known inside = tt
each_known n labels (target ∷ targets) known inside = (
  known target (inside 0 target (omega arith)) (or_left _ _ (eq-eqb target target refl)),
  each_known n labels targets (λ to below h. known to below (or_right (eqb target to) _ h)) (λ k d below. inside (suc k) d (omega (arith, below))),
)

-- targets none of which lies past the end lie before it
below_cases : (n to : ℕ) → (n ≤ to → ⊥) → (to < n) ⊎ (n ≤ to) → to < n
below_cases n to out (inl below) = below
below_cases n to out (inr past) = absurd (out past)

all_below : (n : ℕ) (targets : List ℕ) → ((to : ℕ) → IsOneOf targets to → n ≤ to → ⊥) → All (λ target. target < n) targets
all_below n [] out = All-nil (λ target. target < n)
all_below n (one ∷ []) out = All-cons (λ target. target < n) one [] (below_cases n one (out one refl) (cases_lt one n)) (All-nil (λ target. target < n))
all_below n (one ∷ other ∷ more) out =
    All-cons (λ target. target < n) one (other ∷ more) (below_cases n one (out one (inl refl)) (cases_lt one n))
    (all_below n (other ∷ more) (λ to is. out to (inr is)))

targets_below : (n at : ℕ) (insn : Insn) (f : Form) → ¬ FormJumpsOut n (Some f) insn at → All (λ target. target < n) (jump_targets (Some f) insn at)
targets_below n at insn f inside = all_below n (jump_targets (Some f) insn at) (λ to is past. inside (to, is, past))

is_insn : (n : ℕ) (labels : List Label) (at : ℕ) (insn : Insn) → SaidAt n at insn → EachKnown labels (jump_targets (form insn.code) insn at)
    → IsInsn labels at (insn_template (form insn.code) at insn) insn
is_insn n labels at insn said known =
    let Q : Option Form → Type 0 = λ o. EachKnown labels (jump_targets o insn at) in
    let P : Option Form → Type 0 = λ o. IsInsn labels at (insn_template o at insn) insn in
    subst P (sym said.formed) (
      code_is insn.code said.f said.formed,
      fields said.f labels at insn said.unused (omega (arith, said.range.jt)) (omega (arith, said.range.jf)) (subst Q said.formed known),
    )

-- each line says its instruction
are_insns : (n : ℕ) (program : List Insn) (labels : List Label) (at : ℕ) (insns : List Insn) → EachSaid n at insns
    → Known n labels (targets_from at insns) → AreInsns labels at (templates_of (shapes_from program at insns)) insns
are_insns n program labels at [] said known = tt
are_insns n program labels at (insn ∷ insns) said known =
    let here : List ℕ = jump_targets (form insn.code) insn at in
    let later : List ℕ = targets_from (at + 1) insns in
    let Q : Option Form → Type 0 = λ o. All (λ target. target < n) (jump_targets o insn at) in
    let below : All (λ target. target < n) here = subst Q (sym said.0.formed) (targets_below n at insn said.0.f said.0.inside) in (
      is_insn n labels at insn said.0 (each_known n labels here
          (λ to within h. known to within (list_any-append (λ target. eqb target to) here later ∙ or_left _ _ h)) below),
      are_insns n program labels (at + 1) insns said.1
          (λ to below h. known to below (list_any-append (λ target. eqb target to) here later ∙ or_right (list_any (λ target. eqb target to) here) _ h)),
    )

is_line : (n : ℕ) (program : List Insn) (at : ℕ) (insn : Insn) → SaidAt n at insn → at + 1 + 4294967296 < 2 ^ 64
    → IsLine (line_text (is_target program at) at insn) (line_shape (is_target program at) at (insn_template (form insn.code) at insn))
is_line n program at insn said room =
    line_is (is_target program at) at insn said.f (form insn.code) said.formed (omega (arith, room)) (form_says said.f at insn said.range room)

-- the lines have these shapes
shapes_have : (n : ℕ) (program : List Insn) (at : ℕ) (insns : List Insn) → EachSaid n at insns → at + length insns + 4294967296 < 2 ^ 64
    → HaveShapes (lines_of (lines_text program at insns)) (shapes_from program at insns)
shapes_have n program at [] said room = (([], refl, refl), tt)
shapes_have n program at (insn ∷ insns) said room =
    let line = is_line n program at insn said.0 (omega (arith, room)) in
    let P : List (List ℕ) → Type 0 = λ lines. HaveShapes lines (shapes_from program at (insn ∷ insns)) in
    subst P (sym (line_first (line_text (is_target program at) at insn) (lines_text program (at + 1) insns) line.kept))
    (line.shaped, shapes_have n program (at + 1) insns said.1 (omega (arith, room)))

-- no comment begins in the lines
lines_shown : (n : ℕ) (program : List Insn) (at : ℕ) (insns : List Insn) → EachSaid n at insns → at + length insns + 4294967296 < 2 ^ 64
    → AreShown (lines_text program at insns)
lines_shown n program at [] said room = refl
lines_shown n program at (insn ∷ insns) said room =
    let line = is_line n program at insn said.0 (omega (arith, room)) in
    line_shown (line_text (is_target program at) at insn) (lines_text program (at + 1) insns) line.kept
    (lines_shown n program (at + 1) insns said.1 (omega (arith, room)))

-- what holds by index holds of each instruction in turn
each_said : (n at : ℕ) (insns : List Insn) → ((i : ℕ) (insn : Insn) → slice_get insns i ≡ Some insn → SaidAt n (at + i) insn) → EachSaid n at insns
each_said n at [] known = tt
each_said n at (insn ∷ insns) known =
    let first : at + 0 ≡ at = omega arith in
    let P : ℕ → Type 0 = λ p. SaidAt n p insn in (
      subst P first (known 0 insn refl),
      each_said n (at + 1) insns (λ i x e. let next : at + suc i ≡ at + 1 + i = omega arith in let R : ℕ → Type 0 = λ p. SaidAt n p x in subst R next
          (known (suc i) x e)),
    )

said_by_form : (n at : ℕ) (insn : Insn) (o : Option Form) → form insn.code ≡ o → FormIsSaid o insn → ¬ FormJumpsOut n o insn at → InRange insn
    → SaidAt n at insn
said_by_form n at insn None formed said inside range = absurd said
said_by_form n at insn (Some f) formed said inside range = record { f = f; formed = formed; unused = said; range = range; inside = inside }

pub same_insn : (program : List Insn) (at : ℕ) (i j : Insn) → slice_get program at ≡ Some i → slice_get program at ≡ Some j → i ≡ j
same_insn program at i j h k = some_insn i j (sym h ∙ k)

said_at : (program : List Insn) → All InRange program → HasText program → (at : ℕ) (insn : Insn) → slice_get program at ≡ Some insn
    → SaidAt (length program) at insn
said_at program range text at insn stands =
    let below = slice_get_within program at insn stands in
    let both = text at below in
    let P : Insn → Type 0 = λ i. FormIsSaid (form i.code) i in
    let R : Insn → Type 0 = λ i. InRange i in
    said_by_form (length program) at insn (form insn.code) refl
    (subst P (same_insn program at both.0.0 insn both.0.1 stands) both.0.2)
    (λ out. both.1 (insn, stands, out))
    (subst R (get_or_from_slice_get program at insn insn stands) (range at insn below))

-- the text of a program denotes it
pub text_denotes : (program : List Insn) → All InRange program → length program ≤ MAX_INSNS → HasText program → Denotes (program_text program) program
text_denotes program range size text =
    let n : ℕ = length program in
    let said : EachSaid n 0 program =
    each_said n 0 program (λ i insn e. let same : 0 + i ≡ i = omega arith in let P : ℕ → Type 0 = λ p. SaidAt n p insn in subst P (sym same)
    (said_at program range text i insn e)) in
    let room : 0 + n + 4294967296 < 2 ^ 64 = omega (arith, size) in
    let shapes : List Shape = shapes_from program 0 program in
    let labels : List Label = labels_from 0 shapes in
    let all = rows program 0 program (omega (arith, size)) in
    let P : List ℕ → Type 0 = λ bs. HaveShapes (lines_of bs) shapes in (
      shapes,
      subst P (sym (shown_blanked (program_text program) (lines_shown n program 0 program said room))) (shapes_have n program 0 program said room),
      record {
        once = all.once;
        named = λ k d below. omega (arith, (all.inside k d below).last);
        insns = are_insns n program labels 0 program said (λ to below h. has_label program 0 program to (omega arith) (omega (arith, below)) h);
        size = size;
      },
    )
