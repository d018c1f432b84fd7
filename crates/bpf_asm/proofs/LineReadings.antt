-- A line is read as the grammar has it.
use Rattle.std.proofs.Common.{ℕ, ◌≡◌, ◌⊎◌, inl, inr, true, false, eqb, List, [], ◌∷◌, ◌++◌, Option, None, Some, Result, Ok, Err, refl, sym, ◌∙◌, ap, subst}
use Rattle.std.proofs.lemmas.Bool.{cases_Bool, eqb-true}
use Rattle.bpf_asm.specs.declared.fault.LineFault.{LineFault}
use Rattle.bpf_asm.specs.declared.mnemonic.Mnemonic.{Mnemonic}
use Rattle.bpf_asm.specs.Tokens.{Token, line_tokens, ◌>>=◌}
use Rattle.bpf_asm.specs.Tokens.Token.{NameToken, NumberToken, SignToken}
use Rattle.bpf_asm.specs.Operands.{Operand, operand_of}
use Rattle.bpf_asm.specs.Mnemonics.{mnemonic_of}
use Rattle.bpf_asm.specs.Templates.{Template, template_of}
use Rattle.bpf_asm.specs.Lines.{Reading, labels_of, after_labels, insn_of_tokens, with_mnemonic, with_shape, insn_or_fault, reading_of}
use Rattle.bpf_asm.specs.Grammar.{WritesInsn, WritesInsnOrNone, label_tokens, Shape, HasShape}
use Rattle.bpf_asm.proofs.Shapes.{operand_is, operand_read}

label_cases : (name : List ℕ) (c : ℕ) (ts : List Token) → ts ≡ label_tokens (labels_of ts) ++ after_labels ts → (eqb c 58 ≡ true) ⊎ (eqb c 58 ≡ false)
    → NameToken name ∷ SignToken c ∷ ts ≡ label_tokens (labels_of (NameToken name ∷ SignToken c ∷ ts)) ++ after_labels (NameToken name ∷ SignToken c ∷ ts)
label_cases name c ts rest (inl e) = rw e (ap (λ b. NameToken name ∷ SignToken b ∷ ts) (eqb-true c 58 e) ∙ ap (λ xs. NameToken name ∷ SignToken 58 ∷ xs) rest)
label_cases name c ts rest (inr e) = rw e refl

-- the tokens of a line are those of its labels and those after them
pub labels_split : (ts : List Token) → ts ≡ label_tokens (labels_of ts) ++ after_labels ts
labels_split [] = refl
labels_split (NumberToken k ∷ ts) = refl
labels_split (SignToken c ∷ ts) = refl
labels_split (NameToken name ∷ []) = refl
labels_split (NameToken name ∷ NameToken second ∷ ts) = refl
labels_split (NameToken name ∷ NumberToken k ∷ ts) = refl
labels_split (NameToken name ∷ SignToken c ∷ ts) = label_cases name c ts (labels_split ts) (cases_Bool (eqb c 58))

-- no label stands in front
unfoldable pub NoLabel : List Token → Type 0
NoLabel ts = (labels_of ts ≡ []) × (after_labels ts ≡ ts)

-- and the other way round
pub labels_back : (names : List (List ℕ)) (rest : List Token) → NoLabel rest
    → (labels_of (label_tokens names ++ rest) ≡ names) × (after_labels (label_tokens names ++ rest) ≡ rest)
unfolding NoLabel
labels_back [] rest none = none
labels_back (name ∷ names) rest none = let more = labels_back names rest none in (ap (λ ns. name ∷ ns) more.0, more.1)

colon_cases : (name : List ℕ) (c : ℕ) (ts : List Token) (operand : Operand) → operand_of (SignToken c ∷ ts) ≡ Some operand
    → (eqb c 58 ≡ true) ⊎ (eqb c 58 ≡ false) → NoLabel (NameToken name ∷ SignToken c ∷ ts)
unfolding NoLabel
colon_cases name c ts operand read (inl e) =
    let colon : operand_of (SignToken 58 ∷ ts) ≡ Some operand = ap (λ b. operand_of (SignToken b ∷ ts)) (sym (eqb-true c 58 e)) ∙ read in
    cc
colon_cases name c ts operand read (inr e) = (rw e refl, rw e refl)

insn_no_label : (name : List ℕ) (ts : List Token) (operand : Operand) → operand_of ts ≡ Some operand → NoLabel (NameToken name ∷ ts)
unfolding NoLabel
insn_no_label name [] operand read = (refl, refl)
insn_no_label name (NameToken second ∷ ts) operand read = (refl, refl)
insn_no_label name (NumberToken k ∷ ts) operand read = (refl, refl)
insn_no_label name (SignToken c ∷ ts) operand read = colon_cases name c ts operand read (cases_Bool (eqb c 58))

no_label : (insn : Option Template) (rest : List Token) → WritesInsnOrNone insn rest → NoLabel rest
unfolding NoLabel
no_label None rest h = let P : List Token → Type 0 = NoLabel in subst P (sym h) (refl, refl)
no_label (Some template) rest h =
    let P : List Token → Type 0 = NoLabel in
    subst P (sym h.tokens) (insn_no_label h.name h.operand_tokens h.operand (operand_read h.operand h.operand_tokens h.written))

written_so : (template : Template) (insn : Option Template) (ts : List Token) → Some template ≡ insn → WritesInsn template ts → WritesInsnOrNone insn ts
written_so template insn ts e h = let P : Option Template → Type 0 = λ i. WritesInsnOrNone i ts in subst P e h

template_cases : (name : List ℕ) (ts : List Token) (insn : Option Template) (mnemonic : Mnemonic) (operand : Operand) (t : Option Template)
    → mnemonic_of name ≡ Some mnemonic → operand_of ts ≡ Some operand → template_of mnemonic operand ≡ t
    → insn_or_fault t ≡ Ok insn → WritesInsnOrNone insn (NameToken name ∷ ts)
template_cases name ts insn mnemonic operand None m o t e = cc
template_cases name ts insn mnemonic operand (Some template) m o t e =
    let same : Some template ≡ insn = cc in
    written_so template insn (NameToken name ∷ ts) same
    (record {
      name = name;
      mnemonic = mnemonic;
      operand = operand;
      operand_tokens = ts;
      tokens = refl;
      known = m;
      written = operand_is ts operand o;
      taken = t;
    })

operand_cases : (name : List ℕ) (ts : List Token) (insn : Option Template) (mnemonic : Mnemonic) (o : Option Operand) → mnemonic_of name ≡ Some mnemonic
    → operand_of ts ≡ o → with_shape mnemonic o ≡ Ok insn → WritesInsnOrNone insn (NameToken name ∷ ts)
operand_cases name ts insn mnemonic None m o e = cc
operand_cases name ts insn mnemonic (Some operand) m o e = template_cases name ts insn mnemonic operand (template_of mnemonic operand) m o refl e

mnemonic_cases : (name : List ℕ) (ts : List Token) (insn : Option Template) (m : Option Mnemonic) → mnemonic_of name ≡ m → with_mnemonic m ts ≡ Ok insn
    → WritesInsnOrNone insn (NameToken name ∷ ts)
mnemonic_cases name ts insn None m e = cc
mnemonic_cases name ts insn (Some mnemonic) m e = operand_cases name ts insn mnemonic (operand_of ts) m refl e

-- an instruction that is read is written so
insn_is : (ts : List Token) (insn : Option Template) → insn_of_tokens ts ≡ Ok insn → WritesInsnOrNone insn ts
insn_is [] insn e = let P : Option Template → Type 0 = λ i. WritesInsnOrNone i [] in let same : None ≡ insn = cc in subst P same refl
insn_is (NumberToken k ∷ ts) insn e = cc
insn_is (SignToken c ∷ ts) insn e = cc
insn_is (NameToken name ∷ ts) insn e = mnemonic_cases name ts insn (mnemonic_of name) refl e

-- an instruction is read as it is written
insn_read : (insn : Option Template) (ts : List Token) → WritesInsnOrNone insn ts → insn_of_tokens ts ≡ Ok insn
insn_read None ts h = ap insn_of_tokens h
insn_read (Some template) ts h =
    ap insn_of_tokens h.tokens ∙ (ap (λ m. with_mnemonic m h.operand_tokens) h.known ∙
    (ap (with_shape h.mnemonic) (operand_read h.operand h.operand_tokens h.written) ∙ ap insn_or_fault h.taken))

-- what a line with these tokens reads as
unfoldable pub read_as : List Token → Reading
read_as tokens = record { labels = labels_of tokens; insn = insn_of_tokens (after_labels tokens) }

reading_cases : (line : List ℕ) (shape : Shape) (r : Result (List Token) LineFault) → line_tokens line ≡ r
    → (r >>= λ tokens. Ok (read_as tokens)) ≡ Ok (record { labels = shape.labels; insn = Ok shape.insn }) → HasShape line shape
unfolding read_as
reading_cases line shape (Err fault) r e = cc
reading_cases line shape (Ok tokens) r e =
    let want : Reading = record { labels = shape.labels; insn = Ok shape.insn } in
    let same : read_as tokens ≡ want = cc in
    let labels : labels_of tokens ≡ shape.labels = ap (λ (x : Reading). x.labels) same in
    let insn : insn_of_tokens (after_labels tokens) ≡ Ok shape.insn = ap (λ (x : Reading). x.insn) same in (
      after_labels tokens,
      r ∙ ap Ok (labels_split tokens ∙ ap (λ ns. label_tokens ns ++ after_labels tokens) labels),
      insn_is
          (after_labels tokens) shape.insn insn,
    )

-- a line that is read without a fault has that shape
pub shape_is : (line : List ℕ) (shape : Shape) → reading_of line ≡ Ok (record { labels = shape.labels; insn = Ok shape.insn }) → HasShape line shape
unfolding read_as
shape_is line shape e = reading_cases line shape (line_tokens line) refl e

-- a line is read as the shape that it has
pub shape_read : (line : List ℕ) (shape : Shape) → HasShape line shape → reading_of line ≡ Ok (record { labels = shape.labels; insn = Ok shape.insn })
unfolding NoLabel
shape_read line shape h =
    let both = labels_back shape.labels h.0 (no_label shape.insn h.0 h.2) in
    ap (λ (r : Result (List Token) LineFault). r >>= λ tokens. Ok (record { labels = labels_of tokens; insn = insn_of_tokens (after_labels tokens) })) h.1
    ∙ (ap (λ ns. Ok (record { labels = ns; insn = insn_of_tokens (after_labels (label_tokens shape.labels ++ h.0)) })) both.0
    ∙ ap (λ i. Ok (record { labels = shape.labels; insn = i })) (ap insn_of_tokens both.1 ∙ insn_read shape.insn h.0 h.2))

-- a fault of a line's tokens is what the line reads as
pub fault_read : (line : List ℕ) (fault : LineFault) → line_tokens line ≡ Err fault → reading_of line ≡ Err fault
unfolding read_as
fault_read line fault e = ap (λ (r : Result (List Token) LineFault). r >>= λ tokens. Ok (read_as tokens)) e

fault_cases : (line : List ℕ) (fault : LineFault) (r : Result (List Token) LineFault) → line_tokens line ≡ r
    → (r >>= λ tokens. Ok (read_as tokens)) ≡ Err fault → line_tokens line ≡ Err fault
unfolding read_as
fault_cases line fault (Err other) r e = let same : other ≡ fault = cc in r ∙ ap Err same
fault_cases line fault (Ok tokens) r e = cc

-- and the other way round
pub fault_is : (line : List ℕ) (fault : LineFault) → reading_of line ≡ Err fault → line_tokens line ≡ Err fault
unfolding read_as
fault_is line fault e = fault_cases line fault (line_tokens line) refl e

labels_in : Result Reading LineFault → List (List ℕ)
labels_in (Ok reading) = reading.labels
labels_in (Err fault) = []

insn_in : Result Reading LineFault → Result (Option Template) LineFault
insn_in (Ok reading) = reading.insn
insn_in (Err fault) = Err fault

shape_same : (s t : Shape) → s.labels ≡ t.labels → s.insn ≡ t.insn → s ≡ t
shape_same s t labels insn = ap (λ l. record { labels = l; insn = s.insn }) labels ∙ ap (λ i. record { labels = t.labels; insn = i }) insn

-- a line has one shape
pub one_shape : (line : List ℕ) (s t : Shape) → HasShape line s → HasShape line t → s ≡ t
unfolding labels_in insn_in
one_shape line s t h k =
    let both = sym (shape_read line s h) ∙ shape_read line t k in
    let labels : s.labels ≡ t.labels = ap labels_in both in
    let insn_s : Result (Option Template) LineFault = Ok s.insn in
    let insn_t : Result (Option Template) LineFault = Ok t.insn in
    let read : insn_s ≡ insn_t = ap insn_in both in
    let insn : s.insn ≡ t.insn = cc in
    shape_same s t labels insn
