-- The fault of a line's instruction is the one that the grammar has.
-- idea: both ways go through the reader step by step, and an operand is read exactly where the grammar writes one
use Rattle.std.proofs.Common.{ℕ, ◌≡◌, ◌≢◌, ◌⊎◌, inl, inr, true, false, eqb, List, [], ◌∷◌, ◌++◌, Option, None, Some, Result, Ok, Err, refl, ◌∙◌, ap, subst}
use Rattle.std.proofs.lemmas.Bool.{cases_Bool, eqb-true, eqb-false}
use Rattle.bpf_asm.specs.declared.fault.LineFault.{LineFault}
use Rattle.bpf_asm.specs.declared.fault.LineFault.TheVariants.{Syntax, UnknownMnemonic, OperandNotAllowed}
use Rattle.bpf_asm.specs.declared.mnemonic.Mnemonic.{Mnemonic}
use Rattle.bpf_asm.specs.Tokens.{Token, line_tokens, ◌>>=◌}
use Rattle.bpf_asm.specs.Tokens.Token.{NameToken, NumberToken, SignToken}
use Rattle.bpf_asm.specs.Operands.{Operand, operand_of}
use Rattle.bpf_asm.specs.Mnemonics.{mnemonic_of}
use Rattle.bpf_asm.specs.Templates.{Template, template_of}
use Rattle.bpf_asm.specs.Lines.{Reading, labels_of, after_labels, insn_of_tokens, with_mnemonic, with_shape, insn_or_fault, reading_of}
use Rattle.bpf_asm.specs.Grammar.{label_tokens}
use Rattle.bpf_asm.specs.InsnFaults.{IsNoOperand, InsnBreaks, BeginsWithNoLabel, HasInsnFault, fault_reading}
use Rattle.bpf_asm.specs.InsnFaults.InsnBreaks.{NoName, NoMnemonic, NoOperand, NotTaken}
use Rattle.bpf_asm.proofs.Shapes.{operand_is, operand_read}
use Rattle.bpf_asm.proofs.LineReadings.{labels_split, labels_back, NoLabel, read_as}

no_operand : (ts : List Token) → operand_of ts ≡ None → IsNoOperand ts
no_operand ts none = λ operand written. let read = operand_read operand ts written in cc

unread_cases : (ts : List Token) (o : Option Operand) → operand_of ts ≡ o → IsNoOperand ts → o ≡ None
unread_cases ts None e none = refl
unread_cases ts (Some operand) e none = absurd (none operand (operand_is ts operand e))

-- tokens that are written as no operand are read as none
unread : (ts : List Token) → IsNoOperand ts → operand_of ts ≡ None
unread ts none = unread_cases ts (operand_of ts) refl none

breaks_so : (ts : List Token) (f g : LineFault) → f ≡ g → InsnBreaks ts f → InsnBreaks ts g
breaks_so ts f g e h = let P : LineFault → Type 0 = λ x. InsnBreaks ts x in subst P e h

template_cases : (name : List ℕ) (ts : List Token) (fault : LineFault) (mnemonic : Mnemonic) (operand : Operand) (t : Option Template)
    → mnemonic_of name ≡ Some mnemonic → operand_of ts ≡ Some operand → template_of mnemonic operand ≡ t → insn_or_fault t ≡ Err fault
    → InsnBreaks (NameToken name ∷ ts) fault
template_cases name ts fault mnemonic operand None m o t e =
    let same : OperandNotAllowed ≡ fault = cc in
    breaks_so _ OperandNotAllowed fault same (NotTaken name mnemonic operand ts m (operand_is ts operand o) t)
template_cases name ts fault mnemonic operand (Some template) m o t e = cc

operand_cases : (name : List ℕ) (ts : List Token) (fault : LineFault) (mnemonic : Mnemonic) (o : Option Operand) → mnemonic_of name ≡ Some mnemonic
    → operand_of ts ≡ o → with_shape mnemonic o ≡ Err fault → InsnBreaks (NameToken name ∷ ts) fault
operand_cases name ts fault mnemonic None m o e =
    let same : Syntax ≡ fault = cc in
    breaks_so _ Syntax fault same (NoOperand name mnemonic ts m (no_operand ts o))
operand_cases name ts fault mnemonic (Some operand) m o e = template_cases name ts fault mnemonic operand (template_of mnemonic operand) m o refl e

mnemonic_cases : (name : List ℕ) (ts : List Token) (fault : LineFault) (m : Option Mnemonic) → mnemonic_of name ≡ m → with_mnemonic m ts ≡ Err fault
    → InsnBreaks (NameToken name ∷ ts) fault
mnemonic_cases name ts fault None m e =
    let same : UnknownMnemonic ≡ fault = cc in
    breaks_so _ UnknownMnemonic fault same (NoMnemonic name ts m)
mnemonic_cases name ts fault (Some mnemonic) m e = operand_cases name ts fault mnemonic (operand_of ts) m refl e

no_name : (token : Token) (ts : List Token) (fault : LineFault) → ((name : List ℕ) → token ≢ NameToken name) → Syntax ≡ fault → InsnBreaks (token ∷ ts) fault
no_name token ts fault other same = breaks_so _ Syntax fault same (NoName token ts other)

-- a fault that is read is the grammar's
pub breaks_is : (ts : List Token) (fault : LineFault) → insn_of_tokens ts ≡ Err fault → InsnBreaks ts fault
breaks_is [] fault e = cc
breaks_is (NumberToken k ∷ ts) fault e = let same : Syntax ≡ fault = cc in no_name (NumberToken k) ts fault (λ name e'. cc) same
breaks_is (SignToken c ∷ ts) fault e = let same : Syntax ≡ fault = cc in no_name (SignToken c) ts fault (λ name e'. cc) same
breaks_is (NameToken name ∷ ts) fault e = mnemonic_cases name ts fault (mnemonic_of name) refl e

-- and the other way round
pub breaks_read : (ts : List Token) (fault : LineFault) → InsnBreaks ts fault → insn_of_tokens ts ≡ Err fault
breaks_read ts fault (NoName (NameToken name) rest other) = absurd (other name refl)
breaks_read ts fault (NoName (NumberToken k) rest other) = refl
breaks_read ts fault (NoName (SignToken c) rest other) = refl
breaks_read ts fault (NoMnemonic name rest m) = ap (λ x. with_mnemonic x rest) m
breaks_read ts fault (NoOperand name mnemonic rest m none) = ap (λ x. with_mnemonic x rest) m ∙ ap (with_shape mnemonic) (unread rest none)
breaks_read ts fault (NotTaken name mnemonic operand rest m written t) =
    ap (λ x. with_mnemonic x rest) m ∙ (ap (with_shape mnemonic) (operand_read operand rest written) ∙ ap insn_or_fault t)

front_cases : (name : List ℕ) (c : ℕ) (ts : List Token) → BeginsWithNoLabel (after_labels ts) → (eqb c 58 ≡ true) ⊎ (eqb c 58 ≡ false)
    → BeginsWithNoLabel (after_labels (NameToken name ∷ SignToken c ∷ ts))
front_cases name c ts more (inl e) = rw e more
front_cases name c ts more (inr e) = rw e (λ other rest same. let colon : c ≡ 58 = cc in eqb-false c 58 e colon)

-- no label is left after the labels
past_labels : (ts : List Token) → BeginsWithNoLabel (after_labels ts)
past_labels [] = λ other rest same. cc
past_labels (NumberToken k ∷ ts) = λ other rest same. cc
past_labels (SignToken c ∷ ts) = λ other rest same. cc
past_labels (NameToken name ∷ []) = λ other rest same. cc
past_labels (NameToken name ∷ NameToken second ∷ ts) = λ other rest same. cc
past_labels (NameToken name ∷ NumberToken k ∷ ts) = λ other rest same. cc
past_labels (NameToken name ∷ SignToken c ∷ ts) = front_cases name c ts (past_labels ts) (cases_Bool (eqb c 58))

colon_cases : (name : List ℕ) (c : ℕ) (ts : List Token) → BeginsWithNoLabel (NameToken name ∷ SignToken c ∷ ts)
    → (eqb c 58 ≡ true) ⊎ (eqb c 58 ≡ false) → NoLabel (NameToken name ∷ SignToken c ∷ ts)
unfolding NoLabel
colon_cases name c ts none (inl e) = absurd (none name ts (ap (λ b. NameToken name ∷ SignToken b ∷ ts) (eqb-true c 58 e)))
colon_cases name c ts none (inr e) = (rw e refl, rw e refl)

-- where no label stands in front none is read
no_label : (ts : List Token) → BeginsWithNoLabel ts → NoLabel ts
unfolding NoLabel
no_label [] none = (refl, refl)
no_label (NumberToken k ∷ ts) none = (refl, refl)
no_label (SignToken c ∷ ts) none = (refl, refl)
no_label (NameToken name ∷ []) none = (refl, refl)
no_label (NameToken name ∷ NameToken second ∷ ts) none = (refl, refl)
no_label (NameToken name ∷ NumberToken k ∷ ts) none = (refl, refl)
no_label (NameToken name ∷ SignToken c ∷ ts) none = colon_cases name c ts none (cases_Bool (eqb c 58))

line_cases : (line : List ℕ) (labels : List (List ℕ)) (fault : LineFault) (r : Result (List Token) LineFault) → line_tokens line ≡ r
    → (r >>= λ tokens. Ok (read_as tokens)) ≡ Ok (fault_reading labels fault) → HasInsnFault line labels fault
unfolding read_as
line_cases line labels fault (Err other) r e = cc
line_cases line labels fault (Ok tokens) r e =
    let same : read_as tokens ≡ fault_reading labels fault = cc in
    let names : labels_of tokens ≡ labels = ap (λ (x : Reading). x.labels) same in
    let insn : insn_of_tokens (after_labels tokens) ≡ Err fault = ap (λ (x : Reading). x.insn) same in (
      after_labels tokens,
      r ∙ ap Ok (labels_split tokens ∙ ap (λ ns. label_tokens ns ++ after_labels tokens) names),
      past_labels tokens,
      breaks_is (after_labels tokens) fault insn,
    )

-- a line that reads as labels and a fault has them by the grammar
pub line_breaks : (line : List ℕ) (labels : List (List ℕ)) (fault : LineFault) → reading_of line ≡ Ok (fault_reading labels fault)
    → HasInsnFault line labels fault
unfolding read_as
line_breaks line labels fault e = line_cases line labels fault (line_tokens line) refl e

-- and the other way round
pub line_breaks_read : (line : List ℕ) (labels : List (List ℕ)) (fault : LineFault) → HasInsnFault line labels fault
    → reading_of line ≡ Ok (fault_reading labels fault)
unfolding NoLabel
line_breaks_read line labels fault h =
    let both = labels_back labels h.0 (no_label h.0 h.2) in
    ap (λ (r : Result (List Token) LineFault). r >>= λ tokens. Ok (record { labels = labels_of tokens; insn = insn_of_tokens (after_labels tokens) })) h.1
    ∙ (ap (λ ns. Ok (record { labels = ns; insn = insn_of_tokens (after_labels (label_tokens labels ++ h.0)) })) both.0
    ∙ ap (λ i. Ok (record { labels = labels; insn = i })) (ap insn_of_tokens both.1 ∙ breaks_read h.0 fault h.3))
