-- The lines of a program are those that were written, and each has its shape.
use Rattle.std.proofs.Common.{ℕ, ◌<◌, ◌^◌, ◌≡◌, Bool, true, false, not, ◌&&◌, eqb, codes, List, [], ◌∷◌}
use Rattle.std.proofs.Common.{◌++◌, Option, None, Some, refl, sym, ◌∙◌, ap, subst, append_assoc}
use Rattle.std.specs.List.{list_all}
use Rattle.std.proofs.lemmas.Bool.{and_parts, and_from, not-true, ne_eqb, eqb-false}
use Rattle.std.proofs.lemmas.List.Folds.{list_all-append}
use Rattle.bpf_insn.specs.declared.insn.Insn.{Insn}
use Rattle.bpf_insn.specs.declared.form.Form.{Form}
use Rattle.bpf_insn.specs.declared.form.Form.TheVariants.{LdImm}
use Rattle.bpf_asm.specs.Blanked.{without_comments_from, outside_byte, with_first_byte, lines_of}
use Rattle.bpf_asm.specs.Tokens.Token.{NameToken}
use Rattle.bpf_asm.specs.Templates.{Template}
use Rattle.bpf_asm.specs.Templates.Jump.{NoJump}
use Rattle.bpf_asm.specs.Grammar.{Shape, HasShape}
use Rattle.bpf_dis.specs.ProgramText.{label_name, label_text, insn_text, form_text}
use Rattle.bpf_dis.proofs.LinePieces.{Piece, written, tokens, Fine, AreKept, is_kept, name_word, tokens_are, written_kept}
use Rattle.bpf_dis.proofs.LinePieces.Piece.{Word, Sign, Space}
use Rattle.bpf_dis.proofs.Statements.{Says, form_template, label_is_name}

-- a byte that begins no comment
abbrev pub is_shown : ℕ → Bool
is_shown b = not (eqb b 59) && not (eqb b 47)

abbrev pub AreShown : List ℕ → Type 0
AreShown bs = list_all is_shown bs ≡ true

outside_shown : (b : ℕ) (bs : List ℕ) → is_shown b ≡ true → outside_byte b bs ≡ record { byte = b; commented = 0 }
outside_shown b bs h =
    let both = and_parts (not (eqb b 59)) (not (eqb b 47)) h in
    let semicolon : eqb b 59 ≡ false = not-true (eqb b 59) both.0 in
    let slash : eqb 47 b ≡ false = ne_eqb 47 b (λ e. eqb-false b 47 (not-true (eqb b 47) both.1) (sym e)) in
    rw (semicolon, slash) refl

-- a text in which no comment begins is its own
pub shown_blanked : (bs : List ℕ) → AreShown bs → without_comments_from 0 bs ≡ bs
shown_blanked [] h = refl
shown_blanked (b ∷ bs) h =
    let both = and_parts (is_shown b) (list_all is_shown bs) h in
    ap (λ s. s.byte ∷ without_comments_from s.commented bs) (outside_shown b bs both.0) ∙ ap (λ xs. b ∷ xs) (shown_blanked bs both.1)

kept_shown : (bs : List ℕ) → AreKept bs → AreShown bs
kept_shown [] h = refl
kept_shown (b ∷ bs) h =
    let both = and_parts (is_kept b) (list_all is_kept bs) h in
    and_from _ _ (and_parts (not (eqb b 10)) (is_shown b) both.0).1 (kept_shown bs both.1)

-- a line, its line feed and what follows
pub line_shown : (line rest : List ℕ) → AreKept line → AreShown rest → AreShown (line ++ (10 ∷ rest))
line_shown line rest h k = list_all-append is_shown line (10 ∷ rest) ∙ and_from _ _ (kept_shown line h) k

-- the first line ends at the first line feed
pub line_first : (line rest : List ℕ) → AreKept line → lines_of (line ++ (10 ∷ rest)) ≡ line ∷ lines_of rest
line_first [] rest h = refl
line_first (b ∷ line) rest h =
    let both = and_parts (is_kept b) (list_all is_kept line) h in
    let other : eqb b 10 ≡ false = not-true (eqb b 10) (and_parts (not (eqb b 10)) (is_shown b) both.0).0 in
    rw other (ap (with_first_byte b) (line_first line rest both.1))

-- the label of a line, where it has one
abbrev pub line_labels : Bool → ℕ → List (List ℕ)
line_labels true at = label_name at ∷ []
line_labels false at = []

-- what the line of the instruction with this index says
abbrev pub insn_template : Option Form → ℕ → Insn → Template
insn_template None at insn = record { form = LdImm; k = 0; jump = NoJump }
insn_template (Some f) at insn = form_template f at insn

abbrev pub line_shape : Bool → ℕ → Template → Shape
line_shape labelled at template = record { labels = line_labels labelled at; insn = Some template }

-- A line that has a shape, and no byte that ends it or begins a comment.
pub record IsLine (line : List ℕ) (shape : Shape) : Type 0 where
  pub shaped : HasShape line shape
  pub kept : AreKept line

with_label : (labelled : Bool) (at : ℕ) (text : List ℕ) (template : Template) → at < 2 ^ 64 → Says text template
    → IsLine (label_text labelled at ++ text) (line_shape labelled at template)
with_label false at text template small says =
    let P : List ℕ → Type 0 = λ line. IsLine line (line_shape false at template) in
    subst P says.same (record { shaped = (tokens says.pieces, tokens_are says.pieces says.fine, says.insn); kept = written_kept says.pieces says.fine })
with_label true at text template small says =
    let P : List ℕ → Type 0 = λ line. IsLine line (line_shape true at template) in
    let ps : List Piece = Word (label_name at) (NameToken (label_name at)) ∷ Sign 58 ∷ Space ∷ says.pieces in
    let fine : Fine ps = (name_word (label_name at) (label_is_name at small), refl, (refl, says.fine)) in
    let same : written ps ≡ (label_name at ++ codes ": ") ++ text =
    ap (λ t. label_name at ++ (codes ": " ++ t)) says.same ∙ sym (append_assoc (label_name at) (codes ": ") text) in
    subst P same (record { shaped = (tokens says.pieces, tokens_are ps fine, says.insn); kept = written_kept ps fine })

-- the line of an instruction with this form
pub line_is : (labelled : Bool) (at : ℕ) (insn : Insn) (f : Form) (o : Option Form) → o ≡ Some f → at < 2 ^ 64
    → Says (form_text f at insn) (form_template f at insn)
    → IsLine (label_text labelled at ++ insn_text o at insn) (line_shape labelled at (insn_template o at insn))
line_is labelled at insn f o formed small says =
    let P : Option Form → Type 0 = λ o. IsLine (label_text labelled at ++ insn_text o at insn) (line_shape labelled at (insn_template o at insn)) in
    subst P (sym formed) (with_label labelled at (form_text f at insn) (form_template f at insn) small says)
