-- From the lines that were read to the program or the first fault.
-- idea: a draft is the whole of what its lines' shapes say, so each pass adds one line, or one instruction, to an equation
-- of lists, and a fault found after well lines is the first fault of the text by definition
use Rattle.std.proofs.Common.{ℕ, ◌+◌, ◌≡◌, ◌≢◌, ◌<◌, ◌≤◌, ◌⊎◌, inl, inr, List, [], ◌∷◌, ◌++◌, map, length, Option, None, Some, Result, Ok}
use Rattle.std.proofs.Common.{Err, MatchResult, IfOk, IfErr, vec_len, Vec, Global, refl, sym, ◌∙◌, ap, arith, subst, append_assoc, take}
use Rattle.std.proofs.Common.{drop, get_or, suc, add-one, take-suc, take-append-drop, length-take-le, drop-cons}
use Rattle.std.specs.List.{cons_option}
use Rattle.std.proofs.lemmas.List.{map-append, length-map}
use Rattle.bpf_insn.specs.declared.insn.Insn.{Insn}
use Rattle.bpf_insn.specs.declared.insn.TheConstants.{MAX_INSNS}
use Rattle.bpf_asm.specs.declared.fault.LineFault.{LineFault}
use Rattle.bpf_asm.specs.declared.fault.AsmFault.{AsmFault}
use Rattle.bpf_asm.specs.declared.fault.AsmFault.TheVariants.{Syntax, LabelTwice, TooLong, Memory}
use Rattle.bpf_asm.specs.declared.template.Template as templates
use Rattle.bpf_asm.specs.declared.draft.Draft.{Draft}
use Rattle.bpf_asm.specs.declared.draft.Unlinked.{Unlinked}
use Rattle.bpf_asm.specs.Blanked.{without_comments, lines_of}
use Rattle.bpf_asm.specs.Templates.{Template}
use Rattle.bpf_asm.specs.Lines.{Reading, reading_of}
use Rattle.bpf_asm.specs.Grammar.{Shape, HasShape}
use Rattle.bpf_asm.specs.Denotes.{HaveShapes, Label, labels_from, templates_of, IsInsn, AreInsns, Denotes}
use Rattle.bpf_asm.specs.FirstFault.{in_line, names_of, Once, AreWell, LineBreaks, FaultInLine, AreFollowed}
use Rattle.bpf_asm.specs.FirstFault.{JumpBreaks, Misled, FirstFault, DenotesNone, KeepsSomething}
use Rattle.bpf_asm.specs.FirstFault.LineBreaks.{InLabels, InInsn, InLength}
use Rattle.bpf_asm.specs.Views.{insn_data, template_data, jump_data, unlinked_data}
use Rattle.bpf_asm.specs.Drafts.{cons_numbered, numbered_templates, templates_in, BreaksAmong, label_shape, EndsLabels, IsDraftOf}
use Rattle.bpf_asm.proofs.LineReadings.{shape_is, shape_read}
use Rattle.bpf_asm.proofs.ShapeLists.{shapes_length, count, count_append, names_append, names_more, once_front, insns_more}
use Rattle.bpf_asm.proofs.FirstFaults.{never_both, linked_denotes}

-- a first fault, with what it rules out
pub refused : (text : List ℕ) (fault : AsmFault) → FirstFault text fault → FirstFault text fault × DenotesNone text
refused text fault f = (f, λ program d. never_both text program fault d f)

-- a name that stands twice among the labels so far stands twice among all of the line
pub twice_so_far : (shapes : List Shape) (names : List (List ℕ)) (name : List ℕ) (rest all : List (List ℕ)) (line : ℕ) (fault : AsmFault)
    → all ≡ names ++ name ∷ rest
    → (fault ≡ Memory) ⊎ ((fault ≡ LabelTwice line) × (Once (names_of shapes ++ (names ++ name ∷ [])) → ⊥))
    → (fault ≡ Memory) ⊎ ((fault ≡ LabelTwice line) × (Once (names_of shapes ++ all) → ⊥))
twice_so_far shapes names name rest all line fault whole (inl memory) = inl memory
twice_so_far shapes names name rest all line fault whole (inr twice) =
    let P : List (List ℕ) → Type 0 = λ ns. Once ns in
    let e : names_of shapes ++ all ≡ (names_of shapes ++ (names ++ name ∷ [])) ++ rest =
    ap (λ ns. names_of shapes ++ ns) (whole ∙ sym (append_assoc names (name ∷ []) rest)) ∙ sym (append_assoc (names_of shapes) (names ++ name ∷ []) rest) in
    inr (twice.0, λ once. twice.1 (once_front (names_of shapes ++ (names ++ name ∷ [])) rest (subst P e once)))

pub some_within : (names : List (List ℕ)) (name : List ℕ) (rest all : List (List ℕ)) → all ≡ names ++ name ∷ rest → all ≢ []
some_within [] name rest all whole = λ e. let both : name ∷ rest ≡ [] = sym whole ∙ e in cc
some_within (n ∷ names) name rest all whole = λ e. let both : n ∷ (names ++ name ∷ rest) ≡ [] = sym whole ∙ e in cc

-- the fault of a line's labels
pub labels_break : (shapes : List Shape) (line : List ℕ) (number : ℕ) (reading : Reading) (fault : AsmFault) → reading_of line ≡ Ok reading
    → (fault ≡ Memory) ⊎ ((fault ≡ LabelTwice number) × (Once (names_of shapes ++ reading.labels) → ⊥))
    → (fault ≡ Memory) ⊎ LineBreaks shapes line number fault
labels_break shapes line number reading fault read (inl memory) = inl memory
labels_break shapes line number reading fault read (inr twice) =
    let P : AsmFault → Type 0 = λ f. LineBreaks shapes line number f in
    inr (subst P (sym twice.0) (InLabels reading read twice.1))

once_in_draft : (shapes : List Shape) (names : List (List ℕ)) (draft : Draft) → IsDraftOf (shapes ++ label_shape names ∷ []) draft
    → Once (names_of shapes ++ names)
once_in_draft shapes names draft h = let P : List (List ℕ) → Type 0 = λ ns. Once ns in subst P (names_more shapes (label_shape names)) h.once

-- the fault of a line's mnemonic or operand
pub insn_breaks : (shapes : List Shape) (line : List ℕ) (number : ℕ) (names : List (List ℕ)) (insn : Result (Option templates.Template) LineFault)
    (fault : LineFault) (draft : Draft)
    → reading_of line ≡ Ok (record { labels = names; insn = insn_data insn }) → insn ≡ Err fault → IsDraftOf (shapes ++ label_shape names ∷ []) draft
    → LineBreaks shapes line number (in_line number fault)
insn_breaks shapes line number names insn fault draft read is h =
    InInsn (record { labels = names; insn = insn_data insn }) fault read (once_in_draft shapes names draft h) (ap insn_data is)

read_as : (line : List ℕ) (names : List (List ℕ)) (insn : Result (Option templates.Template) LineFault) (outside_byte : Option Template)
    → reading_of line ≡ Ok (record { labels = names; insn = insn_data insn }) → insn_data insn ≡ Ok outside_byte
    → HasShape line (record { labels = names; insn = outside_byte })
read_as line names insn outside_byte read is =
    shape_is line (record { labels = names; insn = outside_byte }) (read ∙ ap (λ i. Ok (record { labels = names; insn = i })) is)

-- a line with an instruction, or with none
pub read_none : (line : List ℕ) (names : List (List ℕ)) (insn : Result (Option templates.Template) LineFault)
    → reading_of line ≡ Ok (record { labels = names; insn = insn_data insn }) → insn ≡ Ok None → HasShape line (label_shape names)
read_none line names insn read is = read_as line names insn None read (ap insn_data is)

pub read_some : (line : List ℕ) (names : List (List ℕ)) (insn : Result (Option templates.Template) LineFault) (template : templates.Template)
    → reading_of line ≡ Ok (record { labels = names; insn = insn_data insn }) → insn ≡ Ok (Some template)
    → HasShape line (record { labels = names; insn = Some (template_data template) })
read_some line names insn template read is = read_as line names insn (Some (template_data template)) read (ap insn_data is)

-- What a line with an instruction is reported as.
pub insn_added : (shapes : List Shape) (line : List ℕ) (number : ℕ) (names : List (List ℕ)) (insn : Result (Option templates.Template) LineFault)
    (template : templates.Template) (draft new : Draft) (result : Result (Unit {0}) AsmFault)
    → reading_of line ≡ Ok (record { labels = names; insn = insn_data insn }) → insn ≡ Ok (Some template) → IsDraftOf (shapes ++ label_shape names ∷ []) draft
    → MatchResult result (λ _. IsDraftOf (shapes ++ record { labels = names; insn = Some (template_data template) } ∷ []) new)
    (λ fault. (fault ≡ Memory) ⊎ ((fault ≡ TooLong) × (count shapes ≡ MAX_INSNS)))
    → MatchResult result (λ _. (shape : Shape) × HasShape line shape × IsDraftOf (shapes ++ shape ∷ []) new)
    (λ fault. (fault ≡ Memory) ⊎ LineBreaks shapes line number fault)
insn_added shapes line number names insn template draft new (Ok x) read is h added =
    (record { labels = names; insn = Some (template_data template) }, read_some line names insn template read is, added)
insn_added shapes line number names insn template draft new (Err fault) read is h (inl memory) = inl memory
insn_added shapes line number names insn template draft new (Err fault) read is h (inr full) =
    let P : AsmFault → Type 0 = λ f. LineBreaks shapes line number f in
    inr (subst P (sym full.0) (InLength (record { labels = names; insn = insn_data insn }) (template_data template) read (once_in_draft shapes names draft h)
    (ap insn_data is) full.1))

pub well_so_far : (before : List (List ℕ)) (shapes : List Shape) (draft : Draft) → HaveShapes before shapes → IsDraftOf shapes draft → AreWell before shapes
well_so_far before shapes draft shaped h = record { shaped = shaped; once = h.once; size = h.size }

pub next_number : (before : List (List ℕ)) (shapes : List Shape) (number : ℕ) → HaveShapes before shapes → length before + 1 ≡ number
    → length shapes + 1 ≡ number
next_number before shapes number shaped at = omega (arith, shapes_length before shapes shaped, at)

-- a fault of the next line is the first fault
pub line_breaks : (lines before : List (List ℕ)) (line : List ℕ) (after : List (List ℕ)) (shapes : List Shape) (draft : Draft) (number : ℕ) (fault : AsmFault)
    → lines ≡ before ++ line ∷ after → length before + 1 ≡ number
    → HaveShapes before shapes → IsDraftOf shapes draft → (fault ≡ Memory) ⊎ LineBreaks shapes line number fault → (fault ≡ Memory) ⊎ FaultInLine lines fault
line_breaks lines before line after shapes draft number fault whole at shaped h (inl memory) = inl memory
line_breaks lines before line after shapes draft number fault whole at shaped h (inr breaks) =
    let P : ℕ → Type 0 = λ n. LineBreaks shapes line n fault in
    inr (record {
      here = record { before = before; line = line; after = after; whole = whole; shapes = shapes; well = well_so_far before shapes draft shaped h };
      breaks = subst P (sym at) breaks;
    })

-- What is kept of an instruction among lines without a fault.
record Among (lines : List (List ℕ)) (before : List Shape) (shape : Shape) : Type 0 where
  front : List (List ℕ)
  line : List ℕ
  back : List (List ℕ)
  whole : lines ≡ front ++ line ∷ back
  shaped : HaveShapes front before
  has : HasShape line shape

among : (lines : List (List ℕ)) (before : List Shape) (shape : Shape) (after : List Shape) → HaveShapes lines (before ++ shape ∷ after)
    → Among lines before shape
among [] [] shape after h = absurd h
among [] (s ∷ before) shape after h = absurd h
among (line ∷ lines) [] shape after h = record { front = []; line = line; back = lines; whole = refl; shaped = tt; has = h.0 }
among (line ∷ lines) (s ∷ before) shape after h =
    let more = among lines before shape after h.1 in
    record {
      front = line ∷ more.front;
      line = more.line;
      back = more.back;
      whole = ap (λ ls. line ∷ ls) more.whole;
      shaped = (h.0, more.shaped);
      has = more.has;
    }

-- An instruction of lines by its index, with the lines before it.
pub record Stands (number : ℕ) (shapes : List Shape) (front : List (Template × ℕ)) (template : Template) (line : ℕ) : Type 0 where
  pub before : List Shape
  pub here : Shape
  pub after : List Shape
  pub whole : shapes ≡ before ++ here ∷ after
  pub written : here.insn ≡ Some template
  pub earlier : templates_of before ≡ map (λ n. n.0) front
  pub numbered : line ≡ length before + number

stands_later : (number : ℕ) (s : Shape) (shapes : List Shape) (front : List (Template × ℕ)) (template : Template) (line : ℕ) → s.insn ≡ None
    → Stands (number + 1) shapes front template line → Stands number (s ∷ shapes) front template line
stands_later number s shapes front template line none h = record {
  before = s ∷ h.before;
  here = h.here;
  after = h.after;
  whole = ap (λ ss. s ∷ ss) h.whole;
  written = h.written;
  earlier = ap (λ i. cons_option i (templates_of h.before)) none ∙ h.earlier;
  numbered = omega (arith, h.numbered);
}

stands_after : (number : ℕ) (s : Shape) (shapes : List Shape) (t : Template) (n : ℕ) (front : List (Template × ℕ)) (template : Template) (line : ℕ)
    → s.insn ≡ Some t → Stands (number + 1) shapes front template line → Stands number (s ∷ shapes) ((t, n) ∷ front) template line
stands_after number s shapes t n front template line some h = record {
  before = s ∷ h.before;
  here = h.here;
  after = h.after;
  whole = ap (λ ss. s ∷ ss) h.whole;
  written = h.written;
  earlier = ap (λ i. cons_option i (templates_of h.before)) some ∙ ap (λ ts. t ∷ ts) h.earlier;
  numbered = omega (arith, h.numbered);
}

stands_here : (number : ℕ) (s : Shape) (shapes : List Shape) (t template : Template) (line : ℕ) → s.insn ≡ Some t → t ≡ template → number ≡ line
    → Stands number (s ∷ shapes) [] template line
stands_here number s shapes t template line some same at = record {
  before = [];
  here = s;
  after = shapes;
  whole = refl;
  written = some ∙ ap Some same;
  earlier = refl;
  numbered = omega (arith, at);
}

stands_cases : (number : ℕ) (s : Shape) (shapes : List Shape) (insn : Option Template) (front : List (Template × ℕ)) (template : Template) (line : ℕ)
    (back : List (Template × ℕ)) → s.insn ≡ insn
    → cons_numbered number insn (numbered_templates (number + 1) shapes) ≡ front ++ (template, line) ∷ back
    → ((rest : List (Template × ℕ)) → numbered_templates (number + 1) shapes ≡ rest ++ (template, line) ∷ back
    → Stands (number + 1) shapes rest template line)
    → Stands number (s ∷ shapes) front template line
stands_cases number s shapes None front template line back is e more = stands_later number s shapes front template line is (more front e)
stands_cases number s shapes (Some t) [] template line back is e more =
    let first : (t, number) ≡ (template, line) = cc in
    stands_here number s shapes t template line is (ap (λ (p : Template × ℕ). p.0) first) (ap (λ (p : Template × ℕ). p.1) first)
stands_cases number s shapes (Some t) (x ∷ front) template line back is e more =
    let first : (t, number) ≡ x = cc in
    let rest : numbered_templates (number + 1) shapes ≡ front ++ (template, line) ∷ back = cc in
    let P : Template × ℕ → Type 0 = λ p. Stands number (s ∷ shapes) (p ∷ front) template line in
    subst P first (stands_after number s shapes t number front template line is (more front rest))

stands : (number : ℕ) (shapes : List Shape) (front : List (Template × ℕ)) (template : Template) (line : ℕ) (back : List (Template × ℕ))
    → numbered_templates number shapes ≡ front ++ (template, line) ∷ back → Stands number shapes front template line
stands number [] [] template line back e = cc
stands number [] (x ∷ front) template line back e = cc
stands number (s ∷ shapes) front template line back e =
    stands_cases number s shapes s.insn front template line back refl e (λ rest k. stands (number + 1) shapes rest template line back k)

firsts_in : (number : ℕ) (insn : Option Template) (numbered : List (Template × ℕ))
    → map (λ (n : Template × ℕ). n.0) (cons_numbered number insn numbered) ≡ cons_option insn (map (λ (n : Template × ℕ). n.0) numbered)
firsts_in number None numbered = refl
firsts_in number (Some t) numbered = refl

firsts : (number : ℕ) (shapes : List Shape) → map (λ (n : Template × ℕ). n.0) (numbered_templates number shapes) ≡ templates_of shapes
firsts number [] = refl
firsts number (s ∷ shapes) = firsts_in number s.insn (numbered_templates (number + 1) shapes) ∙ ap (cons_option s.insn) (firsts (number + 1) shapes)

firsts_data : (insns : List Unlinked) → map (λ (n : Template × ℕ). n.0) (map unlinked_data insns) ≡ templates_in insns
firsts_data [] = refl
firsts_data (insn ∷ insns) = ap (λ ts. template_data insn.template ∷ ts) (firsts_data insns)

-- the templates of a draft are those of its lines
pub draft_templates : (shapes : List Shape) (draft : Draft) → IsDraftOf shapes draft → templates_in draft.insns.items ≡ templates_of shapes
draft_templates shapes draft h = sym (firsts_data draft.insns.items) ∙ (ap (map (λ (n : Template × ℕ). n.0)) h.insns ∙ firsts 1 shapes)

-- an instruction of a draft with a fault is one of the lines
pub misled : (shapes : List Shape) (draft : Draft) (fault : AsmFault) → IsDraftOf shapes draft → BreaksAmong (labels_from 0 shapes) draft.insns.items fault
    → Misled shapes fault
misled shapes draft fault h b =
    let e : numbered_templates 1 shapes ≡ map unlinked_data b.before ++ unlinked_data b.here ∷ map unlinked_data b.after =
    sym h.insns ∙ (ap (map unlinked_data) b.whole ∙ map-append unlinked_data b.before (b.here ∷ b.after)) in
    let s = stands 1 shapes (map unlinked_data b.before) (template_data b.here.template) b.here.line (map unlinked_data b.after) e in
    let earlier : templates_of s.before ≡ templates_in b.before = s.earlier ∙ firsts_data b.before in
    let L : List Template → Type 0 = λ ts. AreInsns (labels_from 0 shapes) 0 ts b.linked in
    let long : length b.before ≡ count s.before = sym (ap length earlier ∙ length-map b.before (λ (i : Unlinked). template_data i.template)) in
    let A : ℕ → Type 0 = λ p. JumpBreaks (labels_from 0 shapes) p b.here.line (jump_data b.here.template.jump) fault in
    let N : ℕ → Type 0 = λ n. JumpBreaks (labels_from 0 shapes) (count s.before) n (jump_data b.here.template.jump) fault in
    record {
      before = s.before;
      jump = s.here;
      after = s.after;
      whole = s.whole;
      template = template_data b.here.template;
      written = s.written;
      insns = b.linked;
      lead = subst L (sym earlier) b.lead;
      breaks = subst N s.numbered (subst A long b.breaks);
    }

-- What is reported of a text whose lines have no fault.
pub linked : (text : List ℕ) (shapes : List Shape) (draft : Draft) (program : List Insn) → HaveShapes (lines_of (without_comments text)) shapes
    → IsDraftOf shapes draft → AreFollowed shapes
    → AreInsns (labels_from 0 shapes) 0 (templates_in draft.insns.items) program → Denotes text program
linked text shapes draft program shaped h followed insns =
    let P : List Template → Type 0 = λ ts. AreInsns (labels_from 0 shapes) 0 ts program in
    (shapes, shaped, linked_denotes shapes program h.once h.size followed (subst P (draft_templates shapes draft h) insns))

pub unlinked : (text : List ℕ) (shapes : List Shape) (draft : Draft) (fault : AsmFault) → HaveShapes (lines_of (without_comments text)) shapes
    → IsDraftOf shapes draft → AreFollowed shapes
    → (fault ≡ Memory) ⊎ BreaksAmong (labels_from 0 shapes) draft.insns.items fault → (fault ≡ Memory) ⊎ (FirstFault text fault × DenotesNone text)
unlinked text shapes draft fault shaped h followed (inl memory) = inl memory
unlinked text shapes draft fault shaped h followed (inr b) =
    inr (refused text fault (inr (inr (record {
      shapes = shapes;
      well = well_so_far (lines_of (without_comments text)) shapes draft shaped h;
      followed = followed;
      misled = misled shapes draft fault h b;
    }))))

pub unfollowed : (text : List ℕ) (shapes : List Shape) (draft : Draft) (number : ℕ) → HaveShapes (lines_of (without_comments text)) shapes
    → IsDraftOf shapes draft → draft.unfollowed ≡ Some number
    → FirstFault text (Syntax number) × DenotesNone text
unfollowed text shapes draft number shaped h is =
    let P : Option ℕ → Type 0 = λ o. EndsLabels shapes o in
    refused text (Syntax number) (inr (inl (record {
      shapes = shapes;
      well = well_so_far (lines_of (without_comments text)) shapes draft shaped h;
      number = number;
      labels = subst P is h.unfollowed;
      reported = refl;
    })))

pub followed : (shapes : List Shape) (draft : Draft) → IsDraftOf shapes draft → draft.unfollowed ≡ None → AreFollowed shapes
followed shapes draft h is = let P : Option ℕ → Type 0 = λ o. EndsLabels shapes o in subst P is h.unfollowed

pub line_refused : (text : List ℕ) (fault : AsmFault) → (fault ≡ Memory) ⊎ FaultInLine (lines_of (without_comments text)) fault
    → (fault ≡ Memory) ⊎ (FirstFault text fault × DenotesNone text)
line_refused text fault (inl memory) = inl memory
line_refused text fault (inr f) = inr (refused text fault (inl f))

-- one of the lines has an instruction
record HasInsn (shapes : List Shape) : Type 0 where
  before : List Shape
  here : Shape
  after : List Shape
  template : Template
  whole : shapes ≡ before ++ here ∷ after
  written : here.insn ≡ Some template

insn_later : (s : Shape) (shapes : List Shape) → HasInsn shapes → HasInsn (s ∷ shapes)
insn_later s shapes h = record {
  before = s ∷ h.before;
  here = h.here;
  after = h.after;
  template = h.template;
  whole = ap (λ ss. s ∷ ss) h.whole;
  written = h.written;
}

insn_cases : (s : Shape) (shapes : List Shape) (insn : Option Template) → s.insn ≡ insn → 0 < length (cons_option insn (templates_of shapes))
    → (0 < count shapes → HasInsn shapes) → HasInsn (s ∷ shapes)
insn_cases s shapes None is some more = insn_later s shapes (more some)
insn_cases s shapes (Some t) is some more = record { before = []; here = s; after = shapes; template = t; whole = refl; written = is }

has_insn : (shapes : List Shape) → 0 < count shapes → HasInsn shapes
has_insn [] some = absurd (omega (arith, some))
has_insn (s ∷ shapes) some = insn_cases s shapes s.insn refl some (has_insn shapes)

-- lines without a fault keep an instruction where there is one
pub keeps_insn : (lines : List (List ℕ)) (shapes : List Shape) (draft : Draft) → HaveShapes lines shapes → IsDraftOf shapes draft → 0 < vec_len draft.insns
    → KeepsSomething lines
keeps_insn lines shapes draft shaped h some =
    let i = has_insn shapes (omega (arith, some, h.counted)) in
    let H : List Shape → Type 0 = λ ss. HaveShapes lines ss in
    let a = among lines i.before i.here i.after (subst H i.whole shaped) in
    let O : List (List ℕ) → Type 0 = λ ns. Once ns in
    let size : count shapes ≡ count i.before + count (i.here ∷ i.after) = ap count i.whole ∙ count_append i.before (i.here ∷ i.after) in
    record {
      here = record {
        before = a.front;
        line = a.line;
        after = a.back;
        whole = a.whole;
        shapes = i.before;
        well = record {
          shaped = a.shaped;
          once = once_front (names_of i.before) (names_of (i.here ∷ i.after))
              (subst O (ap names_of i.whole ∙ names_append i.before (i.here ∷ i.after)) h.once);
          size = omega (arith, size, h.size);
        };
      };
      content = (record { labels = i.here.labels; insn = Ok i.here.insn }, shape_read a.line i.here a.has, inr (i.template, ap Ok i.written));
    }

more_templates : (items : List Unlinked) (i : ℕ) (d : Unlinked) → i < length items
    → templates_in (take (i + 1) items) ≡ templates_in (take i items) ++ template_data (get_or items i d).template ∷ []
more_templates items i d below =
    let more : take (i + 1) items ≡ take i items ++ get_or items i d ∷ [] = ap (λ n. take n items) (add-one i) ∙ take-suc items i d below in
    ap templates_in more ∙ map-append (λ (u : Unlinked). template_data u.template) (take i items) (get_or items i d ∷ [])

taken_length : (items : List Unlinked) (i : ℕ) → i < length items → length (templates_in (take i items)) ≡ i
taken_length items i below =
    let within : i ≤ length items = omega (arith, below) in
    length-map (take i items) (λ (u : Unlinked). template_data u.template) ∙ length-take-le i items within

-- one more instruction with its offsets
pub link_more : (labels : List Label) (items other : List Unlinked) (i at : ℕ) (d : Unlinked) (program : List Insn) (insn : Insn) → other ≡ items
    → i < length items → at ≡ i → AreInsns labels 0 (templates_in (take i items)) program
    → IsInsn labels at (template_data (get_or other i d).template) insn → AreInsns labels 0 (templates_in (take (i + 1) items)) (program ++ insn ∷ [])
link_more labels items other i at d program insn same below here h one =
    let t = λ (us : List Unlinked). template_data (get_or us i d).template in
    let O : List Unlinked → Type 0 = λ us. IsInsn labels at (t us) insn in
    let A : ℕ → Type 0 = λ p. IsInsn labels p (t items) insn in
    let index : at ≡ 0 + length (templates_in (take i items)) = omega (arith, here, taken_length items i below) in
    let P : List Template → Type 0 = λ ts. AreInsns labels 0 ts (program ++ insn ∷ []) in
    subst P (sym (more_templates items i d below))
    (insns_more labels 0 (templates_in (take i items)) program (t items) insn h (subst A index (subst O same one)))

-- the first instruction that names a label with a fault
pub link_breaks : (labels : List Label) (items other : List Unlinked) (i at : ℕ) (d : Unlinked) (program : List Insn) (fault : AsmFault) → other ≡ items
    → i < length items → at ≡ i → AreInsns labels 0 (templates_in (take i items)) program
    → JumpBreaks labels at (get_or other i d).line (jump_data (get_or other i d).template.jump) fault → BreaksAmong labels items fault
link_breaks labels items other i at d program fault same below here h breaks =
    let O : List Unlinked → Type 0 = λ us. JumpBreaks labels at (get_or us i d).line (jump_data (get_or us i d).template.jump) fault in
    let A : ℕ → Type 0 = λ p. JumpBreaks labels p (get_or items i d).line (jump_data (get_or items i d).template.jump) fault in
    let within : i ≤ length items = omega (arith, below) in
    let index : at ≡ length (take i items) = here ∙ sym (length-take-le i items within) in
    record {
      before = take i items;
      here = get_or items i d;
      after = drop (suc i) items;
      whole = sym (take-append-drop i items) ∙ ap (λ us. take i items ++ us) (drop-cons items i d below);
      linked = program;
      lead = h;
      breaks = subst A index (subst O same breaks);
    }

-- What the second pass gives by the labels of a draft.
abbrev LinkResult : Result (Vec Insn Global) AsmFault → List Shape → Draft → Type 0
LinkResult result shapes draft =
    MatchResult result (λ program. AreInsns (labels_from 0 shapes) 0 (templates_in draft.insns.items) program.items)
    (λ fault. (fault ≡ Memory) ⊎ BreaksAmong (labels_from 0 shapes) draft.insns.items fault)

pub reported_program : (result : Result (Vec Insn Global) AsmFault) (text : List ℕ) (shapes : List Shape) (draft : Draft)
    → HaveShapes (lines_of (without_comments text)) shapes → IsDraftOf shapes draft → AreFollowed shapes → LinkResult result shapes draft
    → IfOk result (λ program. Denotes text program.items)
reported_program (Ok program) text shapes draft shaped h f reported = linked text shapes draft program.items shaped h f reported
reported_program (Err fault) text shapes draft shaped h f reported = tt

pub reported_fault : (result : Result (Vec Insn Global) AsmFault) (text : List ℕ) (shapes : List Shape) (draft : Draft)
    → HaveShapes (lines_of (without_comments text)) shapes → IsDraftOf shapes draft → AreFollowed shapes → LinkResult result shapes draft
    → IfErr result (λ fault. (fault ≡ Memory) ⊎ (FirstFault text fault × DenotesNone text))
reported_fault (Ok program) text shapes draft shaped h f reported = tt
reported_fault (Err fault) text shapes draft shaped h f reported = unlinked text shapes draft fault shaped h f reported

pub reported_memory : (result : Result (Vec Insn Global) AsmFault) (lines : List (List ℕ)) (shapes : List Shape) (draft : Draft) → HaveShapes lines shapes
    → IsDraftOf shapes draft → IfErr result (λ fault. fault ≡ Memory → 0 < vec_len draft.insns)
    → IfErr result (λ fault. fault ≡ Memory → KeepsSomething lines)
reported_memory (Ok program) lines shapes draft shaped h reported = tt
reported_memory (Err fault) lines shapes draft shaped h reported = λ e. keeps_insn lines shapes draft shaped h (reported e)
