-- A text denotes a program or has a first fault, never both, and one first fault alone.
-- idea: for never both, the shapes of a line are determined, so the faulty line, label or jump is met in the program's
-- own list, where it has no fault; for one alone, two faults at different lines contradict that the earlier line is well;
-- for either, the lines are scanned, and then the jumps, and each step goes on or gives the fault
use Rattle.std.proofs.Common.{ℕ, ◌+◌, ◌≡◌, ◌≢◌, ◌<◌, ◌≤◌, ◌⊎◌, inl, inr, List, [], ◌∷◌, ◌++◌, map, length, Option, None, Some}
use Rattle.std.proofs.Common.{Result, Ok, Err, refl, sym, ◌∙◌, ap, arith, subst, All, Contains, append_assoc, append-nil}
use Rattle.std.specs.List.{cons_option}
use Rattle.std.proofs.lemmas.List.Elements.{All-head, All-tail, All-contains, Contains-append_left, Contains-append_right}
use Rattle.bpf_insn.specs.declared.insn.Insn.{Insn}
use Rattle.bpf_insn.specs.declared.insn.TheConstants.{MAX_INSNS}
use Rattle.bpf_asm.specs.declared.fault.AsmFault.{AsmFault}
use Rattle.bpf_asm.specs.declared.fault.AsmFault.TheVariants.{Syntax}
use Rattle.bpf_asm.specs.declared.fault.LineFault.{LineFault}
use Rattle.bpf_asm.specs.Blanked.{without_comments, lines_of}
use Rattle.bpf_asm.specs.Tokens.{line_tokens}
use Rattle.bpf_asm.specs.Templates.{Template}
use Rattle.bpf_asm.specs.Lines.{Reading, reading_of}
use Rattle.bpf_asm.specs.Grammar.{Shape}
use Rattle.bpf_asm.specs.Denotes.{HaveShapes, Label, labels_from, templates_of, IsInsn, AreInsns, DenotesBy, Denotes}
use Rattle.bpf_asm.specs.FirstFault.{in_line, names_of, Once, AreWell, LabelsOnce, LineBreaks, FaultInLine, AreFollowed, IsEmpty}
use Rattle.bpf_asm.specs.FirstFault.{Unfollowed, FaultAtEnd, JumpBreaks, Misled, FaultInJump, FirstFaultOf, FirstFault}
use Rattle.bpf_asm.specs.FirstFault.LineBreaks.{InTokens, InLabels, InInsn, InLength}
use Rattle.bpf_asm.specs.Drafts.{EndsLabels}
use Rattle.bpf_asm.proofs.Programs.{one_shapes}
use Rattle.bpf_asm.proofs.LineReadings.{fault_read}
use Rattle.bpf_asm.proofs.ShapeLists.{Same, Later, two_places, cut_shapes, one_more_shape, label_at, count}
use Rattle.bpf_asm.proofs.ShapeLists.{count_append, labels_append, templates_append, names_more, once_names}
use Rattle.bpf_asm.proofs.ShapeLists.{LabelledOnce, labels_once, names_once, insns_length, insn_within, insns_more}
use Rattle.bpf_asm.proofs.JumpFaults.{insn_well, one_jump_fault, insn_step}
use Rattle.bpf_asm.proofs.Drafting.{NextLine, NextOrBreaks, next_step, shape_well, ends_insn, ends_labels, ends_empty}

size_front : (ss : List Shape) (s : Shape) (ts : List Shape) (bound : ℕ) → count (ss ++ s ∷ ts) ≤ bound → count (ss ++ s ∷ []) ≤ bound
size_front ss s ts bound h =
    let whole : count (ss ++ s ∷ ts) ≡ count (ss ++ s ∷ []) + count ts = ap count (sym (append_assoc ss (s ∷ []) ts)) ∙ count_append (ss ++ s ∷ []) ts in
    omega (arith, h, whole)

broken_line : (line : List ℕ) (after : List (List ℕ)) (shapes back : List Shape) (number : ℕ) (fault : AsmFault) → HaveShapes (line ∷ after) back
    → Once (names_of (shapes ++ back)) → count (shapes ++ back) ≤ MAX_INSNS
    → LineBreaks shapes line number fault → ⊥
broken_line line after shapes [] number fault h once size breaks = absurd h
broken_line line after shapes (s ∷ back) number fault h once size breaks =
    shape_well shapes line number s fault h.0 (once_names shapes s back once) (size_front shapes s back MAX_INSNS size) breaks

-- lines without a fault have no line with one
well_line : (lines : List (List ℕ)) (shapes : List Shape) (fault : AsmFault) → AreWell lines shapes → FaultInLine lines fault → ⊥
well_line lines shapes fault well f =
    let H : List (List ℕ) → Type 0 = λ ls. HaveShapes ls shapes in
    let cut = cut_shapes f.here.before (f.here.line ∷ f.here.after) shapes (subst H f.here.whole well.shaped) in
    let front : cut.front ≡ f.here.shapes = one_shapes f.here.before cut.front f.here.shapes cut.shaped_front f.here.well.shaped in
    let whole : shapes ≡ f.here.shapes ++ cut.back = cut.whole ∙ ap (λ ss. ss ++ cut.back) front in
    let O : List Shape → Type 0 = λ ss. Once (names_of ss) in
    let S : List Shape → Type 0 = λ ss. count ss ≤ MAX_INSNS in
    broken_line f.here.line f.here.after f.here.shapes cut.back (length f.here.before + 1) fault cut.shaped_back (subst O whole well.once)
    (subst S whole well.size) f.breaks

empty_count : (shapes : List Shape) → All IsEmpty shapes → count shapes ≡ 0
empty_count [] h = refl
empty_count (s ∷ shapes) h =
    ap (λ i. length (cons_option i (templates_of shapes))) (All-head IsEmpty s shapes h).1 ∙ empty_count shapes (All-tail IsEmpty s shapes h)

alone_count : (s : Shape) (shapes : List Shape) → s.insn ≡ None → All IsEmpty shapes → count (s ∷ shapes) ≡ 0
alone_count s shapes alone h = ap (λ i. length (cons_option i (templates_of shapes))) alone ∙ empty_count shapes h

some_name : (names : List (List ℕ)) → names ≢ [] → (name : List ℕ) × ((rest : List (List ℕ)) × (names ≡ name ∷ rest))
some_name [] h = absurd (h refl)
some_name (name ∷ names) h = (name, (names, refl))

first_of_map : (index : ℕ) (names : List (List ℕ)) (name : List ℕ) (rest : List (List ℕ)) → names ≡ name ∷ rest
    → Contains (map (label_at index) names) (label_at index name)
first_of_map index names name rest e =
    let P : List (List ℕ) → Type 0 = λ ns. Contains (map (label_at index) ns) (label_at index name) in subst P (sym e) (0, omega arith, refl)

-- the last labels name no instruction where none follows them
unfollowed_none : (shapes : List Shape) (number : ℕ) → Unfollowed shapes number → AreFollowed shapes → ⊥
unfollowed_none shapes number u followed =
    let some = some_name u.last.labels u.labelled in
    let here : ℕ = 0 + count u.before in
    let labels : labels_from 0 shapes ≡ labels_from 0 u.before ++ labels_from here (u.last ∷ u.after) =
    ap (labels_from 0) u.whole ∙ labels_append 0 u.before (u.last ∷ u.after) in
    let P : List Label → Type 0 = λ ls. Contains ls (label_at here some.0) in
    let there : Contains (labels_from here (u.last ∷ u.after)) (label_at here some.0) =
    Contains-append_left (map (label_at here) u.last.labels) _ (label_at here some.0) (first_of_map here u.last.labels some.0 some.1.0 some.1.1) in
    let within : Contains (labels_from 0 shapes) (label_at here some.0) =
    subst P (sym labels) (Contains-append_right (labels_from 0 u.before) (labels_from here (u.last ∷ u.after)) (label_at here some.0) there) in
    let below : here < count shapes = All-contains (λ (l : Label). l.at < count shapes) (labels_from 0 shapes) (label_at here some.0) followed within in
    let whole : count shapes ≡ count u.before + count (u.last ∷ u.after) = ap count u.whole ∙ count_append u.before (u.last ∷ u.after) in
    absurd (omega (arith, below, whole, alone_count u.last u.after u.alone u.empty))

templates_at : (before : List Shape) (s : Shape) (after : List Shape) (template : Template) → s.insn ≡ Some template
    → templates_of (before ++ s ∷ after) ≡ templates_of before ++ template ∷ templates_of after
templates_at before s after template e = templates_append before (s ∷ after) ∙ ap (λ i. templates_of before ++ cons_option i (templates_of after)) e

-- no instruction of the table is misled
led : (shapes before : List Shape) (s : Shape) (after : List Shape) (template : Template) (insns : List Insn) (number : ℕ) (fault : AsmFault)
    → LabelledOnce (labels_from 0 shapes) → s.insn ≡ Some template
    → AreInsns (labels_from 0 shapes) 0 (templates_of (before ++ s ∷ after)) insns
    → JumpBreaks (labels_from 0 shapes) (count before) number template.jump fault → ⊥
led shapes before s after template insns number fault once e h breaks =
    let P : List Template → Type 0 = λ ts. AreInsns (labels_from 0 shapes) 0 ts insns in
    let one =
    insn_within (labels_from 0 shapes) 0 (templates_of before) template (templates_of after) insns (subst P (templates_at before s after template e) h) in
    let Q : ℕ → Type 0 = λ p. IsInsn (labels_from 0 shapes) p template one.0 in
    let at : 0 + count before ≡ count before = omega arith in
    insn_well (labels_from 0 shapes) (count before) number template one.0 fault once (subst Q at one.1) breaks

led_all : (shapes : List Shape) (insns : List Insn) (fault : AsmFault) → Once (names_of shapes)
    → AreInsns (labels_from 0 shapes) 0 (templates_of shapes) insns → Misled shapes fault → ⊥
led_all shapes insns fault once h m =
    let P : List Shape → Type 0 = λ ss. AreInsns (labels_from 0 shapes) 0 (templates_of ss) insns in
    led shapes m.before m.jump m.after m.template insns (length m.before + 1) fault (labels_once shapes once) m.written (subst P m.whole h) m.breaks

-- What a text without a fault is.
denoted_well : (lines : List (List ℕ)) (shapes : List Shape) (program : List Insn) → HaveShapes lines shapes → DenotesBy shapes program
    → AreWell lines shapes × AreFollowed shapes
denoted_well lines shapes program shaped d =
    let long : count shapes ≡ length program = insns_length (labels_from 0 shapes) 0 (templates_of shapes) program d.insns in
    let P : ℕ → Type 0 = λ n. All (λ (l : Label). l.at < n) (labels_from 0 shapes) in
    (record { shaped = shaped; once = names_once shapes d.once; size = omega (arith, long, d.size) }, subst P (sym long) d.named)

end_not : (lines : List (List ℕ)) (shapes : List Shape) (fault : AsmFault) → HaveShapes lines shapes → AreFollowed shapes → FaultAtEnd lines fault → ⊥
end_not lines shapes fault shaped followed f =
    let same : shapes ≡ f.shapes = one_shapes lines shapes f.shapes shaped f.well.shaped in
    let P : List Shape → Type 0 = λ ss. AreFollowed ss in
    unfollowed_none f.shapes f.number f.labels (subst P same followed)

jump_not : (lines : List (List ℕ)) (shapes : List Shape) (program : List Insn) (fault : AsmFault) → HaveShapes lines shapes → DenotesBy shapes program
    → FaultInJump lines fault → ⊥
jump_not lines shapes program fault shaped d f =
    let same : shapes ≡ f.shapes = one_shapes lines shapes f.shapes shaped f.well.shaped in
    let P : List Shape → Type 0 = λ ss. AreInsns (labels_from 0 ss) 0 (templates_of ss) program in
    led_all f.shapes program fault f.well.once (subst P same d.insns) f.misled

not_both : (lines : List (List ℕ)) (shapes : List Shape) (program : List Insn) (fault : AsmFault) → HaveShapes lines shapes → DenotesBy shapes program
    → FirstFaultOf lines fault → ⊥
not_both lines shapes program fault shaped d (inl f) = well_line lines shapes fault (denoted_well lines shapes program shaped d).0 f
not_both lines shapes program fault shaped d (inr (inl f)) = end_not lines shapes fault shaped (denoted_well lines shapes program shaped d).1 f
not_both lines shapes program fault shaped d (inr (inr f)) = jump_not lines shapes program fault shaped d f

-- a text that denotes a program has no first fault
pub never_both : (text : List ℕ) (program : List Insn) (fault : AsmFault) → Denotes text program → FirstFault text fault → ⊥
never_both text program fault h f = not_both (lines_of (without_comments text)) h.0 program fault h.1 h.2 f

same_reading : (line : List ℕ) (r s : Reading) → reading_of line ≡ Ok r → reading_of line ≡ Ok s → r ≡ s
same_reading line r s e e' = let both : Ok r ≡ Ok s = sym e ∙ e' in cc

once_so : (shapes : List Shape) (line : List ℕ) (r s : Reading) → reading_of line ≡ Ok r → reading_of line ≡ Ok s → LabelsOnce shapes r → LabelsOnce shapes s
once_so shapes line r s e e' once = let P : Reading → Type 0 = λ x. LabelsOnce shapes x in subst P (same_reading line r s e e') once

insn_so : (line : List ℕ) (r s : Reading) → reading_of line ≡ Ok r → reading_of line ≡ Ok s → r.insn ≡ s.insn
insn_so line r s e e' = ap (λ (x : Reading). x.insn) (same_reading line r s e e')

same_fault : {A : Type 0} (r : Result A LineFault) (x y : LineFault) → r ≡ Err x → r ≡ Err y → x ≡ y
same_fault {A} r x y e e' = cc

-- a line whose tokens have a fault is not read
read_well : (line : List ℕ) (fault : LineFault) (r : Reading) → line_tokens line ≡ Err fault → reading_of line ≡ Ok r → ⊥
read_well line fault r e e' = let broken = fault_read line fault e in cc

-- a line has one first fault
one_line_fault : (shapes : List Shape) (line : List ℕ) (number : ℕ) (f g : AsmFault) → LineBreaks shapes line number f → LineBreaks shapes line number g
    → f ≡ g
one_line_fault shapes line number f g (InTokens x e) (InTokens y e') = ap (in_line number) (same_fault (line_tokens line) x y e e')
one_line_fault shapes line number f g (InTokens x e) (InLabels s e' twice) = absurd (read_well line x s e e')
one_line_fault shapes line number f g (InTokens x e) (InInsn s y e' once i) = absurd (read_well line x s e e')
one_line_fault shapes line number f g (InTokens x e) (InLength s t e' once i full) = absurd (read_well line x s e e')
one_line_fault shapes line number f g (InLabels r e twice) (InTokens y e') = absurd (read_well line y r e' e)
one_line_fault shapes line number f g (InLabels r e twice) (InLabels s e' twice') = refl
one_line_fault shapes line number f g (InLabels r e twice) (InInsn s y e' once i) = absurd (twice (once_so shapes line s r e' e once))
one_line_fault shapes line number f g (InLabels r e twice) (InLength s t e' once i full) = absurd (twice (once_so shapes line s r e' e once))
one_line_fault shapes line number f g (InInsn r x e once i) (InTokens y e') = absurd (read_well line y r e' e)
one_line_fault shapes line number f g (InInsn r x e once i) (InLabels s e' twice) = absurd (twice (once_so shapes line r s e e' once))
one_line_fault shapes line number f g (InInsn r x e once i) (InInsn s y e' once' i') =
    ap (in_line number) (same_fault r.insn x y i (insn_so line r s e e' ∙ i'))
one_line_fault shapes line number f g (InInsn r x e once i) (InLength s t e' once' i' full) = let same = insn_so line r s e e' in cc
one_line_fault shapes line number f g (InLength r t e once i full) (InTokens y e') = absurd (read_well line y r e' e)
one_line_fault shapes line number f g (InLength r t e once i full) (InLabels s e' twice) = absurd (twice (once_so shapes line r s e e' once))
one_line_fault shapes line number f g (InLength r t e once i full) (InInsn s y e' once' i') = let same = insn_so line r s e e' in cc
one_line_fault shapes line number f g (InLength r t e once i full) (InLength s u e' once' i' full') = refl

later_line : (lines : List (List ℕ)) (f g : AsmFault) (h : FaultInLine lines f) (k : FaultInLine lines g)
    → Later h.here.before h.here.line h.here.after k.here.before k.here.line k.here.after → ⊥
later_line lines f g h k later =
    well_line k.here.before k.here.shapes f k.here.well (record {
      here = record { before = h.here.before; line = h.here.line; after = later.between; whole = later.before; shapes = h.here.shapes; well = h.here.well };
      breaks = h.breaks;
    })

same_line : (lines : List (List ℕ)) (f g : AsmFault) (h : FaultInLine lines f) (k : FaultInLine lines g)
    → Same h.here.before h.here.line h.here.after k.here.before k.here.line k.here.after → f ≡ g
same_line lines f g h k same =
    let H : List (List ℕ) → Type 0 = λ ls. HaveShapes ls k.here.shapes in
    let shapes : k.here.shapes ≡ h.here.shapes =
    one_shapes h.here.before k.here.shapes h.here.shapes (subst H (sym same.before) k.here.well.shaped) h.here.well.shaped in
    let S : List Shape → Type 0 = λ ss. LineBreaks ss k.here.line (length k.here.before + 1) g in
    let L : List ℕ → Type 0 = λ l. LineBreaks h.here.shapes l (length k.here.before + 1) g in
    let N : List (List ℕ) → Type 0 = λ ls. LineBreaks h.here.shapes h.here.line (length ls + 1) g in
    one_line_fault h.here.shapes h.here.line (length h.here.before + 1) f g h.breaks
    (subst N (sym same.before) (subst L (sym same.here) (subst S shapes k.breaks)))

line_cases : (lines : List (List ℕ)) (f g : AsmFault) (h : FaultInLine lines f) (k : FaultInLine lines g)
    → Same h.here.before h.here.line h.here.after k.here.before k.here.line k.here.after
    ⊎ (Later h.here.before h.here.line h.here.after k.here.before k.here.line k.here.after
    ⊎ Later k.here.before k.here.line k.here.after h.here.before h.here.line h.here.after) → f ≡ g
line_cases lines f g h k (inl same) = same_line lines f g h k same
line_cases lines f g h k (inr (inl later)) = absurd (later_line lines f g h k later)
line_cases lines f g h k (inr (inr later)) = absurd (later_line lines g f k h later)

one_in_lines : (lines : List (List ℕ)) (f g : AsmFault) → FaultInLine lines f → FaultInLine lines g → f ≡ g
one_in_lines lines f g h k =
    line_cases lines f g h k (two_places h.here.before h.here.line h.here.after k.here.before k.here.line k.here.after (sym h.here.whole ∙ k.here.whole))

later_end : (shapes : List Shape) (m n : ℕ) (h : Unfollowed shapes m) (k : Unfollowed shapes n) → Later h.before h.last h.after k.before k.last k.after → ⊥
later_end shapes m n h k later =
    let P : List Shape → Type 0 = λ ss. Contains ss k.last in
    let there : Contains (later.between ++ k.last ∷ k.after) k.last = Contains-append_right later.between (k.last ∷ k.after) k.last (0, omega arith, refl) in
    k.labelled (All-contains IsEmpty h.after k.last h.empty (subst P (sym later.after) there)).0

end_cases : (shapes : List Shape) (m n : ℕ) (h : Unfollowed shapes m) (k : Unfollowed shapes n)
    → Same h.before h.last h.after k.before k.last k.after ⊎ (Later h.before h.last h.after k.before k.last k.after
    ⊎ Later k.before k.last k.after h.before h.last h.after) → m ≡ n
end_cases shapes m n h k (inl same) = h.numbered ∙ (ap (λ (ss : List Shape). length ss + 1) same.before ∙ sym k.numbered)
end_cases shapes m n h k (inr (inl later)) = absurd (later_end shapes m n h k later)
end_cases shapes m n h k (inr (inr later)) = absurd (later_end shapes n m k h later)

one_end : (shapes : List Shape) (m n : ℕ) → Unfollowed shapes m → Unfollowed shapes n → m ≡ n
one_end shapes m n h k = end_cases shapes m n h k (two_places h.before h.last h.after k.before k.last k.after (sym h.whole ∙ k.whole))

one_at_end : (lines : List (List ℕ)) (f g : AsmFault) → FaultAtEnd lines f → FaultAtEnd lines g → f ≡ g
one_at_end lines f g h k =
    let same : k.shapes ≡ h.shapes = one_shapes lines k.shapes h.shapes k.well.shaped h.well.shaped in
    let P : List Shape → Type 0 = λ ss. Unfollowed ss k.number in
    h.reported ∙ (ap Syntax (one_end h.shapes h.number k.number h.labels (subst P same k.labels)) ∙ sym k.reported)

later_jump : (shapes : List Shape) (f g : AsmFault) → Once (names_of shapes) → (h : Misled shapes f) (k : Misled shapes g)
    → Later h.before h.jump h.after k.before k.jump k.after → ⊥
later_jump shapes f g once h k later =
    let P : List Shape → Type 0 = λ ss. AreInsns (labels_from 0 shapes) 0 (templates_of ss) k.insns in
    led shapes h.before h.jump later.between h.template k.insns (length h.before + 1) f (labels_once shapes once) h.written
    (subst P later.before k.lead) h.breaks

same_jump : (shapes : List Shape) (f g : AsmFault) → Once (names_of shapes) → (h : Misled shapes f) (k : Misled shapes g)
    → Same h.before h.jump h.after k.before k.jump k.after → f ≡ g
same_jump shapes f g once h k same =
    let both : Some k.template ≡ Some h.template = sym k.written ∙ (ap (λ (s : Shape). s.insn) (sym same.here) ∙ h.written) in
    let template : k.template ≡ h.template = cc in
    let T : Template → Type 0 = λ t. JumpBreaks (labels_from 0 shapes) (count k.before) (length k.before + 1) t.jump g in
    let B : List Shape → Type 0 = λ ss. JumpBreaks (labels_from 0 shapes) (count ss) (length ss + 1) h.template.jump g in
    one_jump_fault (labels_from 0 shapes) (count h.before) (length h.before + 1) h.template.jump f g (labels_once shapes once) h.breaks
    (subst B (sym same.before) (subst T template k.breaks))

jump_cases : (shapes : List Shape) (f g : AsmFault) → Once (names_of shapes) → (h : Misled shapes f) (k : Misled shapes g)
    → Same h.before h.jump h.after k.before k.jump k.after ⊎ (Later h.before h.jump h.after k.before k.jump k.after
    ⊎ Later k.before k.jump k.after h.before h.jump h.after) → f ≡ g
jump_cases shapes f g once h k (inl same) = same_jump shapes f g once h k same
jump_cases shapes f g once h k (inr (inl later)) = absurd (later_jump shapes f g once h k later)
jump_cases shapes f g once h k (inr (inr later)) = absurd (later_jump shapes g f once k h later)

one_misled : (shapes : List Shape) (f g : AsmFault) → Once (names_of shapes) → Misled shapes f → Misled shapes g → f ≡ g
one_misled shapes f g once h k = jump_cases shapes f g once h k (two_places h.before h.jump h.after k.before k.jump k.after (sym h.whole ∙ k.whole))

one_in_jumps : (lines : List (List ℕ)) (f g : AsmFault) → FaultInJump lines f → FaultInJump lines g → f ≡ g
one_in_jumps lines f g h k =
    let same : k.shapes ≡ h.shapes = one_shapes lines k.shapes h.shapes k.well.shaped h.well.shaped in
    let P : List Shape → Type 0 = λ ss. Misled ss g in
    one_misled h.shapes f g h.well.once h.misled (subst P same k.misled)

one_of : (lines : List (List ℕ)) (f g : AsmFault) → FirstFaultOf lines f → FirstFaultOf lines g → f ≡ g
one_of lines f g (inl h) (inl k) = one_in_lines lines f g h k
one_of lines f g (inl h) (inr (inl k)) = absurd (well_line lines k.shapes f k.well h)
one_of lines f g (inl h) (inr (inr k)) = absurd (well_line lines k.shapes f k.well h)
one_of lines f g (inr (inl h)) (inl k) = absurd (well_line lines h.shapes g h.well k)
one_of lines f g (inr (inl h)) (inr (inl k)) = one_at_end lines f g h k
one_of lines f g (inr (inl h)) (inr (inr k)) = absurd (end_not lines k.shapes f k.well.shaped k.followed h)
one_of lines f g (inr (inr h)) (inl k) = absurd (well_line lines h.shapes g h.well k)
one_of lines f g (inr (inr h)) (inr (inl k)) = absurd (end_not lines h.shapes g h.well.shaped h.followed k)
one_of lines f g (inr (inr h)) (inr (inr k)) = one_in_jumps lines f g h k

-- a text has one first fault at most
pub one_first_fault : (text : List ℕ) (f g : AsmFault) → FirstFault text f → FirstFault text g → f ≡ g
one_first_fault text f g h k = one_of (lines_of (without_comments text)) f g h k

-- Lines without a fault, and where their labels end.
record Scanned (lines : List (List ℕ)) : Type 0 where
  shapes : List Shape
  well : AreWell lines shapes
  ending : Option ℕ
  ends : EndsLabels shapes ending

abbrev EndsSomehow : List Shape → Type 0
EndsSomehow shapes = (ending : Option ℕ) × EndsLabels shapes ending

ends_more : (shapes : List Shape) (labels : List (List ℕ)) (insn : Option Template) → EndsSomehow shapes
    → EndsSomehow (shapes ++ record { labels = labels; insn = insn } ∷ [])
ends_more shapes labels (Some template) h = (None, ends_insn shapes labels template)
ends_more shapes [] None h = (h.0, ends_empty shapes h.0 h.1)
ends_more shapes (name ∷ names) None h = (Some (length shapes + 1), ends_labels shapes (name ∷ names) (λ e. cc))

abbrev ScannedOrBreaks : List (List ℕ) → Type 0
ScannedOrBreaks lines = Scanned lines ⊎ ((fault : AsmFault) × FaultInLine lines fault)

well_more : (before : List (List ℕ)) (shapes : List Shape) (line : List ℕ) → AreWell before shapes → (next : NextLine shapes line)
    → AreWell (before ++ line ∷ []) (shapes ++ next.shape ∷ [])
well_more before shapes line well next = let P : List (List ℕ) → Type 0 = λ ns. Once ns in record {
  shaped = one_more_shape before shapes line next.shape well.shaped next.shaped;
  once = subst P (sym (names_more shapes next.shape)) next.once;
  size = next.size;
}

scan_cases : (lines before : List (List ℕ)) (line : List ℕ) (after : List (List ℕ)) (shapes : List Shape) → lines ≡ before ++ line ∷ after
    → AreWell before shapes → EndsSomehow shapes
    → ((ss : List Shape) → AreWell (before ++ line ∷ []) ss → EndsSomehow ss → ScannedOrBreaks lines) → NextOrBreaks shapes line (length before + 1)
    → ScannedOrBreaks lines
scan_cases lines before line after shapes whole well ends more (inl next) =
    more (shapes ++ next.shape ∷ []) (well_more before shapes line well next) (ends_more shapes next.shape.labels next.shape.insn ends)
scan_cases lines before line after shapes whole well ends more (inr breaks) =
    inr (breaks.0, record { here = record { before = before; line = line; after = after; whole = whole; shapes = shapes; well = well }; breaks = breaks.1 })

scan_lines : (lines before after : List (List ℕ)) (shapes : List Shape) → lines ≡ before ++ after → AreWell before shapes → EndsSomehow shapes
    → ScannedOrBreaks lines
scan_lines lines before [] shapes whole well ends =
    let P : List (List ℕ) → Type 0 = λ ls. AreWell ls shapes in
    inl (record { shapes = shapes; well = subst P (sym (whole ∙ append-nil before)) well; ending = ends.0; ends = ends.1 })
scan_lines lines before (line ∷ after) shapes whole well ends =
    scan_cases lines before line after shapes whole well ends
    (λ ss w e. scan_lines lines (before ++ line ∷ []) after ss (whole ∙ sym (append_assoc before (line ∷ []) after)) w e)
    (next_step shapes line (length before + 1) well.size)

abbrev LinkedOrMisled : List Shape → Type 0
LinkedOrMisled shapes = ((program : List Insn) × AreInsns (labels_from 0 shapes) 0 (templates_of shapes) program) ⊎ ((fault : AsmFault) × Misled shapes fault)

abbrev LinksOn : List Shape → List Shape → Type 0
LinksOn shapes before = (insns : List Insn) → AreInsns (labels_from 0 shapes) 0 (templates_of before) insns → LinkedOrMisled shapes

link_none : (shapes before : List Shape) (s : Shape) (insns : List Insn) → s.insn ≡ None → AreInsns (labels_from 0 shapes) 0 (templates_of before) insns
    → AreInsns (labels_from 0 shapes) 0 (templates_of (before ++ s ∷ [])) insns
link_none shapes before s insns e h =
    let P : List Template → Type 0 = λ ts. AreInsns (labels_from 0 shapes) 0 ts insns in
    let same : templates_of (before ++ s ∷ []) ≡ templates_of before =
    templates_append before (s ∷ []) ∙ (ap (λ i. templates_of before ++ cons_option i []) e ∙ append-nil (templates_of before)) in
    subst P (sym same) h

link_some : (shapes before : List Shape) (s : Shape) (template : Template) (insns : List Insn) (insn : Insn) → s.insn ≡ Some template
    → AreInsns (labels_from 0 shapes) 0 (templates_of before) insns
    → IsInsn (labels_from 0 shapes) (count before) template insn → AreInsns (labels_from 0 shapes) 0 (templates_of (before ++ s ∷ [])) (insns ++ insn ∷ [])
link_some shapes before s template insns insn e h one =
    let P : List Template → Type 0 = λ ts. AreInsns (labels_from 0 shapes) 0 ts (insns ++ insn ∷ []) in
    let Q : ℕ → Type 0 = λ p. IsInsn (labels_from 0 shapes) p template insn in
    let at : count before ≡ 0 + count before = omega arith in
    subst P (sym (templates_at before s [] template e)) (insns_more (labels_from 0 shapes) 0 (templates_of before) insns template insn h (subst Q at one))

abbrev InsnOrBreaks : List Shape → List Shape → Template → Type 0
InsnOrBreaks shapes before template =
    ((insn : Insn) × IsInsn (labels_from 0 shapes) (count before) template insn) ⊎
    ((fault : AsmFault) × JumpBreaks (labels_from 0 shapes) (count before) (length before + 1) template.jump fault)

link_cases : (shapes before : List Shape) (s : Shape) (after : List Shape) (template : Template) (insns : List Insn) → shapes ≡ before ++ s ∷ after
    → s.insn ≡ Some template → AreInsns (labels_from 0 shapes) 0 (templates_of before) insns
    → LinksOn shapes (before ++ s ∷ []) → InsnOrBreaks shapes before template → LinkedOrMisled shapes
link_cases shapes before s after template insns whole e h more (inl one) =
    more (insns ++ one.0 ∷ []) (link_some shapes before s template insns one.0 e h one.1)
link_cases shapes before s after template insns whole e h more (inr breaks) =
    inr (
      breaks.0,
      record {
        before = before;
        jump = s;
        after = after;
        whole = whole;
        template = template;
        written = e;
        insns = insns;
        lead = h;
        breaks = breaks.1;
      },
    )

link_line : (shapes before : List Shape) (s : Shape) (after : List Shape) (insn : Option Template) (insns : List Insn) → shapes ≡ before ++ s ∷ after
    → s.insn ≡ insn → AreInsns (labels_from 0 shapes) 0 (templates_of before) insns
    → LinksOn shapes (before ++ s ∷ []) → LinkedOrMisled shapes
link_line shapes before s after None insns whole e h more = more insns (link_none shapes before s insns e h)
link_line shapes before s after (Some template) insns whole e h more =
    link_cases shapes before s after template insns whole e h more (insn_step (labels_from 0 shapes) (count before) (length before + 1) template)

link_lines : (shapes before after : List Shape) (insns : List Insn) → shapes ≡ before ++ after → AreInsns (labels_from 0 shapes) 0 (templates_of before) insns
    → LinkedOrMisled shapes
link_lines shapes before [] insns whole h =
    let P : List Shape → Type 0 = λ ss. AreInsns (labels_from 0 shapes) 0 (templates_of ss) insns in
    inl (insns, subst P (sym (whole ∙ append-nil before)) h)
link_lines shapes before (s ∷ after) insns whole h =
    link_line shapes before s after s.insn insns whole refl h
    (λ is k. link_lines shapes (before ++ s ∷ []) after is (whole ∙ sym (append_assoc before (s ∷ []) after)) k)

-- lines without a fault, whose jumps lead on, denote a program
pub linked_denotes : (shapes : List Shape) (program : List Insn) → Once (names_of shapes) → count shapes ≤ MAX_INSNS → AreFollowed shapes
    → AreInsns (labels_from 0 shapes) 0 (templates_of shapes) program → DenotesBy shapes program
linked_denotes shapes program once size followed h =
    let long : count shapes ≡ length program = insns_length (labels_from 0 shapes) 0 (templates_of shapes) program h in
    let P : ℕ → Type 0 = λ n. All (λ (l : Label). l.at < n) (labels_from 0 shapes) in
    record { once = labels_once shapes once; named = subst P long followed; insns = h; size = omega (arith, long, size) }

abbrev DenotesOrBreaks : List (List ℕ) → Type 0
DenotesOrBreaks lines =
    ((program : List Insn) × ((shapes : List Shape) × HaveShapes lines shapes × DenotesBy shapes program)) ⊎ ((fault : AsmFault) × FirstFaultOf lines fault)

linked_cases : (lines : List (List ℕ)) (shapes : List Shape) → AreWell lines shapes → AreFollowed shapes → LinkedOrMisled shapes → DenotesOrBreaks lines
linked_cases lines shapes well followed (inl h) = inl (h.0, (shapes, well.shaped, linked_denotes shapes h.0 well.once well.size followed h.1))
linked_cases lines shapes well followed (inr m) = inr (m.0, inr (inr (record { shapes = shapes; well = well; followed = followed; misled = m.1 })))

ended_cases : (lines : List (List ℕ)) (shapes : List Shape) (ending : Option ℕ) → AreWell lines shapes → EndsLabels shapes ending → DenotesOrBreaks lines
ended_cases lines shapes None well ends = linked_cases lines shapes well ends (link_lines shapes [] shapes [] refl tt)
ended_cases lines shapes (Some number) well ends =
    inr (Syntax number, inr (inl (record { shapes = shapes; well = well; number = number; labels = ends; reported = refl })))

scanned_cases : (lines : List (List ℕ)) → ScannedOrBreaks lines → DenotesOrBreaks lines
scanned_cases lines (inl s) = ended_cases lines s.shapes s.ending s.well s.ends
scanned_cases lines (inr breaks) = inr (breaks.0, inl breaks.1)

none_well : AreWell [] []
none_well = record { shaped = tt; once = λ i j d below within. absurd (omega (arith, below, within)); size = omega arith }

none_followed : AreFollowed []
none_followed = λ k d below. absurd (omega (arith, below))

either_of : (lines : List (List ℕ)) → DenotesOrBreaks lines
either_of lines = scanned_cases lines (scan_lines lines [] lines [] refl none_well (None, none_followed))

-- a text denotes a program or has a first fault
pub either : (text : List ℕ) → ((program : List Insn) × Denotes text program) ⊎ ((fault : AsmFault) × FirstFault text fault)
either text = either_of (lines_of (without_comments text))
