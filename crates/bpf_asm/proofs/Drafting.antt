-- Line by line: what one more line makes of lines without a fault.
-- idea: whether names stand twice is decided by searching each name in those after it; then one line has its shape or one
-- of the four faults, by cases in the order in which they are judged
use Rattle.std.proofs.Common.{ℕ, suc, ◌+◌, ◌≡◌, ◌≢◌, ◌<◌, ◌≤◌, ◌⊎◌, inl, inr, true, false, List, [], ◌∷◌, ◌++◌, map, length, Option, None}
use Rattle.std.proofs.Common.{Some, Result, Ok, Err, refl, sym, ◌∙◌, ap, arith, subst, All, Contains, append_assoc, append-nil}
use Rattle.std.specs.Str.{bytes_eq}
use Rattle.std.proofs.lemmas.Bool.{cases_Bool, cases_lt}
use Rattle.std.proofs.lemmas.List.Elements.{All-nil, All-cons, All-append, All-push, All-weaker, Contains-append_right}
use Rattle.std.proofs.lemmas.List.Kept.{AllPairs-cons}
use Rattle.std.proofs.lemmas.Slice.Eq.{bytes_eq-Decides}
use Rattle.bpf_insn.specs.declared.insn.TheConstants.{MAX_INSNS}
use Rattle.bpf_asm.specs.declared.fault.LineFault.{LineFault}
use Rattle.bpf_asm.specs.declared.fault.AsmFault.{AsmFault}
use Rattle.bpf_asm.specs.declared.fault.AsmFault.TheVariants.{LabelTwice, TooLong}
use Rattle.bpf_asm.specs.Templates.{Template}
use Rattle.bpf_asm.specs.Lines.{Reading, reading_of}
use Rattle.bpf_asm.specs.Grammar.{Shape, HasShape}
use Rattle.bpf_asm.specs.Denotes.{Label, labels_from, index_after}
use Rattle.bpf_asm.specs.FirstFault.{in_line, names_of, Once, LabelsOnce, LineBreaks, AreFollowed, IsEmpty, Unfollowed}
use Rattle.bpf_asm.specs.FirstFault.LineBreaks.{InTokens, InLabels, InInsn, InLength}
use Rattle.bpf_asm.specs.Drafts.{EndsLabels}
use Rattle.bpf_asm.proofs.LineReadings.{shape_is, shape_read, fault_read, fault_is}
use Rattle.bpf_asm.proofs.ShapeLists.{label_at, count, count_append, labels_more}

-- a name stands in front, or nowhere: whether names stand once can be decided
in_cases : (x y : List ℕ) (xs : List (List ℕ)) → Contains xs x ⊎ All (λ m. x ≢ m) xs → (bytes_eq x y ≡ true) ⊎ (bytes_eq x y ≡ false)
    → Contains (y ∷ xs) x ⊎ All (λ m. x ≢ m) (y ∷ xs)
in_cases x y xs (inl there) e = inl (Contains-append_right (y ∷ []) xs x there)
in_cases x y xs (inr none) (inl same) = inl (0, omega arith, sym ((bytes_eq-Decides x y).0 same))
in_cases x y xs (inr none) (inr other) =
    let differs : x ≢ y = λ e. let yes = (bytes_eq-Decides x y).1 e in cc in
    inr (All-cons (λ m. x ≢ m) y xs differs none)

is_in : (x : List ℕ) (xs : List (List ℕ)) → Contains xs x ⊎ All (λ m. x ≢ m) xs
is_in x [] = inr (All-nil (λ m. x ≢ m))
is_in x (y ∷ xs) = in_cases x y xs (is_in x xs) (cases_Bool (bytes_eq x y))

twice_first : (x : List ℕ) (xs : List (List ℕ)) → Contains xs x → Once (x ∷ xs) → ⊥
twice_first x xs there once =
    let above : 0 < suc there.0 = omega arith in
    let within : suc there.0 < suc (length xs) = omega (arith, there.1) in
    once 0 (suc there.0) x above within (sym there.2)

once_tail : (x : List ℕ) (xs : List (List ℕ)) → Once (x ∷ xs) → Once xs
once_tail x xs once = λ i j d below within. once (suc i) (suc j) d (omega (arith, below)) (omega (arith, within))

once_cases : (x : List ℕ) (xs : List (List ℕ)) → Contains xs x ⊎ All (λ m. x ≢ m) xs → Once xs ⊎ (Once xs → ⊥) → Once (x ∷ xs) ⊎ (Once (x ∷ xs) → ⊥)
once_cases x xs (inl there) rest = inr (twice_first x xs there)
once_cases x xs (inr none) (inl once) = inl (AllPairs-cons (λ (m n : List ℕ). m ≢ n) x xs none once)
once_cases x xs (inr none) (inr twice) = inr (λ once. twice (once_tail x xs once))

pub once_or_not : (names : List (List ℕ)) → Once names ⊎ (Once names → ⊥)
once_or_not [] = inl (λ i j d below within. absurd (omega (arith, below, within)))
once_or_not (x ∷ xs) = once_cases x xs (is_in x xs) (once_or_not xs)

-- A line without a fault, which stands after lines with these shapes.
pub record NextLine (shapes : List Shape) (line : List ℕ) : Type 0 where
  pub shape : Shape
  pub shaped : HasShape line shape
  pub once : Once (names_of shapes ++ shape.labels)
  pub size : count (shapes ++ shape ∷ []) ≤ MAX_INSNS

-- the next line has no fault, or its first one
abbrev pub NextOrBreaks : List Shape → List ℕ → ℕ → Type 0
NextOrBreaks shapes line number = NextLine shapes line ⊎ ((fault : AsmFault) × LineBreaks shapes line number fault)

read_so : (r : Reading) (labels : List (List ℕ)) (insn : Result (Option Template) LineFault) → r.labels ≡ labels → r.insn ≡ insn
    → r ≡ record { labels = labels; insn = insn }
read_so r labels insn l i = ap (λ x. record { labels = x; insn = r.insn }) l ∙ ap (λ x. record { labels = labels; insn = x }) i

shaped_so : (line : List ℕ) (reading : Reading) (insn : Option Template) → reading_of line ≡ Ok reading → reading.insn ≡ Ok insn
    → HasShape line (record { labels = reading.labels; insn = insn })
shaped_so line reading insn r i =
    shape_is line (record { labels = reading.labels; insn = insn }) (r ∙ ap Ok (read_so reading reading.labels (Ok insn) refl i))

pub more_none : (shapes : List Shape) (labels : List (List ℕ)) → count (shapes ++ record { labels = labels; insn = None } ∷ []) ≡ count shapes
more_none shapes labels = let e : count shapes + 0 ≡ count shapes = omega arith in count_append shapes (record { labels = labels; insn = None } ∷ []) ∙ e

pub more_some : (shapes : List Shape) (labels : List (List ℕ)) (template : Template)
    → count (shapes ++ record { labels = labels; insn = Some template } ∷ []) ≡ count shapes + 1
more_some shapes labels template = count_append shapes (record { labels = labels; insn = Some template } ∷ [])

size_cases : (shapes : List Shape) (line : List ℕ) (number : ℕ) (reading : Reading) (template : Template) → reading_of line ≡ Ok reading
    → LabelsOnce shapes reading → reading.insn ≡ Ok (Some template)
    → count shapes ≤ MAX_INSNS → (count shapes < MAX_INSNS) ⊎ (MAX_INSNS ≤ count shapes) → NextOrBreaks shapes line number
size_cases shapes line number reading template r once i size (inl room) = inl (record {
  shape = record { labels = reading.labels; insn = Some template };
  shaped = shaped_so line reading (Some template) r i;
  once = once;
  size = omega (arith, more_some shapes reading.labels template, room);
})
size_cases shapes line number reading template r once i size (inr full) =
    let e : count shapes ≡ MAX_INSNS = omega (arith, size, full) in
    inr (TooLong, InLength reading template r once i e)

insn_cases : (shapes : List Shape) (line : List ℕ) (number : ℕ) (reading : Reading) (insn : Result (Option Template) LineFault) → reading_of line ≡ Ok reading
    → LabelsOnce shapes reading → reading.insn ≡ insn
    → count shapes ≤ MAX_INSNS → NextOrBreaks shapes line number
insn_cases shapes line number reading (Err fault) r once i size = inr (in_line number fault, InInsn reading fault r once i)
insn_cases shapes line number reading (Ok None) r once i size = inl (record {
  shape = record { labels = reading.labels; insn = None };
  shaped = shaped_so line reading None r i;
  once = once;
  size = omega (arith, more_none shapes reading.labels, size);
})
insn_cases shapes line number reading (Ok (Some template)) r once i size =
    size_cases shapes line number reading template r once i size (cases_lt (count shapes) MAX_INSNS)

label_cases : (shapes : List Shape) (line : List ℕ) (number : ℕ) (reading : Reading) → reading_of line ≡ Ok reading → count shapes ≤ MAX_INSNS
    → LabelsOnce shapes reading ⊎ (LabelsOnce shapes reading → ⊥) → NextOrBreaks shapes line number
label_cases shapes line number reading r size (inl once) = insn_cases shapes line number reading reading.insn r once refl size
label_cases shapes line number reading r size (inr twice) = inr (LabelTwice number, InLabels reading r twice)

reading_cases : (shapes : List Shape) (line : List ℕ) (number : ℕ) (r : Result Reading LineFault) → reading_of line ≡ r → count shapes ≤ MAX_INSNS
    → NextOrBreaks shapes line number
reading_cases shapes line number (Err fault) e size = inr (in_line number fault, InTokens fault (fault_is line fault e))
reading_cases shapes line number (Ok reading) e size = label_cases shapes line number reading e size (once_or_not (names_of shapes ++ reading.labels))

pub next_step : (shapes : List Shape) (line : List ℕ) (number : ℕ) → count shapes ≤ MAX_INSNS → NextOrBreaks shapes line number
next_step shapes line number size = reading_cases shapes line number (reading_of line) refl size

-- a line with a shape has no fault, where its labels are new and there is room for its instruction
pub shape_well : (shapes : List Shape) (line : List ℕ) (number : ℕ) (shape : Shape) (fault : AsmFault) → HasShape line shape
    → Once (names_of shapes ++ shape.labels) → count (shapes ++ shape ∷ []) ≤ MAX_INSNS
    → LineBreaks shapes line number fault → ⊥
shape_well shapes line number shape fault shaped once size (InTokens f e) =
    let read = shape_read line shape shaped in
    let broken = fault_read line f e in
    cc
shape_well shapes line number shape fault shaped once size (InLabels reading e twice) =
    let read : Ok (record { labels = shape.labels; insn = Ok shape.insn }) ≡ Ok reading = sym (shape_read line shape shaped) ∙ e in
    let same : record { labels = shape.labels; insn = Ok shape.insn } ≡ reading = cc in
    let P : Reading → Type 0 = λ r. LabelsOnce shapes r in
    twice (subst P same once)
shape_well shapes line number shape fault shaped once size (InInsn reading f e once' i) =
    let read : Ok (record { labels = shape.labels; insn = Ok shape.insn }) ≡ Ok reading = sym (shape_read line shape shaped) ∙ e in
    let same : record { labels = shape.labels; insn = Ok shape.insn } ≡ reading = cc in
    let insn : Ok shape.insn ≡ reading.insn = ap (λ (r : Reading). r.insn) same in
    cc
shape_well shapes line number shape fault shaped once size (InLength reading template e once' i full) =
    let read : Ok (record { labels = shape.labels; insn = Ok shape.insn }) ≡ Ok reading = sym (shape_read line shape shaped) ∙ e in
    let same : record { labels = shape.labels; insn = Ok shape.insn } ≡ reading = cc in
    let insn : Ok shape.insn ≡ reading.insn = ap (λ (r : Reading). r.insn) same in
    let is : shape.insn ≡ Some template = cc in
    let counted : count (shapes ++ shape ∷ []) ≡ count shapes + 1 =
    ap (λ x. count (shapes ++ record { labels = shape.labels; insn = x } ∷ [])) is ∙ more_some shapes shape.labels template in
    absurd (omega (arith, counted, size, full))

-- no label stands past the instructions
within_map : (index bound : ℕ) (names : List (List ℕ)) → index ≤ bound → All (λ l. l.at ≤ bound) (map (label_at index) names)
within_map index bound [] h = All-nil (λ (l : Label). l.at ≤ bound)
within_map index bound (name ∷ names) h =
    All-cons (λ (l : Label). l.at ≤ bound) (label_at index name) (map (label_at index) names) h (within_map index bound names h)

after_index : (index : ℕ) (insn : Option Template) (shapes : List Shape) (labels : List (List ℕ))
    → index_after index insn + count shapes ≡ index + count (record { labels = labels; insn = insn } ∷ shapes)
after_index index None shapes labels = refl
after_index index (Some template) shapes labels = omega arith

pub labels_within : (index : ℕ) (shapes : List Shape) → All (λ l. l.at ≤ index + count shapes) (labels_from index shapes)
labels_within index [] = All-nil (λ (l : Label). l.at ≤ index + count [])
labels_within index (s ∷ shapes) =
    let e : index_after index s.insn + count shapes ≡ index + count (s ∷ shapes) = after_index index s.insn shapes s.labels in
    let P : ℕ → Type 0 = λ b. All (λ (l : Label). l.at ≤ b) (labels_from (index_after index s.insn) shapes) in
    All-append (λ (l : Label). l.at ≤ index + count (s ∷ shapes)) (map (label_at index) s.labels) (labels_from (index_after index s.insn) shapes)
    (within_map index (index + count (s ∷ shapes)) s.labels (omega arith)) (subst P e (labels_within (index_after index s.insn) shapes))

-- labels that an instruction follows, after the line with it
pub ends_insn : (shapes : List Shape) (labels : List (List ℕ)) (template : Template)
    → AreFollowed (shapes ++ record { labels = labels; insn = Some template } ∷ [])
ends_insn shapes labels template =
    let s : Shape = record { labels = labels; insn = Some template } in
    let more : count (shapes ++ s ∷ []) ≡ count shapes + 1 = more_some shapes labels template in
    let P : List Label → Type 0 = λ ls. All (λ (l : Label). l.at < count (shapes ++ s ∷ [])) ls in
    let front : All (λ (l : Label). l.at < count (shapes ++ s ∷ [])) (labels_from 0 shapes) =
    All-weaker (λ (l : Label). l.at ≤ 0 + count shapes) (λ (l : Label). l.at < count (shapes ++ s ∷ [])) (λ l h. omega (arith, h, more))
    (labels_from 0 shapes) (labels_within 0 shapes) in
    let back : All (λ (l : Label). l.at < count (shapes ++ s ∷ [])) (map (label_at (count shapes)) labels) =
    All-weaker (λ (l : Label). l.at ≤ count shapes) (λ (l : Label). l.at < count (shapes ++ s ∷ [])) (λ l h. omega (arith, h, more))
    (map (label_at (count shapes)) labels) (within_map (count shapes) (count shapes) labels (omega arith)) in
    subst P (sym (labels_more shapes s)) (All-append (λ (l : Label). l.at < count (shapes ++ s ∷ [])) (labels_from 0 shapes)
    (map (label_at (count shapes)) labels) front back)

-- the first labels that no instruction follows
pub ends_labels : (shapes : List Shape) (labels : List (List ℕ)) → labels ≢ []
    → Unfollowed (shapes ++ record { labels = labels; insn = None } ∷ []) (length shapes + 1)
ends_labels shapes labels some = record {
  before = shapes;
  last = record { labels = labels; insn = None };
  after = [];
  whole = refl;
  labelled = some;
  alone = refl;
  empty = All-nil IsEmpty;
  numbered = refl;
}

no_labels_more : (shapes : List Shape) → labels_from 0 (shapes ++ record { labels = []; insn = None } ∷ []) ≡ labels_from 0 shapes
no_labels_more shapes = labels_more shapes (record { labels = []; insn = None }) ∙ append-nil (labels_from 0 shapes)

-- an empty line changes nothing
pub ends_empty : (shapes : List Shape) (ending : Option ℕ) → EndsLabels shapes ending → EndsLabels (shapes ++ record { labels = []; insn = None } ∷ []) ending
ends_empty shapes None h =
    let P : List Label → Type 0 = λ ls. All (λ (l : Label). l.at < count (shapes ++ record { labels = []; insn = None } ∷ [])) ls in
    let Q : ℕ → Type 0 = λ n. All (λ (l : Label). l.at < n) (labels_from 0 shapes) in
    subst P (sym (no_labels_more shapes)) (subst Q (sym (more_none shapes [])) h)
ends_empty shapes (Some number) h =
    let e : Shape = record { labels = []; insn = None } in
    record {
      before = h.before;
      last = h.last;
      after = h.after ++ e ∷ [];
      whole = ap (λ ss. ss ++ e ∷ []) h.whole ∙ append_assoc h.before (h.last ∷ h.after) (e ∷ []);
      labelled = h.labelled;
      alone = h.alone;
      empty = All-push IsEmpty h.after e h.empty (refl, refl);
      numbered = h.numbered;
    }
