-- Lists of lines and of their shapes: put together, cut, and what their labels and instructions are then.
-- idea: each fact goes by induction over the first list; two elements of one list are compared by their fronts, so they are
-- the same, or one stands in the front of the other
use Rattle.std.proofs.Common.{ℕ, suc, ◌+◌, ◌≡◌, ◌≢◌, ◌<◌, ◌⊎◌, inl, inr, List, [], ◌∷◌, ◌++◌, map, length, Option, None, Some}
use Rattle.std.proofs.Common.{refl, sym, ◌∙◌, ap, arith, subst, AllPairs, append_assoc, append-nil, length-append}
use Rattle.std.specs.List.{cons_option}
use Rattle.std.proofs.lemmas.List.{map-append, get_or-map, length-map, get_or_append_left}
use Rattle.std.proofs.lemmas.List.Elements.{filter_map-append}
use Rattle.std.proofs.lemmas.Grind.{flat_map-append}
use Rattle.bpf_insn.specs.declared.insn.Insn.{Insn}
use Rattle.bpf_asm.specs.Templates.{Template}
use Rattle.bpf_asm.specs.Grammar.{Shape, HasShape}
use Rattle.bpf_asm.specs.Denotes.{HaveShapes, Label, labels_from, templates_of, index_after, IsInsn, AreInsns}
use Rattle.bpf_asm.specs.FirstFault.{names_of, Once}

-- Two elements of a list, where they are the same one.
pub record Same {X : Type 0} (b1 : List X) (x : X) (a1 b2 : List X) (y : X) (a2 : List X) : Type 0 where
  pub before : b1 ≡ b2
  pub here : x ≡ y
  pub after : a1 ≡ a2

-- Two elements of a list, where the second stands after the first.
pub record Later {X : Type 0} (b1 : List X) (x : X) (a1 b2 : List X) (y : X) (a2 : List X) : Type 0 where
  pub between : List X
  pub before : b2 ≡ b1 ++ x ∷ between
  pub after : a1 ≡ between ++ y ∷ a2

later_more : {X : Type 0} (z : X) (b1 : List X) (x : X) (a1 b2 : List X) (y : X) (a2 : List X) → Later b1 x a1 b2 y a2 → Later (z ∷ b1) x a1 (z ∷ b2) y a2
later_more z b1 x a1 b2 y a2 h = record { between = h.between; before = ap (λ l. z ∷ l) h.before; after = h.after }

two_more : {X : Type 0} (z : X) (b1 : List X) (x : X) (a1 b2 : List X) (y : X) (a2 : List X)
    → Same b1 x a1 b2 y a2 ⊎ (Later b1 x a1 b2 y a2 ⊎ Later b2 y a2 b1 x a1)
    → Same (z ∷ b1) x a1 (z ∷ b2) y a2 ⊎ (Later (z ∷ b1) x a1 (z ∷ b2) y a2 ⊎ Later (z ∷ b2) y a2 (z ∷ b1) x a1)
two_more z b1 x a1 b2 y a2 (inl h) = inl (record { before = ap (λ l. z ∷ l) h.before; here = h.here; after = h.after })
two_more z b1 x a1 b2 y a2 (inr (inl h)) = inr (inl (later_more z b1 x a1 b2 y a2 h))
two_more z b1 x a1 b2 y a2 (inr (inr h)) = inr (inr (later_more z b2 y a2 b1 x a1 h))

two_at : {X : Type 0} (z w : X) (b1 : List X) (x : X) (a1 b2 : List X) (y : X) (a2 : List X) → z ≡ w
    → Same b1 x a1 b2 y a2 ⊎ (Later b1 x a1 b2 y a2 ⊎ Later b2 y a2 b1 x a1)
    → Same (z ∷ b1) x a1 (w ∷ b2) y a2 ⊎ (Later (z ∷ b1) x a1 (w ∷ b2) y a2 ⊎ Later (w ∷ b2) y a2 (z ∷ b1) x a1)
two_at {X} z w b1 x a1 b2 y a2 e h =
    let P : X → Type 0 = λ v. Same (z ∷ b1) x a1 (v ∷ b2) y a2 ⊎ (Later (z ∷ b1) x a1 (v ∷ b2) y a2 ⊎ Later (v ∷ b2) y a2 (z ∷ b1) x a1) in
    subst P e (two_more z b1 x a1 b2 y a2 h)

-- two elements of a list are the same, or one stands before the other
pub two_places : {X : Type 0} (b1 : List X) (x : X) (a1 b2 : List X) (y : X) (a2 : List X) → b1 ++ x ∷ a1 ≡ b2 ++ y ∷ a2
    → Same b1 x a1 b2 y a2 ⊎ (Later b1 x a1 b2 y a2 ⊎ Later b2 y a2 b1 x a1)
two_places [] x a1 [] y a2 e =
    let here : x ≡ y = cc in
    let after : a1 ≡ a2 = cc in
    inl (record { before = refl; here = here; after = after })
two_places [] x a1 (w ∷ b2) y a2 e =
    let here : x ≡ w = cc in
    let after : a1 ≡ b2 ++ y ∷ a2 = cc in
    inr (inl (record { between = b2; before = ap (λ v. v ∷ b2) (sym here); after = after }))
two_places (z ∷ b1) x a1 [] y a2 e =
    let here : z ≡ y = cc in
    let after : b1 ++ x ∷ a1 ≡ a2 = cc in
    inr (inr (record { between = b1; before = ap (λ v. v ∷ b1) here; after = sym after }))
two_places (z ∷ b1) x a1 (w ∷ b2) y a2 e =
    let here : z ≡ w = cc in
    let rest : b1 ++ x ∷ a1 ≡ b2 ++ y ∷ a2 = cc in
    two_at z w b1 x a1 b2 y a2 here (two_places b1 x a1 b2 y a2 rest)

-- Lines with shapes, cut in two.
pub record Cut (before after : List (List ℕ)) (shapes : List Shape) : Type 0 where
  pub front : List Shape
  pub back : List Shape
  pub whole : shapes ≡ front ++ back
  pub shaped_front : HaveShapes before front
  pub shaped_back : HaveShapes after back

pub cut_shapes : (before after : List (List ℕ)) (shapes : List Shape) → HaveShapes (before ++ after) shapes → Cut before after shapes
cut_shapes [] after shapes h = record { front = []; back = shapes; whole = refl; shaped_front = tt; shaped_back = h }
cut_shapes (line ∷ before) after [] h = absurd h
cut_shapes (line ∷ before) after (shape ∷ shapes) h =
    let more = cut_shapes before after shapes h.1 in
    record {
      front = shape ∷ more.front;
      back = more.back;
      whole = ap (λ l. shape ∷ l) more.whole;
      shaped_front = (h.0, more.shaped_front);
      shaped_back = more.shaped_back;
    }

pub one_more_shape : (lines : List (List ℕ)) (shapes : List Shape) (line : List ℕ) (shape : Shape) → HaveShapes lines shapes → HasShape line shape
    → HaveShapes (lines ++ line ∷ []) (shapes ++ shape ∷ [])
one_more_shape [] [] line shape h one = (one, tt)
one_more_shape [] (s ∷ shapes) line shape h one = absurd h
one_more_shape (l ∷ lines) [] line shape h one = absurd h
one_more_shape (l ∷ lines) (s ∷ shapes) line shape h one = (h.0, one_more_shape lines shapes line shape h.1 one)

pub shapes_length : (lines : List (List ℕ)) (shapes : List Shape) → HaveShapes lines shapes → length lines ≡ length shapes
shapes_length [] [] h = refl
shapes_length [] (s ∷ shapes) h = absurd h
shapes_length (l ∷ lines) [] h = absurd h
shapes_length (l ∷ lines) (s ∷ shapes) h = ap suc (shapes_length lines shapes h.1)

pub templates_append : (ss ts : List Shape) → templates_of (ss ++ ts) ≡ templates_of ss ++ templates_of ts
templates_append ss ts = filter_map-append (λ (shape : Shape). shape.insn) ss ts

pub names_append : (ss ts : List Shape) → names_of (ss ++ ts) ≡ names_of ss ++ names_of ts
names_append ss ts = flat_map-append (λ (shape : Shape). shape.labels) ss ts

-- how many instructions lines have
abbrev pub count : List Shape → ℕ
count shapes = length (templates_of shapes)

pub count_append : (ss ts : List Shape) → count (ss ++ ts) ≡ count ss + count ts
count_append ss ts = ap length (templates_append ss ts) ∙ length-append (templates_of ss) (templates_of ts)

abbrev pub label_at : ℕ → List ℕ → Label
label_at index name = record { name = name; at = index }

counted : (index : ℕ) (insn : Option Template) (ts : List Template) → index_after index insn + length ts ≡ index + length (cons_option insn ts)
counted index None ts = refl
counted index (Some template) ts = omega arith

pub labels_append : (index : ℕ) (ss ts : List Shape) → labels_from index (ss ++ ts) ≡ labels_from index ss ++ labels_from (index + count ss) ts
labels_append index [] ts = let e : index ≡ index + 0 = omega arith in ap (λ p. labels_from p ts) e
labels_append index (s ∷ ss) ts =
    ap (λ ls. map (label_at index) s.labels ++ ls)
    (labels_append (index_after index s.insn) ss ts ∙ ap (λ p. labels_from (index_after index s.insn) ss ++ labels_from p ts)
    (counted index s.insn (templates_of ss)))
    ∙ sym (append_assoc (map (label_at index) s.labels) (labels_from (index_after index s.insn) ss) (labels_from (index + count (s ∷ ss)) ts))

-- the labels of one more line
pub labels_more : (ss : List Shape) (s : Shape) → labels_from 0 (ss ++ s ∷ []) ≡ labels_from 0 ss ++ map (label_at (count ss)) s.labels
labels_more ss s =
    let e : 0 + count ss ≡ count ss = omega arith in
    labels_append 0 ss (s ∷ []) ∙ ap (λ ls. labels_from 0 ss ++ ls)
    (append-nil (map (label_at (0 + count ss)) s.labels) ∙ ap (λ p. map (label_at p) s.labels) e)

names_at : (index : ℕ) (names : List (List ℕ)) → map (λ (l : Label). l.name) (map (label_at index) names) ≡ names
names_at index [] = refl
names_at index (name ∷ names) = ap (λ ns. name ∷ ns) (names_at index names)

-- the names of the labels
pub label_names : (index : ℕ) (ss : List Shape) → map (λ (l : Label). l.name) (labels_from index ss) ≡ names_of ss
label_names index [] = refl
label_names index (s ∷ ss) =
    map-append (λ (l : Label). l.name) (map (label_at index) s.labels) (labels_from (index_after index s.insn) ss)
    ∙ (ap (λ ns. ns ++ map (λ (l : Label). l.name) (labels_from (index_after index s.insn) ss)) (names_at index s.labels)
    ∙ ap (λ ns. s.labels ++ ns) (label_names (index_after index s.insn) ss))

-- no name stands twice as a label
abbrev pub LabelledOnce : List Label → Type 0
LabelledOnce labels = AllPairs (λ l m. l.name ≢ m.name) labels

labels_once_by : (labels : List Label) → Once (map (λ (l : Label). l.name) labels) → LabelledOnce labels
labels_once_by labels once = λ i j d below within e.
    let long : length (map (λ (l : Label). l.name) labels) ≡ length labels = length-map labels (λ (l : Label). l.name) in
    let first : i < length labels = omega (arith, below, within) in
    once i j d.name below (omega (arith, within, long))
    (get_or-map (λ (l : Label). l.name) labels i d d.name first ∙ (e ∙ sym (get_or-map (λ (l : Label). l.name) labels j d d.name within)))

names_once_by : (labels : List Label) → LabelledOnce labels → Once (map (λ (l : Label). l.name) labels)
names_once_by labels once = λ i j d below within e.
    let long : length (map (λ (l : Label). l.name) labels) ≡ length labels = length-map labels (λ (l : Label). l.name) in
    let second : j < length labels = omega (arith, within, long) in
    let first : i < length labels = omega (arith, below, second) in
    once i j (label_at 0 d) below second
    (sym (get_or-map (λ (l : Label). l.name) labels i (label_at 0 d) d first) ∙ (e ∙ get_or-map (λ (l : Label). l.name) labels j (label_at 0 d) d second))

pub labels_once : (ss : List Shape) → Once (names_of ss) → LabelledOnce (labels_from 0 ss)
labels_once ss once = let P : List (List ℕ) → Type 0 = λ ns. Once ns in labels_once_by (labels_from 0 ss) (subst P (sym (label_names 0 ss)) once)

pub names_once : (ss : List Shape) → LabelledOnce (labels_from 0 ss) → Once (names_of ss)
names_once ss once = let P : List (List ℕ) → Type 0 = λ ns. Once ns in subst P (label_names 0 ss) (names_once_by (labels_from 0 ss) once)

-- what stands in front has each name once where the whole has
pub once_front : (ns ms : List (List ℕ)) → Once (ns ++ ms) → Once ns
once_front ns ms once = λ i j d below within e.
    let first : i < length ns = omega (arith, below, within) in
    let long : j < length (ns ++ ms) = omega (arith, within, length-append ns ms) in
    once i j d below long (get_or_append_left ns ms d i first ∙ (e ∙ sym (get_or_append_left ns ms d j within)))

pub once_names : (ss : List Shape) (s : Shape) (ts : List Shape) → Once (names_of (ss ++ s ∷ ts)) → Once (names_of ss ++ s.labels)
once_names ss s ts once =
    let P : List (List ℕ) → Type 0 = λ ns. Once ns in
    once_front (names_of ss ++ s.labels) (names_of ts) (subst P (names_append ss (s ∷ ts) ∙ sym (append_assoc (names_of ss) s.labels (names_of ts))) once)

pub names_more : (ss : List Shape) (s : Shape) → names_of (ss ++ s ∷ []) ≡ names_of ss ++ s.labels
names_more ss s = names_append ss (s ∷ []) ∙ ap (λ ns. names_of ss ++ ns) (append-nil s.labels)

-- instructions of the table are as many as there are lines with one
pub insns_length : (labels : List Label) (at : ℕ) (ts : List Template) (insns : List Insn) → AreInsns labels at ts insns → length ts ≡ length insns
insns_length labels at [] [] h = refl
insns_length labels at [] (i ∷ insns) h = absurd h
insns_length labels at (t ∷ ts) [] h = absurd h
insns_length labels at (t ∷ ts) (i ∷ insns) h = ap suc (insns_length labels (at + 1) ts insns h.1)

-- one of the instructions
pub insn_within : (labels : List Label) (at : ℕ) (before : List Template) (t : Template) (after : List Template) (insns : List Insn)
    → AreInsns labels at (before ++ t ∷ after) insns
    → (i : Insn) × IsInsn labels (at + length before) t i
insn_within labels at [] t after [] h = absurd h
insn_within labels at [] t after (i ∷ insns) h = let P : ℕ → Type 0 = λ p. IsInsn labels p t i in let e : at ≡ at + 0 = omega arith in (i, subst P e h.0)
insn_within labels at (u ∷ before) t after [] h = absurd h
insn_within labels at (u ∷ before) t after (i ∷ insns) h =
    let more = insn_within labels (at + 1) before t after insns h.1 in
    let e : at + 1 + length before ≡ at + suc (length before) = omega arith in
    let P : ℕ → Type 0 = λ p. IsInsn labels p t more.0 in
    (more.0, subst P e more.1)

-- one more instruction
pub insns_more : (labels : List Label) (at : ℕ) (ts : List Template) (insns : List Insn) (t : Template) (i : Insn) → AreInsns labels at ts insns
    → IsInsn labels (at + length ts) t i → AreInsns labels at (ts ++ t ∷ []) (insns ++ i ∷ [])
insns_more labels at [] [] t i h one = let P : ℕ → Type 0 = λ p. IsInsn labels p t i in let e : at + 0 ≡ at = omega arith in (subst P e one, tt)
insns_more labels at [] (j ∷ insns) t i h one = absurd h
insns_more labels at (u ∷ ts) [] t i h one = absurd h
insns_more labels at (u ∷ ts) (j ∷ insns) t i h one =
    let e : at + suc (length ts) ≡ at + 1 + length ts = omega arith in
    let P : ℕ → Type 0 = λ p. IsInsn labels p t i in
    (h.0, insns_more labels (at + 1) ts insns t i h.1 (subst P e one))
