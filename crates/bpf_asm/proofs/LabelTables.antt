-- What a table of labels and a draft stand for, after a label or an instruction is added.
-- idea: the draft of one line more differs from the draft in one field, so each field's equation is the old one with one
-- element appended; the table of labels is followed by looking at one name, the new one or another
use Rattle.std.proofs.Common.{ℕ, ◌+◌, ◌≡◌, ◌≢◌, ◌<◌, ◌⊎◌, inl, inr, true, false, List, [], ◌∷◌, ◌++◌, map, length}
use Rattle.std.proofs.Common.{get_or, Option, None, Some, is_some, refl, sym, ◌∙◌, ap, arith, subst, All, Contains}
use Rattle.std.proofs.Common.{append_assoc, append-nil, length-append, vec_len, if◌then◌else◌}
use Rattle.std.specs.Str.{bytes_eq}
use Rattle.std.proofs.lemmas.Bool.{cases_Bool}
use Rattle.std.proofs.lemmas.List.{map-append, length-map, get_or-map, get_or_append_left}
use Rattle.std.proofs.lemmas.List.Elements.{All-map, Contains-get_or, Contains-append_left, Contains-push, Contains-push_cases}
use Rattle.std.proofs.lemmas.List.Quantifiers.{all_pairs_push}
use Rattle.std.proofs.Math.Seq.{get_or-append_seam}
use Rattle.std.proofs.lemmas.Slice.Eq.{bytes_eq-Decides}
use Rattle.bpf_insn.specs.declared.insn.TheConstants.{MAX_INSNS}
use Rattle.bpf_asm.specs.declared.labels.LabelTable.{LabelTable}
use Rattle.bpf_asm.specs.declared.draft.Draft.{Draft}
use Rattle.bpf_asm.specs.declared.draft.Unlinked.{Unlinked}
use Rattle.bpf_asm.specs.Templates.{Template}
use Rattle.bpf_asm.specs.Grammar.{Shape}
use Rattle.bpf_asm.specs.Denotes.{Label, labels_from, templates_of}
use Rattle.bpf_asm.specs.FirstFault.{names_of, Once}
use Rattle.bpf_asm.specs.Views.{template_data, unlinked_data}
use Rattle.bpf_asm.specs.Drafts.{index_in, IsTableOf, cons_numbered, numbered_templates, label_shape, EndsLabels, IsDraftOf}
use Rattle.bpf_asm.proofs.ShapeLists.{label_at, label_names, labels_more, names_more, count}
use Rattle.bpf_asm.proofs.Drafting.{more_none, more_some, ends_insn, ends_labels, ends_empty}

-- a name without an index is no label's
pub table_missing : (known : List Label) (table : LabelTable) (name : List ℕ) → IsTableOf known table → index_in table name ≡ None
    → All (λ l. l.name ≢ name) known
table_missing known table name is none = λ k d below e.
    let l : Label = get_or known k d in
    let there : Contains known l = Contains-get_or known k d below in
    let P : List ℕ → Type 0 = λ n. Contains known (label_at l.at n) in
    let found = (is name l.at).1 (subst P e there) in
    cc

-- the index of a label, by any number that it is
pub label_there : (known : List Label) (name : List ℕ) (at same : ℕ) → Contains known (label_at at name) → at ≡ same → Contains known (label_at same name)
label_there known name at same there e = let P : ℕ → Type 0 = λ p. Contains known (label_at p name) in subst P e there

defined_here : (known : List Label) (old new : LabelTable) (name : List ℕ) (index : ℕ) (other : List ℕ) (p : ℕ) → IsTableOf known old
    → index_in new other ≡ (if bytes_eq name other then Some index else index_in old other) → (bytes_eq name other ≡ true) ⊎ (bytes_eq name other ≡ false)
    → index_in new other ≡ Some p → Contains (known ++ label_at index name ∷ []) (label_at p other)
defined_here known old new name index other p is set (inl same) found =
    let read : index_in new other ≡ Some index = set ∙ rw same refl in
    let value : Some index ≡ Some p = sym read ∙ found in
    let e : index ≡ p = cc in
    let n : name ≡ other = (bytes_eq-Decides name other).0 same in
    let P : ℕ → Type 0 = λ q. Contains (known ++ label_at index name ∷ []) (label_at q other) in
    let Q : List ℕ → Type 0 = λ m. Contains (known ++ label_at index name ∷ []) (label_at index m) in
    subst P e (subst Q n (Contains-push known (label_at index name)))
defined_here known old new name index other p is set (inr differ) found =
    let read : index_in new other ≡ index_in old other = set ∙ rw differ refl in
    Contains-append_left known (label_at index name ∷ []) (label_at p other) ((is other p).0 (sym read ∙ found))

kept_index : (old new : LabelTable) (name : List ℕ) (index : ℕ) (other : List ℕ) (p : ℕ) → index_in old name ≡ None
    → index_in new other ≡ (if bytes_eq name other then Some index else index_in old other) → (bytes_eq name other ≡ true) ⊎ (bytes_eq name other ≡ false)
    → index_in old other ≡ Some p → index_in new other ≡ Some p
kept_index old new name index other p none set (inl same) found =
    let n : name ≡ other = (bytes_eq-Decides name other).0 same in
    let nothing : index_in old other ≡ None = ap (index_in old) (sym n) ∙ none in
    cc
kept_index old new name index other p none set (inr differ) found = set ∙ (rw differ refl ∙ found)

defined_back : (known : List Label) (old new : LabelTable) (name : List ℕ) (index : ℕ) (other : List ℕ) (p : ℕ) → IsTableOf known old
    → index_in old name ≡ None → index_in new other ≡ (if bytes_eq name other then Some index else index_in old other)
    → Contains known (label_at p other) ⊎ (label_at index name ≡ label_at p other) → index_in new other ≡ Some p
defined_back known old new name index other p is none set (inl there) =
    kept_index old new name index other p none set (cases_Bool (bytes_eq name other)) ((is other p).1 there)
defined_back known old new name index other p is none set (inr same) =
    let n : name ≡ other = ap (λ (l : Label). l.name) same in
    let e : index ≡ p = ap (λ (l : Label). l.at) same in
    let yes : bytes_eq name other ≡ true = (bytes_eq-Decides name other).1 n in
    set ∙ (rw yes refl ∙ ap Some e)

-- a table with one label more
table_more : (known : List Label) (old new : LabelTable) (name : List ℕ) (index : ℕ) → IsTableOf known old → index_in old name ≡ None
    → ((other : List ℕ) → index_in new other ≡ (if bytes_eq name other then Some index else index_in old other))
    → IsTableOf (known ++ label_at index name ∷ []) new
table_more known old new name index is none set = λ other p. (
  defined_here known old new name index other p is (set other) (cases_Bool (bytes_eq name other)),
  λ there. defined_back known old new name index other p is none (set other) (Contains-push_cases known (label_at index name) (label_at p other) there),
)

numbered_front : (number : ℕ) (insn : Option Template) (whole front back : List (Template × ℕ)) → whole ≡ front ++ back
    → cons_numbered number insn whole ≡ cons_numbered number insn front ++ back
numbered_front number None whole front back e = e
numbered_front number (Some template) whole front back e = ap (λ l. (template, number) ∷ l) e

pub numbered_append : (number : ℕ) (ss ts : List Shape)
    → numbered_templates number (ss ++ ts) ≡ numbered_templates number ss ++ numbered_templates (number + length ss) ts
numbered_append number [] ts = let e : number ≡ number + 0 = omega arith in ap (λ n. numbered_templates n ts) e
numbered_append number (s ∷ ss) ts =
    let e : number + 1 + length ss ≡ number + length (s ∷ ss) = omega arith in
    numbered_front number s.insn (numbered_templates (number + 1) (ss ++ ts)) (numbered_templates (number + 1) ss)
    (numbered_templates (number + length (s ∷ ss)) ts)
    (numbered_append (number + 1) ss ts ∙ ap (λ n. numbered_templates (number + 1) ss ++ numbered_templates n ts) e)

labels_one_more : (shapes : List Shape) (names : List (List ℕ)) (name : List ℕ)
    → labels_from 0 (shapes ++ label_shape (names ++ name ∷ []) ∷ []) ≡ labels_from 0 (shapes ++ label_shape names ∷ []) ++ label_at (count shapes) name ∷ []
labels_one_more shapes names name =
    labels_more shapes (label_shape (names ++ name ∷ []))
    ∙ (ap (λ ls. labels_from 0 shapes ++ ls) (map-append (label_at (count shapes)) names (name ∷ []))
    ∙ (sym (append_assoc (labels_from 0 shapes) (map (label_at (count shapes)) names) (label_at (count shapes) name ∷ []))
    ∙ ap (λ ls. ls ++ label_at (count shapes) name ∷ []) (sym (labels_more shapes (label_shape names)))))

new_name : (shapes : List Shape) (name : List ℕ) → All (λ l. l.name ≢ name) (labels_from 0 shapes) → All (λ n. n ≢ name) (names_of shapes)
new_name shapes name none =
    let P : List (List ℕ) → Type 0 = λ ns. All (λ n. n ≢ name) ns in
    subst P (label_names 0 shapes) (All-map (λ (n : List ℕ). n ≢ name) (λ (l : Label). l.name) (labels_from 0 shapes) none)

once_more : (shapes : List Shape) (names : List (List ℕ)) (name : List ℕ) → Once (names_of (shapes ++ label_shape names ∷ []))
    → All (λ n. n ≢ name) (names_of (shapes ++ label_shape names ∷ [])) → Once (names_of (shapes ++ label_shape (names ++ name ∷ []) ∷ []))
once_more shapes names name once new =
    let P : List (List ℕ) → Type 0 = λ ns. Once ns in
    let whole : names_of (shapes ++ label_shape names ∷ []) ++ name ∷ [] ≡ names_of (shapes ++ label_shape (names ++ name ∷ []) ∷ []) =
    ap (λ ns. ns ++ name ∷ []) (names_more shapes (label_shape names)) ∙
    (append_assoc (names_of shapes) names (name ∷ []) ∙ sym (names_more shapes (label_shape (names ++ name ∷ [])))) in
    subst P whole (all_pairs_push (λ (m n : List ℕ). m ≢ n) (names_of (shapes ++ label_shape names ∷ [])) name once new)

some_more : (names : List (List ℕ)) (name : List ℕ) → names ++ name ∷ [] ≢ []
some_more [] name = λ e. cc
some_more (n ∷ names) name = λ e. cc

-- a draft with one label more
pub draft_label : (shapes : List Shape) (names : List (List ℕ)) (name : List ℕ) (line index : ℕ) (draft : Draft) (table : LabelTable)
    → length shapes + 1 ≡ line → index ≡ vec_len draft.insns → IsDraftOf (shapes ++ label_shape names ∷ []) draft → index_in draft.labels name ≡ None
    → ((other : List ℕ) → index_in table other ≡ (if bytes_eq name other then Some index else index_in draft.labels other))
    → IsDraftOf (shapes ++ label_shape (names ++ name ∷ []) ∷ []) (record { insns = draft.insns; labels = table; unfollowed = Some line })
draft_label shapes names name line index draft table at is h none set =
    let ss : List Shape = shapes ++ label_shape names ∷ [] in
    let missing : All (λ l. l.name ≢ name) (labels_from 0 ss) = table_missing (labels_from 0 ss) draft.labels name h.labels none in
    let here : index ≡ count shapes = is ∙ (h.counted ∙ more_none shapes names) in
    let T : List Label → Type 0 = λ ls. IsTableOf ls table in
    let L : ℕ → Type 0 = λ n. EndsLabels (shapes ++ label_shape (names ++ name ∷ []) ∷ []) (Some n) in
    record {
      insns = h.insns ∙ (numbered_append 1 shapes (label_shape names ∷ []) ∙ sym (numbered_append 1 shapes (label_shape (names ++ name ∷ []) ∷ [])));
      counted = h.counted ∙ (more_none shapes names ∙ sym (more_none shapes (names ++ name ∷ [])));
      labels = subst T (ap (λ p. labels_from 0 ss ++ label_at p name ∷ []) here ∙ sym (labels_one_more shapes names name))
          (table_more (labels_from 0 ss) draft.labels table name index h.labels none set);
      unfollowed = subst L at (ends_labels shapes (names ++ name ∷ []) (some_more names name));
      once = once_more shapes names name h.once (new_name ss name missing);
      size = omega (arith, more_none shapes names, more_none shapes (names ++ name ∷ []), h.size);
    }

contains_map : (labels : List Label) (index : ℕ) (name : List ℕ) → Contains labels (label_at index name) → Contains (map (λ (l : Label). l.name) labels) name
contains_map labels index name there =
    let long : length (map (λ (l : Label). l.name) labels) ≡ length labels = length-map labels (λ (l : Label). l.name) in (
      there.0,
      omega (arith, there.1, long),
      get_or-map (λ (l : Label). l.name) labels there.0 (label_at index name) name there.1 ∙ ap
          (λ (l : Label). l.name) there.2,
    )

twice_last : (names : List (List ℕ)) (name : List ℕ) → Contains names name → Once (names ++ name ∷ []) → ⊥
twice_last names name there once =
    let within : length names < length (names ++ name ∷ []) = omega (arith, length-append names (name ∷ [])) in
    once there.0 (length names) name there.1 within
    (get_or_append_left names (name ∷ []) name there.0 there.1 ∙ (there.2 ∙ sym (get_or-append_seam names name [] name)))

-- a name that has an index is a label for the second time
pub draft_twice : (shapes : List Shape) (names : List (List ℕ)) (name : List ℕ) (index : ℕ) (draft : Draft)
    → IsDraftOf (shapes ++ label_shape names ∷ []) draft → index_in draft.labels name ≡ Some index → Once (names_of shapes ++ (names ++ name ∷ [])) → ⊥
draft_twice shapes names name index draft h found once =
    let ss : List Shape = shapes ++ label_shape names ∷ [] in
    let P : List (List ℕ) → Type 0 = λ ns. Contains ns name in
    let Q : List (List ℕ) → Type 0 = λ ns. Once ns in
    let there : Contains (names_of shapes ++ names) name =
    subst P (label_names 0 ss ∙ names_more shapes (label_shape names)) (contains_map (labels_from 0 ss) index name ((h.labels name index).0 found)) in
    twice_last (names_of shapes ++ names) name there (subst Q (sym (append_assoc (names_of shapes) names (name ∷ []))) once)

-- a draft with one instruction more
pub draft_insn : (shapes : List Shape) (names : List (List ℕ)) (line : ℕ) (insn : Unlinked) (draft new : Draft) → length shapes + 1 ≡ line → insn.line ≡ line
    → (vec_len draft.insns ≡ MAX_INSNS → ⊥) → IsDraftOf (shapes ++ label_shape names ∷ []) draft
    → new.insns.items ≡ draft.insns.items ++ insn ∷ [] → vec_len new.insns ≡ vec_len draft.insns + 1 → new.labels ≡ draft.labels → new.unfollowed ≡ None
    → IsDraftOf (shapes ++ record { labels = names; insn = Some (template_data insn.template) } ∷ []) new
draft_insn shapes names line insn draft new at is room h pushed long labels none =
    let t : Template = template_data insn.template in
    let s : Shape = record { labels = names; insn = Some t } in
    let line_is : insn.line ≡ 1 + length shapes = omega (arith, at, is) in
    let T : LabelTable → Type 0 = λ table. IsTableOf (labels_from 0 (shapes ++ s ∷ [])) table in
    let L : List Label → Type 0 = λ ls. IsTableOf ls draft.labels in
    let E : Option ℕ → Type 0 = λ o. EndsLabels (shapes ++ s ∷ []) o in
    let N : List (List ℕ) → Type 0 = λ ns. Once ns in
    record {
      insns = ap (map unlinked_data) pushed ∙ (map-append unlinked_data draft.insns.items (insn ∷ [])
          ∙ (ap (λ l. l ++ unlinked_data insn ∷ []) (h.insns ∙ (numbered_append 1 shapes (label_shape names ∷ []) ∙ append-nil (numbered_templates 1 shapes)))
          ∙ (ap (λ n. numbered_templates 1 shapes ++ (t, n) ∷ []) line_is ∙ sym (numbered_append 1 shapes (s ∷ [])))));
      counted = omega (arith, long, h.counted, more_none shapes names, more_some shapes names t);
      labels = subst T (sym labels) (subst L (labels_more shapes (label_shape names) ∙ sym (labels_more shapes s)) h.labels);
      unfollowed = subst E (sym none) (ends_insn shapes names t);
      once = subst N (names_more shapes (label_shape names) ∙ sym (names_more shapes s)) h.once;
      size = omega (arith, more_some shapes names t, more_none shapes names, h.size, room, h.counted);
    }

-- a draft that is full
pub draft_full : (shapes : List Shape) (names : List (List ℕ)) (draft : Draft) → IsDraftOf (shapes ++ label_shape names ∷ []) draft
    → vec_len draft.insns ≡ MAX_INSNS → length (templates_of shapes) ≡ MAX_INSNS
draft_full shapes names draft h full = sym (h.counted ∙ more_none shapes names) ∙ full

-- a draft with an empty line more
pub draft_empty : (shapes : List Shape) (draft : Draft) → IsDraftOf shapes draft → IsDraftOf (shapes ++ label_shape [] ∷ []) draft
draft_empty shapes draft h =
    let L : List Label → Type 0 = λ ls. IsTableOf ls draft.labels in
    let N : List (List ℕ) → Type 0 = λ ns. Once ns in
    record {
      insns = h.insns ∙ (sym (append-nil (numbered_templates 1 shapes)) ∙ sym (numbered_append 1 shapes (label_shape [] ∷ [])));
      counted = h.counted ∙ sym (more_none shapes []);
      labels = subst L (sym (append-nil (labels_from 0 shapes)) ∙ sym (labels_more shapes (label_shape []))) h.labels;
      unfollowed = ends_empty shapes draft.unfollowed h.unfollowed;
      once = subst N (sym (append-nil (names_of shapes)) ∙ sym (names_more shapes (label_shape []))) h.once;
      size = omega (arith, more_none shapes [], h.size);
    }

-- whether an option is there
pub is_there : {X : Type 0} (o : Option X) → is_some o ≡ true → (x : X) × (o ≡ Some x)
is_there None e = cc
is_there (Some x) e = (x, refl)

pub is_absent : {X : Type 0} (o : Option X) → is_some o ≡ false → o ≡ None
is_absent None e = refl
is_absent (Some x) e = cc
