-- Attributes that are written are read back, and a text holds one list of them.
use Rattle.std.proofs.Common.{ℕ, ◌≡◌, ◌==◌, true, List, [], ◌∷◌, ◌++◌, Some, refl, sym, ap}
use Rattle.std.proofs.Common.{subst, ◌∙◌, append_assoc, arith}
use Rattle.std.proofs.lemmas.Bool.Decides.{nat_tests}
use Rattle.std.proofs.lemmas.Option.{cond_some}
use Rattle.ch11_setup.specs.Attributes.{AttributeData, Lacks, IsAttribute, AreAttributes, attribute_line, attributes_text, cut_at}
use Rattle.ch11_setup.specs.Attributes.{first_attribute, HoldsAttributes}

cut_found : (mark : ℕ) (front rest : List ℕ) → Lacks mark front → cut_at mark (front ++ mark ∷ rest) ≡ Some (front, rest)
cut_found mark [] rest lacks = let same : (mark == mark) ≡ true = grind (arith, nat_tests) in rw same refl
cut_found mark (byte ∷ front) rest lacks = rw (lacks.0, cut_found mark front rest lacks.1) refl

first_found : (attribute : AttributeData) (rest : List ℕ) → IsAttribute attribute
    → first_attribute (attribute_line attribute ++ rest) ≡ Some (attribute, rest)
unfolding attribute_line
first_found attribute rest is =
    let value = attribute.value ++ (59 ∷ 13 ∷ 10 ∷ []) in
    let named : attribute_line attribute ++ rest ≡ attribute.name ++ 58 ∷ (value ++ rest) = append_assoc attribute.name (58 ∷ value) rest in
    let valued : value ++ rest ≡ attribute.value ++ 59 ∷ (13 ∷ 10 ∷ rest) = append_assoc attribute.value (59 ∷ 13 ∷ 10 ∷ []) rest in
    let one = cut_found 58 attribute.name (value ++ rest) is.name in
    let two = cut_found 59 attribute.value (13 ∷ 10 ∷ rest) is.value in
    ap first_attribute named ∙ step attribute (attribute.name ++ 58 ∷ (value ++ rest)) (value ++ rest) rest one (ap (cut_at 59) valued ∙ two)
  where
    step : (attribute : AttributeData) (text behind rest : List ℕ) → cut_at 58 text ≡ Some (attribute.name, behind)
        → cut_at 59 behind ≡ Some (attribute.value, 13 ∷ 10 ∷ rest)
        → first_attribute text ≡ Some (attribute, rest)
    step attribute text behind rest one two = rw (one, two) refl

pub read_back : (attributes : List AttributeData) → AreAttributes attributes → HoldsAttributes (attributes_text attributes) attributes
read_back [] are = refl
read_back (attribute ∷ attributes) are = (
  attributes_text attributes,
  first_found attribute (attributes_text attributes) are.0,
  read_back attributes are.1,
)

pub one_reading : (text : List ℕ) (attributes others : List AttributeData) → HoldsAttributes text attributes → HoldsAttributes text others
    → attributes ≡ others
one_reading text [] [] holds also = refl
one_reading text [] (other ∷ others) holds also = absurd (nothing other also.0 (subst (λ t. first_attribute t ≡ Some (other, also.0)) holds also.1))
  where
    nothing : (other : AttributeData) (rest : List ℕ) → first_attribute [] ≡ Some (other, rest) → ⊥
    nothing other rest e = cc
one_reading text (attribute ∷ attributes) [] holds also = absurd (nothing attribute holds.0
    (subst (λ t. first_attribute t ≡ Some (attribute, holds.0)) also holds.1))
  where
    nothing : (other : AttributeData) (rest : List ℕ) → first_attribute [] ≡ Some (other, rest) → ⊥
    nothing other rest e = cc
one_reading text (attribute ∷ attributes) (other ∷ others) holds also =
    let here : AttributeData × List ℕ = (attribute, holds.0) in
    let there : AttributeData × List ℕ = (other, also.0) in
    let both : here ≡ there = (cond_some true here there (sym holds.1 ∙ also.1)).1 in
    let first : attribute ≡ other = ap (λ (p : AttributeData × List ℕ). p.0) both in
    let rest : holds.0 ≡ also.0 = ap (λ (p : AttributeData × List ℕ). p.1) both in
    ap (λ a. a ∷ attributes) first ∙ ap (λ l. other ∷ l) (one_reading also.0 attributes others (subst (λ t. HoldsAttributes t attributes) rest holds.2)
    also.2)

pub text_append : (attributes others : List AttributeData) → attributes_text (attributes ++ others) ≡ attributes_text attributes ++ attributes_text others
text_append [] others = refl
text_append (attribute ∷ attributes) others =
    ap (λ l. attribute_line attribute ++ l) (text_append attributes others)
    ∙ sym (append_assoc (attribute_line attribute) (attributes_text attributes) (attributes_text others))
