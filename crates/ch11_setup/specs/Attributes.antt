-- The attributes of a setup record (RCC 106-17 Chapter 9, TMATS): how they are written, and how a
-- reader finds them.
use Rattle.std.specs.Prelude.{ℕ, ◌≡◌, ◌<◌, ◌==◌, false, if◌then◌else◌, List, [], ◌∷◌, ◌++◌, length}
use Rattle.std.specs.Prelude.{Option, None, Some, option_and_then}
use Rattle.std.specs.Option.{option_map}
use Rattle.std.specs.List.{AllByRecursion}

-- an attribute: the bytes of its name and of its value
pub record AttributeData : Type 0 where
  pub name : List ℕ
  pub value : List ℕ

abbrev pub attribute_of : (name value : List ℕ) → AttributeData
attribute_of name value = record { name = name; value = value }

-- ---- how they are written

-- no byte is this one
abbrev pub Lacks : ℕ → List ℕ → Type 0
Lacks mark bytes = AllByRecursion (λ byte. (byte == mark) ≡ false) bytes

-- there is a name, which has no colon and no semicolon, and the value has no semicolon
pub record IsAttribute (attribute : AttributeData) : Type 0 where
  pub some : 0 < length attribute.name
  pub name : Lacks 58 attribute.name
  pub name_ends : Lacks 59 attribute.name
  pub value : Lacks 59 attribute.value

-- each of these is an attribute
abbrev pub AreAttributes : List AttributeData → Type 0
AreAttributes attributes = AllByRecursion IsAttribute attributes

-- a line: the name, a colon, the value, a semicolon, and CR LF
unfoldable pub attribute_line : AttributeData → List ℕ
attribute_line attribute =
    attribute.name ++ (58 ∷ (attribute.value ++ (59 ∷ 13 ∷ 10 ∷ [])))

-- the text of attributes, in order
abbrev pub attributes_text : List AttributeData → List ℕ
attributes_text [] = []
attributes_text (attribute ∷ attributes) = attribute_line attribute ++ attributes_text attributes

-- ---- how a reader finds them

-- what stands ahead of the first byte that is this one, and what stands behind it
abbrev pub cut_at : ℕ → List ℕ → Option (List ℕ × List ℕ)
cut_at mark [] = None
cut_at mark (byte ∷ bytes) =
    if byte == mark then Some ([], bytes)
    else option_map (λ parts. (byte ∷ parts.0, parts.1)) (cut_at mark bytes)

-- what follows the end of a line, if it stands first
abbrev pub behind_line_end : List ℕ → Option (List ℕ)
behind_line_end [] = None
behind_line_end (byte ∷ []) = None
behind_line_end (byte ∷ other ∷ bytes) =
    if byte == 13 then (if other == 10 then Some bytes else None) else None

-- the attribute that stands first, and what follows it: its name ends at the first colon, its value
-- at the first semicolon behind that, and its line there
abbrev pub first_attribute : List ℕ → Option (AttributeData × List ℕ)
first_attribute text =
    option_and_then
    (λ named. option_and_then
    (λ valued. option_map (λ rest. (attribute_of named.0 valued.0, rest))
    (behind_line_end valued.1))
    (cut_at 59 named.1))
    (cut_at 58 text)

-- the text is these attributes, one after the other
abbrev pub HoldsAttributes : List ℕ → List AttributeData → Type 0
HoldsAttributes text [] = text ≡ []
HoldsAttributes text (attribute ∷ attributes) =
    (rest : List ℕ) × (first_attribute text ≡ Some (attribute, rest))
    × HoldsAttributes rest attributes
