-- The names of attributes that a setup record writes, so that no user may add one.
use Rattle.std.specs.Prelude.{ℕ, ◌-◌, ◌≡◌, ◌≢◌, ◌⊎◌, ◌&&◌, ◌||◌, ◌==◌, nat_le, not, Bool, false}
use Rattle.std.specs.Prelude.{if◌then◌else◌}
use Rattle.std.specs.Prelude.{List, [], ◌∷◌, ◌++◌, reverse, bytes_eq, codes}
use Rattle.std.specs.List.{list_any, starts_with, AllByRecursion}
use Rattle.ch11_setup.specs.declared.setup.Setup.{Setup}
use Rattle.ch11_setup.specs.Attributes.{AttributeData}
use Rattle.ch11_setup.specs.Names.{without_blanks}
use Rattle.ch11_setup.specs.Lines.{comment_attribute}
use Rattle.ch11_setup.specs.Setups.{recording_attributes, source_attributes}
use Rattle.rec_words.specs.Settings.{is_among}
use Rattle.rec_words.specs.Format.{IsOneOfNames}

-- ---- names

-- names that are written once
abbrev pub single_names : List (List ℕ)
single_names =
    codes "G\\PN" ∷ codes "G\\106" ∷ codes "G\\OD" ∷ codes "G\\DSI\\N" ∷ codes "G\\DSI-1"
    ∷ codes "G\\DST-1" ∷ codes "R-1\\ID" ∷ codes "R-1\\RID" ∷ codes "R-1\\R1" ∷ codes "R-1\\TC1"
    ∷ codes "R-1\\RI3" ∷ codes "R-1\\RI4" ∷ codes "R-1\\NSB" ∷ codes "R-1\\IDX\\E"
    ∷ codes "R-1\\IDX\\IT" ∷ codes "R-1\\IDX\\ICV" ∷ codes "R-1\\EV\\E" ∷ codes "R-1\\N"
    ∷ codes "R-1\\COM" ∷ []

-- with what names begin that are written for a channel or its network, as `R-1\TK1-` of `R-1\TK1-2`
abbrev pub channel_beginnings : List (List ℕ)
channel_beginnings =
    codes "R-1\\TK1-" ∷ codes "R-1\\TK4-" ∷ codes "R-1\\CHE-" ∷ codes "R-1\\DSI-"
    ∷ codes "R-1\\CDT-" ∷ codes "R-1\\TTF-" ∷ codes "R-1\\TFMT-" ∷ codes "R-1\\TSRC-"
    ∷ codes "R-1\\ENTF-" ∷ codes "R-1\\NNET-" ∷ codes "R-1\\ENBR-" ∷ codes "R-1\\ENAM-" ∷ []

-- the name of the test, which a user may say
abbrev pub test_attribute : List ℕ
test_attribute = codes "G\\PN"

-- ---- how a reader may take a name

-- a decimal digit
abbrev pub is_decimal_digit : ℕ → Bool
is_decimal_digit byte = nat_le 48 byte && nat_le byte 57

-- a letter as a capital
abbrev pub capital : ℕ → ℕ
capital byte = if nat_le 97 byte && nat_le byte 122 then byte - 32 else byte

-- whether a digit stands first
abbrev pub starts_with_digit : List ℕ → Bool
starts_with_digit [] = false
starts_with_digit (byte ∷ bytes) = is_decimal_digit byte

-- whether this byte is a zero ahead of a number: no digit stands before it, and one behind it
abbrev pub is_leading_zero : (within : Bool) → (byte : ℕ) → (bytes : List ℕ) → Bool
is_leading_zero within byte bytes = byte == 48 && (not within && starts_with_digit bytes)

-- in capitals and without zeros ahead of numbers; `within` says whether a digit stands before
abbrev pub plain_form : (within : Bool) → List ℕ → List ℕ
plain_form within [] = []
plain_form within (byte ∷ bytes) =
    if is_leading_zero within byte bytes then plain_form false bytes
    else capital byte ∷ plain_form (is_decimal_digit byte) bytes

-- the same of a name, without the blanks ahead
abbrev pub plain_name : List ℕ → List ℕ
plain_name name = plain_form false (without_blanks name)

-- without the blanks behind
abbrev pub without_last_blanks : List ℕ → List ℕ
without_last_blanks name = reverse (without_blanks (reverse name))

-- ---- what they are

-- a reader may take the name for one that a setup record writes once, or for one of a channel's: so
-- that of the test too, but where it is written as it is
pub record IsReserved (name : List ℕ) : Type 0 where
  pub other : name ≢ test_attribute
  pub taken : IsOneOfNames single_names (without_last_blanks (plain_name name))
      ⊎ ((beginning rest : List ℕ) × IsOneOfNames channel_beginnings beginning
      × (plain_name name ≡ beginning ++ rest))

-- ---- how they are found

abbrev pub begins_as_one : List ℕ → (beginnings : List (List ℕ)) → Bool
begins_as_one name beginnings =
    list_any (λ beginning. starts_with (λ x y. x == y) name beginning) beginnings

abbrev pub is_taken : List ℕ → Bool
is_taken name =
    begins_as_one name channel_beginnings || is_among single_names (without_last_blanks name)

abbrev pub is_reserved : List ℕ → Bool
is_reserved name = not (bytes_eq name test_attribute) && is_taken (plain_name name)

-- ---- what a setup record writes

-- the attributes of a setup record that no user adds
abbrev pub own_attributes : Setup → List AttributeData
own_attributes setup =
    recording_attributes setup ++ (source_attributes setup ++ (comment_attribute ∷ []))

-- each has a reserved name, or is the name of the test
abbrev pub AreReserved : List AttributeData → Type 0
AreReserved attributes =
    AllByRecursion (λ attribute. IsReserved attribute.name
    ⊎ (attribute.name ≡ test_attribute)) attributes
