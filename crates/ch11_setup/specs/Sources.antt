-- Which data sources a reader of a setup record finds.
use Rattle.std.specs.Prelude.{ℕ, ◌+◌, ◌==◌, ◌≡◌, ◌&&◌, Bool, true, false, List, [], ◌∷◌, ◌++◌, map}
use Rattle.std.specs.Prelude.{filter, drop, length}
use Rattle.std.specs.Prelude.{bytes_eq, codes, decimal}
use Rattle.std.specs.List.{AllByRecursion}
use Rattle.ch11_setup.specs.declared.setup.Setup.{Setup}
use Rattle.ch11_setup.specs.declared.setup.SetupChannel.{SetupChannel}
use Rattle.ch11_setup.specs.Attributes.{AttributeData}
use Rattle.ch11_setup.specs.Names.{cleaned, source_name}

-- ---- attributes by their names

-- bytes begin with these
abbrev pub has_front : (front text : List ℕ) → Bool
has_front [] text = true
has_front (byte ∷ front) [] = false
has_front (byte ∷ front) (other ∷ text) = (byte == other) && has_front front text

-- the name begins so; it is this one
abbrev pub begins_so : (front : List ℕ) → AttributeData → Bool
begins_so front attribute = has_front front attribute.name

abbrev pub is_named_so : (name : List ℕ) → AttributeData → Bool
is_named_so name attribute = bytes_eq attribute.name name

-- what stands behind a beginning in the names that begin so, each with its value
abbrev pub values_behind : (front : List ℕ) → List AttributeData → List (List ℕ × List ℕ)
values_behind front attributes =
    map (λ (a : AttributeData). (drop (length front) a.name, a.value))
    (filter (begins_so front) attributes)

-- the values of the attributes with a name
abbrev pub values_named : (name : List ℕ) → List AttributeData → List (List ℕ)
values_named name attributes =
    map (λ (a : AttributeData). a.value) (filter (is_named_so name) attributes)

-- none of the attributes is one of these
abbrev pub HasNoneOf : (AttributeData → Bool) → List AttributeData → Type 0
HasNoneOf is_one attributes = AllByRecursion (λ attribute. is_one attribute ≡ false) attributes

-- ---- data sources

-- the one network of the n-th data source
abbrev pub first_network : (n : ℕ) → List ℕ
first_network n = decimal n ++ codes "-1"

-- what is said of each of these channels, the n-th data source first, by what stands for its number
abbrev pub said_of_each : (number : ℕ → List ℕ) → (said : SetupChannel → List ℕ) → (n : ℕ)
    → List SetupChannel → List (List ℕ × List ℕ)
said_of_each number said n [] = []
said_of_each number said n (channel ∷ channels) =
    (number n, said channel) ∷ said_of_each number said (n + 1) channels

-- the first data source is the time channel, and from the second on they are the recording's
-- channels, in order: each with its number, its type, its name, and its network's number and name;
-- there are no others
pub record SaysSources (setup : Setup) (attributes : List AttributeData) : Type 0 where
  pub count : values_named (codes "R-1\\N") attributes ≡ decimal (length setup.channels.now + 1)
      ∷ []
  pub numbers : values_behind (codes "R-1\\TK1-") attributes
      ≡ (codes "1", decimal setup.time_channel)
      ∷ said_of_each decimal (λ c. decimal c.id) 2 setup.channels.now
  pub types : values_behind (codes "R-1\\CDT-") attributes
      ≡ (codes "1", codes "TIMEIN") ∷ said_of_each decimal (λ c. codes "ETHIN") 2 setup.channels.now
  pub names : values_behind (codes "R-1\\DSI-") attributes
      ≡ (codes "1", codes "TIME")
      ∷ said_of_each decimal (λ c. source_name c.name.now c.id) 2 setup.channels.now
  pub networks : values_behind (codes "R-1\\ENBR-") attributes
      ≡ said_of_each first_network (λ c. decimal c.net) 2 setup.channels.now
  pub network_names : values_behind (codes "R-1\\ENAM-") attributes
      ≡ said_of_each first_network (λ c. cleaned c.name.now) 2 setup.channels.now

-- no attribute has a name by which a reader finds data sources
pub record NamesNoSource (attributes : List AttributeData) : Type 0 where
  pub count : HasNoneOf (is_named_so (codes "R-1\\N")) attributes
  pub numbers : HasNoneOf (begins_so (codes "R-1\\TK1-")) attributes
  pub types : HasNoneOf (begins_so (codes "R-1\\CDT-")) attributes
  pub names : HasNoneOf (begins_so (codes "R-1\\DSI-")) attributes
  pub networks : HasNoneOf (begins_so (codes "R-1\\ENBR-")) attributes
  pub network_names : HasNoneOf (begins_so (codes "R-1\\ENAM-")) attributes
