-- A list in parts, one after the other: a part goes on as long as a test of the part so far and the
-- next element says so. No part is empty where the test holds of no elements and each next one.
use Rattle.std.specs.Prelude.{◌≡◌, Bool, if◌then◌else◌, List, [], ◌∷◌, ◌++◌}

module _ {X : Type 0} (goes_on : List X → X → Bool) where
  -- the parts that are ended, if `part` came before these elements
  abbrev pub ended_from : List X → List X → List (List X)
  ended_from part [] = []
  ended_from part (x ∷ xs) =
      if goes_on part x then ended_from (part ++ x ∷ []) xs else part ∷ ended_from (x ∷ []) xs

  -- the last part, which may go on
  abbrev pub last_from : List X → List X → List X
  last_from part [] = part
  last_from part (x ∷ xs) =
      if goes_on part x then last_from (part ++ x ∷ []) xs else last_from (x ∷ []) xs

  abbrev pub ended_parts : List X → List (List X)
  ended_parts xs = ended_from [] xs

  abbrev pub last_part : List X → List X
  last_part xs = last_from [] xs

-- a list as one part, or as none if it is empty
abbrev pub as_part : {X : Type 0} → List X → List (List X)
as_part [] = []
as_part (x ∷ xs) = (x ∷ xs) ∷ []

-- all parts
abbrev pub parts : {X : Type 0} → (List X → X → Bool) → List X → List (List X)
parts goes_on xs = ended_parts goes_on xs ++ as_part (last_part goes_on xs)

-- the second list begins with the first
abbrev pub BeginsList : {X : Type 0} → List X → List X → Type 0
BeginsList {X} xs ys = (rest : List X) × (xs ++ rest ≡ ys)
