-- A text once its comments are blanks, and its lines. a semicolon begins a comment that runs to the
-- end of its line; a slash and a star begin one that runs to the next star and slash, over lines
-- too; neither begins a comment inside the other (the assembler's input of the Linux kernel's
-- networking documentation, "Linux Socket Filtering")
use Rattle.std.specs.Prelude.{ℕ, ◌+◌, ◌-◌, Bool, ◌==◌, nat_eq, codes, if◌then◌else◌, List, [], ◌∷◌}
use Rattle.std.specs.Prelude.{length, drop, Option, None, Some}
use Rattle.std.specs.Option.{option_map}
use Rattle.std.specs.List.{position_or_len, starts_with}

abbrev pub is_line_feed : ℕ → Bool
is_line_feed b = b == 10

-- what a byte of a comment counts as: a line feed ends its line there too, and each other byte is a
-- space
abbrev pub blank_of : ℕ → ℕ
blank_of b = if is_line_feed b then 10 else 32

abbrev pub begins_with : List ℕ → List ℕ → Bool
begins_with bs text = starts_with nat_eq bs text

-- how many bytes there are to the first star and slash, with these two; None where there is no star
-- and slash
abbrev pub closing_len : List ℕ → Option ℕ
closing_len [] = None
closing_len (b ∷ bs) =
    if begins_with (b ∷ bs) (codes "*/") then Some 2 else
    option_map (λ n. n + 1) (closing_len bs)

-- a byte outside comments: what it counts as, and how many of the bytes after it belong to a
-- comment that it begins
pub record OutsideByte : Type 0 where
  pub byte : ℕ
  pub commented : ℕ

-- a slash, by where the comment ends that it begins with the first of these bytes; where the
-- comment has no end the slash stays, and it is no byte that a line may have
abbrev pub slash_byte : List ℕ → Option ℕ → OutsideByte
slash_byte bs (Some n) = record { byte = 32; commented = 1 + n }
slash_byte bs None = record { byte = 47; commented = length bs }

-- a byte outside comments, before these bytes
abbrev pub outside_byte : ℕ → List ℕ → OutsideByte
outside_byte b bs =
    if b == 59 then record { byte = 32; commented = position_or_len is_line_feed bs } else
    if begins_with (b ∷ bs) (codes "/*") then slash_byte bs (closing_len (drop 1 bs)) else
    record { byte = b; commented = 0 }

-- bytes, the first of which, this many, belong to a comment
abbrev pub without_comments_from : ℕ → List ℕ → List ℕ
without_comments_from commented [] = []
without_comments_from commented (b ∷ bs) =
    if commented == 0 then
    (outside_byte b bs).byte ∷ without_comments_from (outside_byte b bs).commented bs
    else
    blank_of b ∷ without_comments_from (commented - 1) bs

-- a text once its comments are blanks
abbrev pub without_comments : List ℕ → List ℕ
without_comments text = without_comments_from 0 text

-- the lines, where the first has one more byte in front
abbrev pub with_first_byte : ℕ → List (List ℕ) → List (List ℕ)
with_first_byte b [] = (b ∷ []) ∷ []
with_first_byte b (line ∷ lines) = (b ∷ line) ∷ lines

-- the lines, which line feeds separate
abbrev pub lines_of : List ℕ → List (List ℕ)
lines_of [] = [] ∷ []
lines_of (b ∷ bs) = if is_line_feed b then [] ∷ lines_of bs else with_first_byte b (lines_of bs)
