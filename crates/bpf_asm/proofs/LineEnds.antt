-- Where a line ends.
use Rattle.std.proofs.Common.{ℕ, ◌≡◌, ◌⊎◌, inl, inr, true, false, List, [], ◌∷◌, refl, ap, if◌then◌else◌}
use Rattle.std.specs.List.{before_first}
use Rattle.std.proofs.lemmas.Bool.{cases_Bool}
use Rattle.bpf_asm.specs.Blanked.{is_line_feed, lines_of}
use Rattle.bpf_asm.proofs.Lexemes.{take_more}

-- the lines after the first
abbrev pub later_lines : List ℕ → List (List ℕ)
later_lines [] = []
later_lines (b ∷ bs) = if is_line_feed b then lines_of bs else later_lines bs

split_cons : (b : ℕ) (bs : List ℕ) → lines_of bs ≡ before_first is_line_feed bs ∷ later_lines bs → (is_line_feed b ≡ true) ⊎ (is_line_feed b ≡ false)
    → lines_of (b ∷ bs) ≡ before_first is_line_feed (b ∷ bs) ∷ later_lines (b ∷ bs)
split_cons b bs rest (inl e) = rw e refl
split_cons b bs rest (inr e) = rw e (rw (rest, take_more) refl)

-- the lines are the first one and the later ones
pub lines_split : (bs : List ℕ) → lines_of bs ≡ before_first is_line_feed bs ∷ later_lines bs
lines_split [] = refl
lines_split (b ∷ bs) = split_cons b bs (lines_split bs) (cases_Bool (is_line_feed b))

pub at_line_feed : (b : ℕ) (bs : List ℕ) → b ≡ 10 → later_lines (b ∷ bs) ≡ lines_of bs
at_line_feed b bs e = ap (λ c. later_lines (c ∷ bs)) e
