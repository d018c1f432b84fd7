-- The first frames of a source with time marks among them, before and after it gave something.
use Rattle.std.proofs.Common.{◌≡◌, ℕ, suc, ◌+◌, true, false, ltb, List, [], ◌∷◌, length, take, map, Option, None, Some, IfSome}
use Rattle.std.proofs.Common.{inl, inr, refl, sym, ap, ◌∙◌, arith}
use Rattle.std.specs.List.{filter}
use Rattle.std.specs.Option.{option_map}
use Rattle.std.proofs.lemmas.Bool.{lt-ltb, le-ltb, cases_lt, cases_Bool}
use Rattle.eth_frame.specs.Frame.{FrameData}
use Rattle.eth_frame.specs.Source.{Left, TimeMark, later_by, no_frames, with_first_frame, GivesFirst, GivesTime}
use Rattle.eth_frame.specs.declared.source.SourceEnding.{SourceEnding}
use Rattle.eth_frame.specs.declared.source.SourceEnding.TheVariants.{End}
use Rattle.cli_record_streams.specs.Closing.{at_most, closed_as}

-- one frame later, one more frame is allowed
later_same : (max : ℕ) (mark : TimeMark) → ltb (later_by 1 mark).after (max + 1) ≡ ltb mark.after max
later_same max mark = elim (cases_lt mark.after max) [
  | inl before ↦ lt-ltb _ _ (omega (arith, before)) ∙ sym (lt-ltb _ _ before)
  | inr after ↦ le-ltb _ _ (omega (arith, after)) ∙ sym (le-ltb _ _ after)
]

longer_same : (frame : FrameData) (frames : List FrameData) (max : ℕ) → ltb (length (frame ∷ frames)) (max + 1) ≡ ltb (length frames) max
longer_same frame frames max = elim (cases_lt (length frames) max) [
  | inl before ↦ lt-ltb _ _ (omega (arith, before)) ∙ sym (lt-ltb _ _ before)
  | inr after ↦ le-ltb _ _ (omega (arith, after)) ∙ sym (le-ltb _ _ after)
]

filtered : (max : ℕ) (marks : List TimeMark)
    → filter (λ (m : TimeMark). ltb m.after (max + 1)) (map (later_by 1) marks) ≡ map (later_by 1) (filter (λ (m : TimeMark). ltb m.after max) marks)
filtered max [] = refl
filtered max (m ∷ ms) = elim (cases_Bool (ltb m.after max)) as
    (λ _. filter (λ (m : TimeMark). ltb m.after (max + 1)) (map (later_by 1) (m ∷ ms))
    ≡ map (later_by 1) (filter (λ (m : TimeMark). ltb m.after max) (m ∷ ms))) [
      | inl on ↦ rw (later_same max m ∙ on, on) (ap (λ l. later_by 1 m ∷ l) (filtered max ms))
      | inr off ↦ rw (later_same max m ∙ off, off) (filtered max ms)
    ]

none_before : (marks : List TimeMark) → filter (λ (m : TimeMark). ltb m.after 0) marks ≡ []
none_before [] = refl
none_before (m ∷ ms) =
    let no : ltb m.after 0 ≡ false = le-ltb _ _ (omega arith) in
    rw no (none_before ms)

-- the first of the frames that are left is one of those that are allowed
at_most_first : (frame : FrameData) (rest : Left) (further : ℕ)
    → at_most (further + 1) (with_first_frame frame rest) ≡ with_first_frame frame (at_most further rest)
at_most_first frame rest further =
    let more : further + 1 ≡ suc further = omega arith in
    let a : take (further + 1) (frame ∷ rest.frames) ≡ frame ∷ take further rest.frames = ap (λ n. take n (frame ∷ rest.frames)) more in
    let b = filtered further rest.times in
    let c = longer_same frame rest.frames further in
    rw (a, b, c) refl

pub first_on : (old new : Option Left) (held : Option FrameData) (further rest : ℕ) → further ≡ rest + 1 → GivesFirst old held new
    → GivesFirst (option_map (at_most (further + 1)) old) held (option_map (at_most (rest + 1)) new)
first_on None new held further rest e gives = tt
first_on (Some left) new None further rest e gives = absurd gives
first_on (Some left) None (Some frame) further rest e gives = absurd gives
first_on (Some left) (Some after) (Some frame) further rest e gives =
    ap (λ n. at_most (n + 1) left) e ∙ ap (at_most (rest + 1 + 1)) gives ∙ at_most_first frame after (rest + 1)

-- and the last one that is allowed
at_most_none : (rest : Left) → at_most 0 rest ≡ no_frames End
at_most_none rest =
    let over : ltb (length rest.frames) 0 ≡ false = le-ltb _ _ (omega arith) in
    rw (none_before rest.times, over) refl

pub first_last : (old new : Option Left) (held : Option FrameData) (further : ℕ) (ending : Option SourceEnding)
    → further ≡ 0 → ending ≡ None → GivesFirst old held new
    → GivesFirst (option_map (at_most (further + 1)) old) held (Some (no_frames (closed_as ending)))
first_last None new held further ending e none gives = tt
first_last (Some left) new None further ending e none gives = absurd gives
first_last (Some left) None (Some frame) further ending e none gives = absurd gives
first_last (Some left) (Some after) (Some frame) further ending e none gives =
    ap (λ n. at_most (n + 1) left) e ∙ ap (at_most 1) gives ∙ at_most_first frame after 0
    ∙ ap (with_first_frame frame) (at_most_none after)
    ∙ ap (λ o. with_first_frame frame (no_frames (closed_as o))) (sym none)

-- no frame is allowed
pub none_of : (left : Option Left) (max : ℕ) → max ≡ 0 → IfSome left (λ l. Some (no_frames End) ≡ Some (at_most max l))
none_of None max e = tt
none_of (Some left) max e = ap Some (sym (at_most_none left) ∙ ap (λ n. at_most n left) (sym e))

-- a time mark is no frame
pub time_on : (old new : Option Left) (counter further : ℕ) → GivesTime old counter new
    → GivesTime (option_map (at_most (further + 1)) old) counter (option_map (at_most (further + 1)) new)
time_on None new counter further gives = tt
time_on (Some left) None counter further gives = absurd gives
time_on (Some left) (Some after) counter further gives =
    let some : ltb 0 (further + 1) ≡ true = lt-ltb _ _ (omega arith) in
    ap (at_most (further + 1)) gives ∙ rw some refl
