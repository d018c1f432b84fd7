-- Time packets stand ahead of what they tell the time of.
use Rattle.std.proofs.Common.{ℕ, ◌≡◌, ◌≤◌, ◌<◌, inl, inr, List, [], ◌∷◌, Some, None, sym, subst, arith}
use Rattle.std.specs.Prelude.{false, nat_lt}
use Rattle.std.specs.List.{AllByRecursion}
use Rattle.std.proofs.lemmas.Bool.{cases_Bool}
use Rattle.std.proofs.lemmas.Bool.Decides.{nat_tests}
use Rattle.ch11_packet.specs.FramesRead.{ReadFrameData}
use Rattle.ch11_merge.specs.Merging.{FilePiece, ChannelLeft, Merged, head_of, is_due, frames_before, part_before, TakesPart, Merges}
use Rattle.ch11_merge.specs.Merging.FilePiece.{OfFrames, OfRecord}
use Rattle.ch11_merge.specs.Merging.Merged.{OfTime, OfPiece}
use Rattle.ch11_merge.specs.Kept.{LiesBefore, times_in, TimesStandAhead}

pub weaker : {X : Type 0} (P Q : X → Type 0) → ((x : X) → P x → Q x) → (xs : List X) → AllByRecursion P xs → AllByRecursion Q xs
weaker P Q h [] all = tt
weaker P Q h (x ∷ xs) all = (h x all.0, weaker P Q h xs all.1)

-- no time packet comes before the next
times_from : (after : ℕ → ℕ) (tick : ℕ) (channels : List ChannelLeft) (out : List Merged) → ((time : ℕ) → time ≤ after time) → Merges after tick channels out
    → AllByRecursion (λ time. tick ≤ time) (times_in out)
times_from after tick channels [] rise m = tt
times_from after tick channels (OfTime time ∷ out) rise m =
    let e : time ≡ tick = m.0 in
    let next : tick ≤ after tick = rise tick in (
      omega (arith, e),
      weaker (λ t. after tick ≤ t) (λ t. tick ≤ t) (λ t h. omega (arith, next, h)) (times_in out)
          (times_from after (after tick) channels out rise m.2),
    )
times_from after tick channels (OfPiece channel piece ∷ out) rise m = times_from after tick m.0 out rise m.2

before_tick : (tick : ℕ) (frames : List ReadFrameData) → AllByRecursion (λ frame. frame.counter < tick) (frames_before tick frames)
before_tick tick [] = tt
before_tick tick (f ∷ fs) = elim (cases_Bool (nat_lt f.counter tick)) as (λ _. AllByRecursion (λ frame. frame.counter < tick) (frames_before tick (f ∷ fs))) [
  | inl on ↦ rw on (grind (arith, nat_tests), before_tick tick fs)
  | inr off ↦ rw off tt
]

part_lies : (tick : ℕ) (piece : FilePiece) (pieces : List FilePiece) → is_due tick (head_of (piece ∷ pieces)) ≡ false → LiesBefore (part_before tick piece) tick
part_lies tick (OfFrames place fs) pieces early = before_tick tick fs
part_lies tick (OfRecord place (Some c) body) pieces early = grind (arith, nat_tests)
part_lies tick (OfRecord place None body) pieces early = tt

pub taken_lies : (tick : ℕ) (old : List FilePiece) (taken : FilePiece) (new : List FilePiece) → is_due tick (head_of old) ≡ false → TakesPart tick old taken new
    → LiesBefore taken tick
taken_lies tick [] taken new early t = absurd t
taken_lies tick (p ∷ ps) taken new early t = subst (λ piece. LiesBefore piece tick) (sym t.0) (part_lies tick p ps early)

lies_later : (piece : FilePiece) (tick time : ℕ) → tick ≤ time → LiesBefore piece tick → LiesBefore piece time
lies_later (OfFrames place fs) tick time later lies = weaker (λ f. f.counter < tick) (λ f. f.counter < time) (λ f h. omega (arith, h, later)) fs lies
lies_later (OfRecord place (Some c) body) tick time later lies = omega (arith, lies, later)
lies_later (OfRecord place None body) tick time later lies = tt

pub times_ahead : (after : ℕ → ℕ) (tick : ℕ) (channels : List ChannelLeft) (out : List Merged) → ((time : ℕ) → time ≤ after time)
    → Merges after tick channels out → TimesStandAhead out
times_ahead after tick channels [] rise m = tt
times_ahead after tick channels (OfTime time ∷ out) rise m = times_ahead after (after tick) channels out rise m.2
times_ahead after tick channels (OfPiece channel piece ∷ out) rise m =
    let s = m.1 in
    let lies = taken_lies tick s.of.pieces piece s.rest s.early s.takes in (
      weaker (λ time. tick ≤ time) (LiesBefore piece) (λ time later. lies_later piece tick time later lies) (times_in out)
          (times_from after tick m.0 out rise m.2),
      times_ahead after tick m.0 out rise m.2,
    )
