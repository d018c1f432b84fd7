-- What a channel whose counters never fall has behind time packets.
use Rattle.std.proofs.Common.{ℕ, ◌≡◌, ◌≢◌, ◌≤◌, inl, inr, List, [], ◌∷◌, ◌++◌, Some, None, refl, sym, ◌∙◌, ap, subst, arith}
use Rattle.std.specs.Prelude.{true, false, slice_get, slice_set}
use Rattle.std.specs.List.{AllByRecursion, flat_map}
use Rattle.std.proofs.lemmas.Bool.{cases_eq, true≢false}
use Rattle.std.proofs.lemmas.Bool.Decides.{nat_tests}
use Rattle.std.proofs.lemmas.Option.{same_Some}
use Rattle.ch11_packet.specs.FramesRead.{ReadFrameData}
use Rattle.ch11_merge.specs.declared.source.Head.{Head}
use Rattle.ch11_merge.specs.declared.source.Head.TheVariants.{At, Uncounted, End}
use Rattle.ch11_merge.specs.Merging.{FilePiece, ChannelLeft, Merged, Merges, TakesPart, channel_with, frames_from, head_of, is_ahead, is_due}
use Rattle.ch11_merge.specs.Merging.{part_from, piece_of}
use Rattle.ch11_merge.specs.Merging.FilePiece.{OfFrames, OfRecord}
use Rattle.ch11_merge.specs.Merging.Merged.{OfTime, OfPiece}
use Rattle.ch11_merge.specs.Kept.{Held, held_in, held_of, AreNamedApart, HasNoCounter, IsSteady, LieBehindTimes, LiesFrom, NeverStepBack}
use Rattle.ch11_merge.specs.Kept.Held.{HeldFrame, HeldRecord}
use Rattle.ch11_packet.proofs.ChangedLists.{all_there, set_there, set_elsewhere}
use Rattle.ch11_merge.proofs.Merged.{apart_with, kept, takes_held}
use Rattle.ch11_merge.proofs.TimesAhead.{weaker}

-- ---- from the next piece on

no_counter_lies : (tick : ℕ) (held : Held) → HasNoCounter held → LiesFrom tick held
no_counter_lies tick (HeldFrame frame) none = absurd none
no_counter_lies tick (HeldRecord (Some counter) body) none = absurd none
no_counter_lies tick (HeldRecord None body) none = tt

lies_earlier : (tick later : ℕ) (held : Held) → tick ≤ later → LiesFrom later held → LiesFrom tick held
lies_earlier tick later (HeldFrame frame) le lies = omega (arith, le, lies)
lies_earlier tick later (HeldRecord (Some counter) body) le lies = omega (arith, le, lies)
lies_earlier tick later (HeldRecord None body) le lies = tt

-- a head that isn't before a tick
abbrev pub IsFrom : (tick : ℕ) → Head → Type 0
IsFrom tick (At counter) = tick ≤ counter
IsFrom tick Uncounted = Unit {0}
IsFrom tick End = Unit {0}

all_from : (tick : ℕ) (pieces : List FilePiece) → IsSteady pieces → IsFrom tick (head_of pieces) → AllByRecursion (LiesFrom tick) (flat_map held_in pieces)
all_from tick [] steady from = tt
all_from tick (OfFrames place [] ∷ pieces) steady from = absurd (steady.some.0 refl)
all_from tick (OfFrames place (frame ∷ frames) ∷ pieces) steady from =
    (from, weaker (LiesFrom frame.counter) (LiesFrom tick) (λ held lies. lies_earlier tick frame.counter held from lies) _ steady.rises.0)
all_from tick (OfRecord place (Some counter) body ∷ pieces) steady from =
    (from, weaker (LiesFrom counter) (LiesFrom tick) (λ held lies. lies_earlier tick counter held from lies) _ steady.rises.0)
all_from tick (OfRecord place None body ∷ pieces) steady from =
    (tt, weaker HasNoCounter (LiesFrom tick) (no_counter_lies tick) _ steady.rises.0)

-- no channel's next piece lies before the tick of a time packet that is due
head_from : (tick : ℕ) (due mine : Head) (other channel : ℕ) → is_due tick due ≡ true → is_ahead mine channel due other ≡ false → IsFrom tick mine
head_from tick (At counter) (At mine) other channel on off = grind (arith, nat_tests)
head_from tick due Uncounted other channel on off = tt
head_from tick due End other channel on off = tt
head_from tick Uncounted (At mine) other channel on off = absurd (true≢false (sym on))
head_from tick End (At mine) other channel on off = absurd (true≢false (sym on))

-- ---- behind a piece

rises_behind : (ahead rest : List Held) → NeverStepBack (ahead ++ rest) → NeverStepBack rest
rises_behind [] rest rises = rises
rises_behind (held ∷ ahead) rest rises = rises_behind ahead rest rises.1

all_append : {X : Type 0} (P : X → Type 0) (xs ys : List X) → AllByRecursion P xs → AllByRecursion P ys → AllByRecursion P (xs ++ ys)
all_append P [] ys all more = more
all_append P (x ∷ xs) ys all more = (all.0, all_append P xs ys all.1 more)

piece_some : (place : ℕ) (frames : List ReadFrameData) → AllByRecursion (λ piece. held_in piece ≢ []) (piece_of place frames)
piece_some place [] = tt
piece_some place (frame ∷ frames) = ((λ e. cc), tt)

part_some : (tick : ℕ) (piece : FilePiece) → AllByRecursion (λ piece. held_in piece ≢ []) (part_from tick piece)
part_some tick (OfFrames place frames) = piece_some place (frames_from tick frames)
part_some tick (OfRecord place counter body) = tt

steady_behind : (tick : ℕ) (old : List FilePiece) (taken : FilePiece) (new : List FilePiece) → TakesPart tick old taken new → IsSteady old → IsSteady new
steady_behind tick [] taken new takes steady = absurd takes
steady_behind tick (piece ∷ pieces) taken new takes steady = record {
  some = subst (λ (ps : List FilePiece). AllByRecursion (λ piece. held_in piece ≢ []) ps) (sym takes.1)
      (all_append (λ (p : FilePiece). held_in p ≢ []) (part_from tick piece) pieces (part_some tick piece) steady.some.1);
  rises = rises_behind (held_in taken) (flat_map held_in new)
      (subst NeverStepBack (sym (takes_held tick (piece ∷ pieces) taken new takes)) steady.rises);
}

-- ---- the merge

pub times_behind : (after : ℕ → ℕ) (tick : ℕ) (channels : List ChannelLeft) (out : List Merged) → AreNamedApart channels → Merges after tick channels out
    → (k : ℕ) (c : ChannelLeft) → slice_get channels k ≡ Some c → IsSteady c.pieces → LieBehindTimes c.channel out
times_behind after tick channels [] apart m k c is steady = tt
times_behind after tick channels (OfTime time ∷ out) apart m k c is steady =
    let next = m.1 in
    let behind = all_there (λ (d : ChannelLeft). is_ahead (head_of d.pieces) d.channel (head_of next.of.pieces) next.of.channel ≡ false) channels k c
    next.is_next.least is in
    let from = head_from tick (head_of next.of.pieces) (head_of c.pieces) next.of.channel c.channel next.due behind in
    let held = kept after (after tick) channels out apart m.2 k c is in (
      subst (λ (t : ℕ). AllByRecursion (LiesFrom t) (held_of c.channel out)) (sym m.0)
          (subst (λ (hs : List Held). AllByRecursion (LiesFrom tick) hs) (sym held) (all_from tick c.pieces steady from)),
      times_behind after (after tick) channels out apart m.2 k c is steady,
    )
times_behind after tick channels (OfPiece channel piece ∷ out) apart m k c is steady =
    let s = m.1 in
    let left = channel_with channel s.rest in
    let still = apart_with channels s.at channel s.of s.rest apart s.is_next.there s.named in
    let more = subst (λ (new : List ChannelLeft). Merges after tick new out) s.others m.2 in
    elim (cases_eq k s.at) as (λ _. LieBehindTimes c.channel out) [
      | inl here ↦
          let same : s.of ≡ c = same_Some s.of c (sym s.is_next.there ∙ (ap (slice_get channels) (sym here) ∙ is)) in
          let id : channel ≡ c.channel = sym s.named ∙ ap (λ (x : ChannelLeft). x.channel) same in
          let rest = steady_behind tick s.of.pieces piece s.rest s.takes (subst (λ (x : ChannelLeft). IsSteady x.pieces) (sym same) steady) in
          subst (λ (n : ℕ). LieBehindTimes n out) id
          (times_behind after tick (slice_set channels s.at left) out still more s.at left (set_there channels s.at s.of left s.is_next.there) rest)
      | inr away ↦
          times_behind after tick (slice_set channels s.at left) out still more k c (set_elsewhere channels s.at k c left is away) steady
    ]
