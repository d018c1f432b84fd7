-- A merge keeps what each channel holds, and one channel has its next piece.
use Rattle.std.proofs.Common.{ℕ, ◌≡◌, ◌≢◌, inl, inr, List, [], ◌∷◌, ◌++◌, map, refl, sym, ◌∙◌, ap, subst, arith, Some, None, append_assoc, append-nil}
use Rattle.std.specs.Prelude.{false, nat_lt, slice_get, slice_set}
use Rattle.std.specs.List.{flat_map}
use Rattle.std.proofs.lemmas.Bool.{cases_Bool, true≢false, cases_eq, eq-eqb, ne_eqb}
use Rattle.std.proofs.lemmas.Bool.Decides.{nat_tests}
use Rattle.std.proofs.lemmas.List.{map-append}
use Rattle.std.proofs.lemmas.Grind.{flat_map-append}
use Rattle.std.proofs.lemmas.Option.{same_Some}
use Rattle.ch11_packet.specs.FramesRead.{ReadFrameData}
use Rattle.ch11_merge.specs.declared.source.Head.{Head}
use Rattle.ch11_merge.specs.declared.source.Head.TheVariants.{At, Uncounted, End}
use Rattle.ch11_merge.specs.Merging.{FilePiece, ChannelLeft, Merged, head_of, is_ahead, IsNextAt}
use Rattle.ch11_merge.specs.Merging.{frames_before, frames_from, piece_of, part_before, part_from, TakesPart, channel_with}
use Rattle.ch11_merge.specs.Merging.{Merges}
use Rattle.ch11_merge.specs.Merging.FilePiece.{OfFrames, OfRecord}
use Rattle.ch11_merge.specs.Merging.Merged.{OfTime, OfPiece}
use Rattle.ch11_merge.specs.Kept.{Held, held_in, held_of, AreNamedApart}
use Rattle.ch11_merge.specs.Kept.Held.{HeldFrame}
use Rattle.ch11_packet.proofs.ChangedLists.{all_there, set_there, set_elsewhere, set_cases}

-- ---- kept

frames_split : (tick : ℕ) (frames : List ReadFrameData) → frames_before tick frames ++ frames_from tick frames ≡ frames
frames_split tick [] = refl
frames_split tick (f ∷ fs) = elim (cases_Bool (nat_lt f.counter tick)) as (λ _. frames_before tick (f ∷ fs) ++ frames_from tick (f ∷ fs) ≡ f ∷ fs) [
  | inl on ↦ rw on (ap (λ (xs : List ReadFrameData). f ∷ xs) (frames_split tick fs))
  | inr off ↦ rw off refl
]

piece_held : (place : ℕ) (frames : List ReadFrameData) → flat_map held_in (piece_of place frames) ≡ map HeldFrame frames
piece_held place [] = refl
piece_held place (f ∷ fs) = rw append-nil refl

part_held : (tick : ℕ) (piece : FilePiece) → held_in (part_before tick piece) ++ flat_map held_in (part_from tick piece) ≡ held_in piece
part_held tick (OfFrames place fs) =
    ap (λ (hs : List Held). map HeldFrame (frames_before tick fs) ++ hs) (piece_held place (frames_from tick fs))
    ∙ sym (map-append HeldFrame (frames_before tick fs) (frames_from tick fs)) ∙ ap (map HeldFrame) (frames_split tick fs)
part_held tick (OfRecord place counter body) = refl

pub takes_held : (tick : ℕ) (old : List FilePiece) (taken : FilePiece) (new : List FilePiece) → TakesPart tick old taken new
    → held_in taken ++ flat_map held_in new ≡ flat_map held_in old
takes_held tick [] taken new t = absurd t
takes_held tick (p ∷ ps) taken new t =
    rw (t.0, t.1, flat_map-append held_in (part_from tick p) ps, ← append_assoc, part_held tick p) refl

-- a channel's ID stays
pub apart_with : (channels : List ChannelLeft) (at channel : ℕ) (of : ChannelLeft) (rest : List FilePiece) → AreNamedApart channels
    → slice_get channels at ≡ Some of → of.channel ≡ channel → AreNamedApart (slice_set channels at (channel_with channel rest))
apart_with channels at channel of rest apart there named k j c d is other same =
    elim (set_cases channels at (channel_with channel rest) k c is) as (λ _. k ≡ j) [
      | inl here ↦ elim (set_cases channels at (channel_with channel rest) j d other) as (λ _. k ≡ j) [
        | inl too ↦ here.0 ∙ sym too.0
        | inr away ↦ here.0 ∙ apart at j of d there away.1 (named ∙ (sym (ap (λ (x : ChannelLeft). x.channel) here.1) ∙ same))
      ]
      | inr away ↦ elim (set_cases channels at (channel_with channel rest) j d other) as (λ _. k ≡ j) [
        | inl too ↦ apart k at c of away.1 there (same ∙ (ap (λ (x : ChannelLeft). x.channel) too.1 ∙ sym named)) ∙ sym too.0
        | inr both ↦ apart k j c d away.1 both.1 same
      ]
    ]

pub kept : (after : ℕ → ℕ) (tick : ℕ) (channels : List ChannelLeft) (out : List Merged) → AreNamedApart channels → Merges after tick channels out
    → (k : ℕ) (c : ChannelLeft) → slice_get channels k ≡ Some c → held_of c.channel out ≡ flat_map held_in c.pieces
kept after tick channels [] apart m k c is = rw (all_there (λ (d : ChannelLeft). d.pieces ≡ []) channels k c m is) refl
kept after tick channels (OfTime time ∷ out) apart m k c is = kept after (after tick) channels out apart m.2 k c is
kept after tick channels (OfPiece channel piece ∷ out) apart m k c is =
    let s = m.1 in
    let still = apart_with channels s.at channel s.of s.rest apart s.is_next.there s.named in
    let more = subst (λ (new : List ChannelLeft). Merges after tick new out) s.others m.2 in
    elim (cases_eq k s.at) as (λ _. held_of c.channel (OfPiece channel piece ∷ out) ≡ flat_map held_in c.pieces) [
      | inl here ↦
          let same : s.of ≡ c = same_Some s.of c (sym s.is_next.there ∙ (ap (slice_get channels) (sym here) ∙ is)) in
          let id : channel ≡ c.channel = sym s.named ∙ ap (λ (x : ChannelLeft). x.channel) same in
          let rest = kept after tick (slice_set channels s.at (channel_with channel s.rest)) out still more s.at (channel_with channel s.rest)
          (set_there channels s.at s.of (channel_with channel s.rest) s.is_next.there) in
          let held = takes_held tick s.of.pieces piece s.rest s.takes in
          rw (eq-eqb channel c.channel id) (ap (λ (n : ℕ). held_in piece ++ held_of n out) (sym id) ∙ (ap (λ (hs : List Held). held_in piece ++ hs) rest
          ∙ (held ∙ ap (λ (x : ChannelLeft). flat_map held_in x.pieces) same)))
      | inr away ↦
          let other : channel ≢ c.channel = λ (e : channel ≡ c.channel). away (sym (apart s.at k s.of c s.is_next.there is (s.named ∙ e))) in
          rw (ne_eqb channel c.channel other) (kept after tick (slice_set channels s.at (channel_with channel s.rest)) out still more k c
          (set_elsewhere channels s.at k c (channel_with channel s.rest) is away))
    ]

-- what is left of other channels names this one nowhere
abbrev pub HasNo : (channel : ℕ) → List ChannelLeft → Type 0
HasNo channel channels = (k : ℕ) (c : ChannelLeft) → slice_get channels k ≡ Some c → c.channel ≢ channel

pub none_else : (after : ℕ → ℕ) (tick : ℕ) (channels : List ChannelLeft) (out : List Merged) (channel : ℕ) → HasNo channel channels
    → Merges after tick channels out → held_of channel out ≡ []
none_else after tick channels [] channel none m = refl
none_else after tick channels (OfTime time ∷ out) channel none m = none_else after (after tick) channels out channel none m.2
none_else after tick channels (OfPiece other piece ∷ out) channel none m =
    let s = m.1 in
    let left = channel_with other s.rest in
    let off : other ≢ channel = λ (e : other ≡ channel). none s.at s.of s.is_next.there (s.named ∙ e) in
    let still : HasNo channel (slice_set channels s.at left) = λ k c is. elim (set_cases channels s.at left k c is) as (λ _. c.channel ≢ channel) [
      | inl here ↦ (λ e. off (sym (ap (λ (x : ChannelLeft). x.channel) here.1) ∙ e))
      | inr away ↦ none k c away.1
    ] in
    let more = subst (λ (new : List ChannelLeft). Merges after tick new out) s.others m.2 in
    rw (ne_eqb other channel off) (none_else after tick (slice_set channels s.at left) out channel still more)

-- ---- what is next

one_tie : (a b : Head) (m n : ℕ) → a ≢ End → is_ahead a m b n ≡ false → is_ahead b n a m ≡ false → m ≡ n
one_tie (At a) (At b) m n some p q = grind (arith, nat_tests)
one_tie (At a) Uncounted m n some p q = absurd (true≢false p)
one_tie (At a) End m n some p q = absurd (true≢false p)
one_tie Uncounted (At b) m n some p q = absurd (true≢false q)
one_tie Uncounted Uncounted m n some p q = grind (arith, nat_tests)
one_tie Uncounted End m n some p q = absurd (true≢false p)
one_tie End b m n some p q = absurd (some refl)

pub has_head : (pieces : List FilePiece) → pieces ≢ [] → head_of pieces ≢ End
has_head [] some = absurd (some refl)
has_head (OfFrames place [] ∷ ps) some = λ e. cc
has_head (OfFrames place (f ∷ fs) ∷ ps) some = λ e. cc
has_head (OfRecord place (Some n) body ∷ ps) some = λ e. cc
has_head (OfRecord place None body ∷ ps) some = λ e. cc

-- one channel has the next piece
pub one_next : (channels : List ChannelLeft) (at other : ℕ) (c d : ChannelLeft) → AreNamedApart channels → IsNextAt channels at c → IsNextAt channels other d
    → (at ≡ other) × (d ≡ c)
one_next channels at other c d apart p q =
    let id : c.channel ≡ d.channel = one_tie (head_of c.pieces) (head_of d.pieces) c.channel d.channel (has_head c.pieces p.some)
    (all_there (λ (e : ChannelLeft). is_ahead (head_of e.pieces) e.channel (head_of d.pieces) d.channel ≡ false) channels at c q.least p.there)
    (all_there (λ (e : ChannelLeft). is_ahead (head_of e.pieces) e.channel (head_of c.pieces) c.channel ≡ false) channels other d p.least q.there) in
    let same : at ≡ other = apart at other c d p.there q.there id in
    (same, same_Some d c (sym q.there ∙ (ap (slice_get channels) (sym same) ∙ p.there)))
