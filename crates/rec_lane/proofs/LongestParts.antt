-- Parts of moments are the longest beginnings that are of one packet, and no packet is of a span.
use Rattle.std.proofs.Common.{ℕ, ◌+◌, ◌-◌, ◌%◌, ◌^◌, ◌≡◌, ◌⊎◌, ◌≤◌, ◌<◌, inl, inr, true, false, List, [], ◌∷◌, ◌++◌, length}
use Rattle.std.proofs.Common.{Option, None, Some, refl, sym, ◌∙◌, ap, subst, arith, All, map}
use Rattle.std.specs.Prelude.{if◌then◌else◌, nat_le, ◌-◌, ◌^◌}
use Rattle.std.proofs.lemmas.Bool.{cases_Bool, both_ways, leb-true, leb-false, cases_lt, le-leb}
use Rattle.std.proofs.lemmas.List.{append_assoc, append-nil, length-append}
use Rattle.std.proofs.lemmas.List.Elements.{All-nil, All-cons, All-head, All-tail, All-push}
use Rattle.ch11_packet.specs.declared.limit.TheConstants.{MIN_LIMIT}
use Rattle.ch11_packet.specs.Frames.{data_len, frame_len}
use Rattle.ch11_packet.specs.PacketLen.{packet_len}
use Rattle.eth_frame.specs.Frame.{FrameData, IsFrame}
use Rattle.rec_lane.specs.Offered.{OfferedFrame, accepted}
use Rattle.rec_lane.specs.Parts.{ended_from, last_from, as_part, parts}
use Rattle.rec_lane.specs.Packets.{FitsLimit, has_room, packets}
use Rattle.rec_lane.specs.Moments.{Moment, moment_counter, kept_at, kept_in, moments_of, age, is_span_due, has_room_for, joins, stays, open_packet, packets_of}
use Rattle.rec_lane.specs.Moments.{AreTogether, AreLongestParts, with_kept, AreWithinSpan}
use Rattle.rec_lane.specs.Moments.Moment.{OfFrame, OfTime}
use Rattle.rec_lane.specs.Pieces.{LaneSettings, group_packets}
use Rattle.rec_lane.proofs.FramesMet.{heads, tails}
use Rattle.rec_lane.proofs.Fronts.{full_front, last_front, more_fits, one_fits, not_empty, none_left, same_front}
use Rattle.rec_lane.proofs.Packing.{kept_more, kept_moments, joins_none, some_closed, open_with}

-- ---- what joins

-- what joins is not due, and has room
joins_early : (limit : ℕ) (span : Option ℕ) (frames : List FrameData) (m : Moment) → joins limit span frames m ≡ true
    → is_span_due span frames (moment_counter m) ≡ false
joins_early limit span frames m on = elim (cases_Bool (is_span_due span frames (moment_counter m)))
    as (λ _. is_span_due span frames (moment_counter m) ≡ false) [
      | inl due ↦ absurd (both_ways false refl (sym (ap (λ b. if b then false else has_room_for limit frames m) due) ∙ on))
      | inr early ↦ early
    ]

joins_room : (limit : ℕ) (span : Option ℕ) (frames : List FrameData) (m : Moment) → joins limit span frames m ≡ true → has_room_for limit frames m ≡ true
joins_room limit span frames m on =
    sym (ap (λ b. if b then false else has_room_for limit frames m) (joins_early limit span frames m on)) ∙ on

-- what isn't due and doesn't join has none
no_room : (limit : ℕ) (span : Option ℕ) (frames : List FrameData) (m : Moment) → joins limit span frames m ≡ false
    → is_span_due span frames (moment_counter m) ≡ false → has_room_for limit frames m ≡ false
no_room limit span frames m off early = sym (ap (λ b. if b then false else has_room_for limit frames m) early) ∙ off

-- a frame in range has room alone
roomy_moment : (limit : ℕ) (m : Moment) → MIN_LIMIT ≤ limit → All IsFrame (kept_at m) → has_room_for limit [] m ≡ true
roomy_moment limit (OfFrame f true) roomy frames =
    le-leb (packet_len (data_len [] + frame_len (length f.bytes))) limit (one_fits limit f roomy (All-head IsFrame f [] frames))
roomy_moment limit (OfFrame f false) roomy frames = refl
roomy_moment limit (OfTime counter) roomy frames = refl

first_frames : (m : Moment) (ms : List Moment) → All IsFrame (kept_in (m ∷ ms)) → All IsFrame (kept_at m)
first_frames (OfFrame f true) ms frames = All-cons IsFrame f [] (All-head IsFrame f (kept_in ms) frames) (All-nil IsFrame)
first_frames (OfFrame f false) ms frames = All-nil IsFrame
first_frames (OfTime counter) ms frames = All-nil IsFrame

other_frames : (m : Moment) (ms : List Moment) → All IsFrame (kept_in (m ∷ ms)) → All IsFrame (kept_in ms)
other_frames (OfFrame f true) ms frames = All-tail IsFrame f (kept_in ms) frames
other_frames (OfFrame f false) ms frames = frames
other_frames (OfTime counter) ms frames = frames

-- ---- one packet

-- a place in a list with one element more is one of the list, or the last
split : {X : Type 0} (before : List X) (m : X) (after part : List X) (x : X) → part ++ x ∷ [] ≡ before ++ m ∷ after
    → ((rest : List X) × (part ≡ before ++ m ∷ rest)) ⊎ ((before ≡ part) × (m ≡ x))
split {X} [] m after [] x is = inr (refl, sym (heads x m [] after is))
split {X} [] m after (p ∷ ps) x is = inl (ps, ap (λ y. y ∷ ps) (heads p m (ps ++ x ∷ []) after is))
split {X} (b ∷ bs) m after [] x is =
    let lengths = ap (λ (ys : List X). length ys) (tails x b [] (bs ++ m ∷ after) is) in
    let l = length-append bs (m ∷ after) in
    absurd (omega (arith, lengths, l))
split {X} (b ∷ bs) m after (p ∷ ps) x is =
    let first = heads p b (ps ++ x ∷ []) (bs ++ m ∷ after) is in
    elim (split bs m after ps x (tails p b (ps ++ x ∷ []) (bs ++ m ∷ after) is))
    as (λ _. ((rest : List X) × (p ∷ ps ≡ (b ∷ bs) ++ m ∷ rest)) ⊎ ((b ∷ bs ≡ p ∷ ps) × (m ≡ x))) [
      | inl within ↦ inl (within.0, ap (λ y. y ∷ ps) first ∙ ap (λ ys. b ∷ ys) within.1)
      | inr last ↦ inr (ap (λ y. y ∷ bs) (sym first) ∙ ap (λ ys. p ∷ ys) last.0, last.1)
    ]

none_together : (limit : ℕ) (span : Option ℕ) → MIN_LIMIT ≤ limit → AreTogether limit span []
none_together limit span roomy = record {
  fits = omega (arith, roomy);
  young = λ before after m is.
      let lengths = ap (λ (ms : List Moment). length ms) is in
      let l = length-append before (m ∷ after) in
      absurd (omega (arith, lengths, l));
}

more_fit : (limit : ℕ) (frames : List FrameData) (x : Moment) → FitsLimit limit frames → has_room_for limit frames x ≡ true
    → FitsLimit limit (frames ++ kept_in (x ∷ []))
more_fit limit frames (OfFrame f true) fits room = more_fits limit frames f room
more_fit limit frames (OfFrame f false) fits room = subst (FitsLimit limit) (sym (append-nil frames)) fits
more_fit limit frames (OfTime counter) fits room = subst (FitsLimit limit) (sym (append-nil frames)) fits

more_together : (limit : ℕ) (span : Option ℕ) (part : List Moment) (x : Moment) → AreTogether limit span part → stays limit span part x ≡ true
    → AreTogether limit span (part ++ x ∷ [])
more_together limit span part x t on = record {
  fits = subst (FitsLimit limit) (sym (kept_more part (x ∷ []))) (more_fit limit (kept_in part) x t.fits (joins_room limit span (kept_in part) x on));
  young = λ before after m is. elim (split before m after part x is) as (λ _. is_span_due span (kept_in before) (moment_counter m) ≡ false) [
    | inl within ↦ t.young before within.0 m within.1
    | inr last ↦
        ap (λ b. is_span_due span (kept_in b) (moment_counter m)) last.0
        ∙ (ap (λ y. is_span_due span (kept_in part) (moment_counter y)) last.1 ∙ joins_early limit span (kept_in part) x on)
  ];
}

alone_together : (limit : ℕ) (span : Option ℕ) (x : Moment) → MIN_LIMIT ≤ limit → All IsFrame (kept_at x) → AreTogether limit span (x ∷ [])
alone_together limit span x roomy frames =
    more_together limit span [] x (none_together limit span roomy) (joins_none limit span x (roomy_moment limit x roomy frames))

-- ---- the longest

-- a longer beginning has the next element
longer_is : {X : Type 0} (part other more : List X) (x : X) (xs : List X) → part ++ x ∷ xs ≡ other ++ more → length part < length other
    → (rest : List X) × (other ≡ part ++ x ∷ rest)
longer_is part [] more x xs same longer = absurd (omega (arith, longer))
longer_is [] (o ∷ os) more x xs same longer = (os, ap (λ y. y ∷ os) (sym (heads x o xs (os ++ more) same)))
longer_is (p ∷ ps) (o ∷ os) more x xs same longer =
    let rest = longer_is ps os more x xs (tails p o (ps ++ x ∷ xs) (os ++ more) same) (omega (arith, longer)) in
    (rest.0, ap (λ y. y ∷ os) (sym (heads p o (ps ++ x ∷ xs) (os ++ more) same)) ∙ ap (λ ys. p ∷ ys) rest.1)

-- a frame with which packets are too long is in none that fits
too_long : (limit : ℕ) (frames : List FrameData) (x : Moment) (more : List FrameData) → has_room_for limit frames x ≡ false
    → FitsLimit limit (frames ++ (kept_at x ++ more)) → ⊥
too_long limit frames (OfFrame f true) more full fits =
    let within = full_front limit frames f more full (frames ++ f ∷ more) [] (sym (append-nil (frames ++ f ∷ more))) fits in
    let l = length-append frames (f ∷ more) in
    omega (arith, within, l)
too_long limit frames (OfFrame f false) more full fits = both_ways false refl (sym full)
too_long limit frames (OfTime counter) more full fits = both_ways false refl (sym full)

closed_longest : (limit : ℕ) (span : Option ℕ) (part : List Moment) (x : Moment) (xs : List Moment) → stays limit span part x ≡ false
    → (other more : List Moment) → part ++ x ∷ xs ≡ other ++ more → AreTogether limit span other → length other ≤ length part
closed_longest limit span part x xs off other more same t = elim (cases_lt (length part) (length other)) as (λ _. length other ≤ length part) [
  | inl longer ↦
      let has = longer_is part other more x xs same longer in
      let early = t.young part has.0 x has.1 in
      absurd (too_long limit (kept_in part) x (kept_in has.0) (no_room limit span (kept_in part) x off early)
      (subst (FitsLimit limit) (ap kept_in has.1 ∙ kept_more part (x ∷ has.0)) t.fits))
  | inr shorter ↦ shorter
]

-- the parts from an open one on
longest_from : (limit : ℕ) → MIN_LIMIT ≤ limit → (span : Option ℕ) (p : Moment) (ps xs : List Moment)
    → AreTogether limit span (p ∷ ps) → All IsFrame (kept_in xs)
    → AreLongestParts limit span ((p ∷ ps) ++ xs) (ended_from (stays limit span) (p ∷ ps) xs ++ as_part (last_from (stays limit span) (p ∷ ps) xs))
longest_from limit roomy span p ps [] together frames = (
  [],
  record {
    front = refl;
    some = not_empty p ps;
    together = together;
    longest = λ other more same _. last_front (p ∷ ps) other more same;
  },
  refl,
)
longest_from limit roomy span p ps (x ∷ xs) together frames =
    elim (cases_Bool (stays limit span (p ∷ ps) x)) as (λ _. AreLongestParts limit span ((p ∷ ps) ++ x ∷ xs)
    (ended_from (stays limit span) (p ∷ ps) (x ∷ xs) ++ as_part (last_from (stays limit span) (p ∷ ps) (x ∷ xs)))) [
      | inl on ↦ rw on (
          subst (λ ms. AreLongestParts limit span ms (ended_from (stays limit span) ((p ∷ ps) ++ x ∷ []) xs
          ++ as_part (last_from (stays limit span) ((p ∷ ps) ++ x ∷ []) xs)))
          (append_assoc (p ∷ ps) (x ∷ []) xs)
          (longest_from limit roomy span p (ps ++ x ∷ []) xs (more_together limit span (p ∷ ps) x together on) (other_frames x xs frames)))
      | inr off ↦ rw off ((
        x ∷ xs,
        record {
          front = refl;
          some = not_empty p ps;
          together = together;
          longest = closed_longest limit span (p ∷ ps) x xs off;
        },
        longest_from limit roomy span x [] xs (alone_together limit span x roomy (first_frames x xs frames)) (other_frames x xs frames),
      ))
    ]

pub parts_longest : (limit : ℕ) (span : Option ℕ) (moments : List Moment) → MIN_LIMIT ≤ limit → All IsFrame (kept_in moments)
    → AreLongestParts limit span moments (parts (stays limit span) moments)
parts_longest limit span [] roomy frames = refl
parts_longest limit span (x ∷ xs) roomy frames =
    let on : stays limit span [] x ≡ true = joins_none limit span x (roomy_moment limit x roomy (first_frames x xs frames)) in
    rw on (longest_from limit roomy span x [] xs (alone_together limit span x roomy (first_frames x xs frames)) (other_frames x xs frames))

pub one_parts : (limit : ℕ) (span : Option ℕ) (moments : List Moment) (some other : List (List Moment)) → AreLongestParts limit span moments some
    → AreLongestParts limit span moments other → some ≡ other
one_parts limit span moments [] [] a b = refl
one_parts limit span moments [] (q ∷ qs) a b = absurd (none_left moments q b.0 a b.1.front b.1.some)
one_parts limit span moments (p ∷ ps) [] a b = absurd (none_left moments p a.0 b a.1.front a.1.some)
one_parts limit span moments (p ∷ ps) (q ∷ qs) a b =
    let one = a.1.longest q b.0 b.1.front b.1.together in
    let other = b.1.longest p a.0 a.1.front a.1.together in
    let same = same_front p a.0 q b.0 (sym a.1.front ∙ b.1.front) (omega (arith, one, other)) in
    ap (λ x. x ∷ ps) same.0
    ∙ ap (λ xs. q ∷ xs) (one_parts limit span a.0 ps qs a.2 (subst (λ rest. AreLongestParts limit span rest qs) (sym same.1) b.2))

-- ---- the packets

framed_from : (limit : ℕ) → MIN_LIMIT ≤ limit → (span : Option ℕ) (part xs : List Moment) → All IsFrame (kept_in xs)
    → with_kept (ended_from (stays limit span) part xs ++ as_part (last_from (stays limit span) part xs))
    ≡ map kept_in (ended_from (stays limit span) part xs) ++ as_part (kept_in (last_from (stays limit span) part xs))
framed_from limit roomy span [] [] frames = refl
framed_from limit roomy span (p ∷ ps) [] frames = append-nil (as_part (kept_in (p ∷ ps)))
framed_from limit roomy span part (x ∷ xs) frames =
    elim (cases_Bool (stays limit span part x)) as (λ _. with_kept (ended_from (stays limit span) part (x ∷ xs)
    ++ as_part (last_from (stays limit span) part (x ∷ xs)))
    ≡ map kept_in (ended_from (stays limit span) part (x ∷ xs)) ++ as_part (kept_in (last_from (stays limit span) part (x ∷ xs)))) [
      | inl on ↦ rw on (framed_from limit roomy span (part ++ x ∷ []) xs (other_frames x xs frames))
      | inr off ↦ rw off (
          ap (λ ps. ps ++ with_kept (ended_from (stays limit span) (x ∷ []) xs ++ as_part (last_from (stays limit span) (x ∷ []) xs)))
          (some_closed limit span (kept_in part) x (roomy_moment limit x roomy (first_frames x xs frames)) off)
          ∙ ap (λ ps. kept_in part ∷ ps) (framed_from limit roomy span (x ∷ []) xs (other_frames x xs frames)))
    ]

pub parts_framed : (limit : ℕ) (span : Option ℕ) (moments : List Moment) → MIN_LIMIT ≤ limit → All IsFrame (kept_in moments)
    → with_kept (parts (stays limit span) moments) ≡ packets_of limit span moments
parts_framed limit span moments roomy frames = framed_from limit roomy span [] moments frames

-- each packet fits the limit and has a frame
abbrev pub Packs : ℕ → List FrameData → Type 0
Packs limit frames = FitsLimit limit frames × (0 < length frames)

packs_more : (limit : ℕ) (frames : List FrameData) (more : List (List FrameData)) → FitsLimit limit frames → All (Packs limit) more
    → All (Packs limit) (as_part frames ++ more)
packs_more limit [] more fits all = all
packs_more limit (f ∷ fs) more fits all = All-cons (Packs limit) (f ∷ fs) more (fits, omega arith) all

packs_all : (limit : ℕ) (span : Option ℕ) (moments : List Moment) (ps : List (List Moment)) → AreLongestParts limit span moments ps
    → All (Packs limit) (with_kept ps)
packs_all limit span moments [] are = All-nil (Packs limit)
packs_all limit span moments (p ∷ ps) are =
    packs_more limit (kept_in p) (with_kept ps) are.1.together.fits (packs_all limit span are.0 ps are.2)

pub group_packs : (s : LaneSettings) (group : List OfferedFrame) → MIN_LIMIT ≤ s.limit → All IsFrame (accepted group)
    → All (Packs s.limit) (group_packets s group)
group_packs s group roomy framed =
    let moments = moments_of group in
    let frames = subst (All IsFrame) (sym (kept_moments group)) framed in
    subst (All (Packs s.limit)) (parts_framed s.limit s.span moments roomy frames)
    (packs_all s.limit s.span moments (parts (stays s.limit s.span) moments) (parts_longest s.limit s.span moments roomy frames))

-- ---- without a span

plain_ended : (limit : ℕ) (part xs : List Moment)
    → map kept_in (ended_from (stays limit None) part xs) ≡ ended_from (has_room limit) (kept_in part) (kept_in xs)
plain_ended limit part [] = refl
plain_ended limit part (OfFrame f true ∷ xs) =
    let m = OfFrame f true in
    elim (cases_Bool (has_room limit (kept_in part) f)) as (λ _. map kept_in (ended_from (stays limit None) part (m ∷ xs))
    ≡ ended_from (has_room limit) (kept_in part) (f ∷ kept_in xs)) [
      | inl on ↦ rw on (plain_ended limit (part ++ m ∷ []) xs ∙ ap (λ k. ended_from (has_room limit) k (kept_in xs)) (kept_more part (m ∷ [])))
      | inr off ↦ rw off (ap (λ ps. kept_in part ∷ ps) (plain_ended limit (m ∷ []) xs))
    ]
plain_ended limit part (OfFrame f false ∷ xs) =
    plain_ended limit (part ++ OfFrame f false ∷ []) xs
    ∙ ap (λ k. ended_from (has_room limit) k (kept_in xs)) (kept_more part (OfFrame f false ∷ []) ∙ append-nil (kept_in part))
plain_ended limit part (OfTime counter ∷ xs) =
    plain_ended limit (part ++ OfTime counter ∷ []) xs
    ∙ ap (λ k. ended_from (has_room limit) k (kept_in xs)) (kept_more part (OfTime counter ∷ []) ∙ append-nil (kept_in part))

plain_last : (limit : ℕ) (part xs : List Moment)
    → kept_in (last_from (stays limit None) part xs) ≡ last_from (has_room limit) (kept_in part) (kept_in xs)
plain_last limit part [] = refl
plain_last limit part (OfFrame f true ∷ xs) =
    let m = OfFrame f true in
    elim (cases_Bool (has_room limit (kept_in part) f)) as (λ _. kept_in (last_from (stays limit None) part (m ∷ xs))
    ≡ last_from (has_room limit) (kept_in part) (f ∷ kept_in xs)) [
      | inl on ↦ rw on (plain_last limit (part ++ m ∷ []) xs ∙ ap (λ k. last_from (has_room limit) k (kept_in xs)) (kept_more part (m ∷ [])))
      | inr off ↦ rw off (plain_last limit (m ∷ []) xs)
    ]
plain_last limit part (OfFrame f false ∷ xs) =
    plain_last limit (part ++ OfFrame f false ∷ []) xs
    ∙ ap (λ k. last_from (has_room limit) k (kept_in xs)) (kept_more part (OfFrame f false ∷ []) ∙ append-nil (kept_in part))
plain_last limit part (OfTime counter ∷ xs) =
    plain_last limit (part ++ OfTime counter ∷ []) xs
    ∙ ap (λ k. last_from (has_room limit) k (kept_in xs)) (kept_more part (OfTime counter ∷ []) ∙ append-nil (kept_in part))

pub plain_packets : (s : LaneSettings) (group : List OfferedFrame) → s.span ≡ None → group_packets s group ≡ packets s.limit (accepted group)
plain_packets s group none =
    ap (λ span. packets_of s.limit span (moments_of group)) none
    ∙ (ap (λ ps. ps ++ as_part (open_packet s.limit None (moments_of group))) (plain_ended s.limit [] (moments_of group))
    ∙ (ap (λ fs. ended_from (has_room s.limit) [] (kept_in (moments_of group)) ++ as_part fs) (plain_last s.limit [] (moments_of group))
    ∙ ap (packets s.limit) (kept_moments group)))

-- ---- within a span

within_push : (span : ℕ) (frames : List FrameData) (f : FrameData) → AreWithinSpan (Some span) frames → is_span_due (Some span) frames f.counter ≡ false
    → AreWithinSpan (Some span) (frames ++ f ∷ [])
within_push span [] f within early = All-nil (λ (g : FrameData). age f.counter g.counter < span)
within_push span (x ∷ xs) f within early =
    All-push (λ (g : FrameData). age x.counter g.counter < span) xs f within (leb-false span (age x.counter f.counter) early)

within_first : (span : ℕ) (m : Moment) → AreWithinSpan (Some span) (kept_in (m ∷ []))
within_first span (OfFrame f true) = All-nil (λ (g : FrameData). age f.counter g.counter < span)
within_first span (OfFrame f false) = tt
within_first span (OfTime counter) = tt

within_more : (limit span : ℕ) (frames : List FrameData) (m : Moment) → AreWithinSpan (Some span) frames → joins limit (Some span) frames m ≡ true
    → AreWithinSpan (Some span) (frames ++ kept_in (m ∷ []))
within_more limit span frames (OfFrame f true) within on = within_push span frames f within (joins_early limit (Some span) frames (OfFrame f true) on)
within_more limit span frames (OfFrame f false) within on = subst (AreWithinSpan (Some span)) (sym (append-nil frames)) within
within_more limit span frames (OfTime counter) within on = subst (AreWithinSpan (Some span)) (sym (append-nil frames)) within

within_part : (span : ℕ) (frames : List FrameData) → AreWithinSpan (Some span) frames → All (AreWithinSpan (Some span)) (as_part frames)
within_part span [] within = All-nil (AreWithinSpan (Some span))
within_part span (f ∷ fs) within = All-cons (AreWithinSpan (Some span)) (f ∷ fs) [] within (All-nil (AreWithinSpan (Some span)))

within_from : (limit span : ℕ) (part xs : List Moment) → AreWithinSpan (Some span) (kept_in part)
    → All (AreWithinSpan (Some span)) (map kept_in (ended_from (stays limit (Some span)) part xs)
    ++ as_part (kept_in (last_from (stays limit (Some span)) part xs)))
within_from limit span part [] within = within_part span (kept_in part) within
within_from limit span part (x ∷ xs) within =
    elim (cases_Bool (stays limit (Some span) part x)) as (λ _. All (AreWithinSpan (Some span))
    (map kept_in (ended_from (stays limit (Some span)) part (x ∷ xs)) ++ as_part (kept_in (last_from (stays limit (Some span)) part (x ∷ xs))))) [
      | inl on ↦ rw on (within_from limit span (part ++ x ∷ []) xs
          (subst (AreWithinSpan (Some span)) (sym (kept_more part (x ∷ []))) (within_more limit span (kept_in part) x within on)))
      | inr off ↦ rw off (All-cons (AreWithinSpan (Some span)) (kept_in part) _ within (within_from limit span (x ∷ []) xs (within_first span x)))
    ]

packets_within : (limit : ℕ) (span : Option ℕ) (moments : List Moment) → All (AreWithinSpan span) (packets_of limit span moments)
packets_within limit None moments = λ k d low. tt
packets_within limit (Some span) moments = within_from limit span [] moments tt

pub group_within : (s : LaneSettings) (group : List OfferedFrame) → All (AreWithinSpan s.span) (group_packets s group)
group_within s group = packets_within s.limit s.span (moments_of group)

-- ---- after a moment

age_none : (counter : ℕ) → age counter counter ≡ 0
age_none counter =
    let turn : counter + 2 ^ 48 - counter ≡ 2 ^ 48 = omega arith in
    ap (λ n. n % 2 ^ 48) turn

own_early : (span : ℕ) (f : FrameData) → 0 < span → is_span_due (Some span) (f ∷ []) f.counter ≡ false
own_early span f some = elim (cases_Bool (nat_le span (age f.counter f.counter))) as (λ _. is_span_due (Some span) (f ∷ []) f.counter ≡ false) [
  | inl is_so ↦ (let le = leb-true span (age f.counter f.counter) is_so in let none = age_none f.counter in absurd (omega (arith, le, none, some)))
  | inr is_not ↦ is_not
]

kept_early : (span : ℕ) (m : Moment) → 0 < span → is_span_due (Some span) (kept_at m) (moment_counter m) ≡ false
kept_early span (OfFrame f true) some = own_early span f some
kept_early span (OfFrame f false) some = refl
kept_early span (OfTime counter) some = refl

open_early : (span : ℕ) (frames : List FrameData) (m : Moment) → 0 < span → is_span_due (Some span) frames (moment_counter m) ≡ false
    → is_span_due (Some span) (frames ++ kept_at m) (moment_counter m) ≡ false
open_early span [] m some early = kept_early span m some
open_early span (f ∷ fs) m some early = early

pub open_young : (limit span : ℕ) (moments : List Moment) (m : Moment) → 0 < span
    → is_span_due (Some span) (open_packet limit (Some span) (moments ++ m ∷ [])) (moment_counter m) ≡ false
open_young limit span moments m some =
    let frames = open_packet limit (Some span) moments in
    ap (λ fs. is_span_due (Some span) fs (moment_counter m)) (open_with limit (Some span) moments m)
    ∙ elim (cases_Bool (joins limit (Some span) frames m)) as (λ _. is_span_due (Some span)
    (if joins limit (Some span) frames m then frames ++ kept_at m else kept_at m) (moment_counter m) ≡ false) [
      | inl on ↦
          ap (λ b. is_span_due (Some span) (if b then frames ++ kept_at m else kept_at m) (moment_counter m)) on
          ∙ open_early span frames m some (joins_early limit (Some span) frames m on)
      | inr off ↦ ap (λ b. is_span_due (Some span) (if b then frames ++ kept_at m else kept_at m) (moment_counter m)) off ∙ kept_early span m some
    ]
