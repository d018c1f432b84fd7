-- The pieces that are certain begin all pieces, however many frames follow.
use Rattle.std.proofs.Common.{◌≡◌, Bool, inl, inr, List, [], ◌∷◌, ◌++◌, refl, sym, ◌∙◌, ap, subst, map}
use Rattle.std.specs.List.{flat_map}
use Rattle.std.proofs.lemmas.Bool.{cases_Bool}
use Rattle.std.proofs.lemmas.List.{append_assoc, append-nil, map-append}
use Rattle.std.proofs.lemmas.Grind.{flat_map-append}
use Rattle.rec_lane.specs.Offered.{OfferedFrame}
use Rattle.rec_lane.specs.Parts.{ended_from, as_part, BeginsList}
use Rattle.rec_lane.specs.Moments.{moments_of, kept_in, stays}
use Rattle.rec_lane.specs.Lanes.{LaneState, HasMet}
use Rattle.rec_lane.specs.Pieces.PieceData.{OfEnd}
use Rattle.rec_lane.specs.Pieces.{LaneSettings, PieceData, has_group_version, ended_groups, last_group, program_piece}
use Rattle.rec_lane.specs.Pieces.{data_piece, end_piece, closed_group_packets, open_group_packet, open_group_pieces, group_pieces}
use Rattle.rec_lane.specs.Pieces.{pieces_so_far, channel_pieces}
use Rattle.rec_lane.proofs.Parted.{ended_on, last_on, ended_off}
use Rattle.rec_lane.proofs.Packing.{moments_more}
use Rattle.rec_lane.proofs.Offering.{group_closed}

begins_same : {X : Type 0} (xs : List X) → BeginsList xs xs
begins_same xs = ([], append-nil xs)

begins_through : {X : Type 0} (xs ys zs : List X) → BeginsList xs ys → BeginsList ys zs → BeginsList xs zs
begins_through xs ys zs a b = (a.0 ++ b.0, sym (append_assoc xs a.0 b.0) ∙ (ap (λ ws. ws ++ b.0) a.1 ∙ b.1))

begins_after : {X : Type 0} (front xs ys : List X) → BeginsList xs ys → BeginsList (front ++ xs) (front ++ ys)
begins_after front xs ys b = (b.0, append_assoc front xs b.0 ∙ ap (λ ws. front ++ ws) b.1)

begins_more : {X : Type 0} (xs ys : List X) → BeginsList xs (xs ++ ys)
begins_more xs ys = (ys, refl)

-- ---- ended parts with more elements

ended_begins : {X : Type 0} (goes_on : List X → X → Bool) (part xs ys : List X) → BeginsList (ended_from goes_on part xs) (ended_from goes_on part (xs ++ ys))
ended_begins goes_on part [] ys = (ended_from goes_on part ys, refl)
ended_begins goes_on part (x ∷ xs) ys = elim (cases_Bool (goes_on part x))
    as (λ _. BeginsList (ended_from goes_on part (x ∷ xs)) (ended_from goes_on part (x ∷ (xs ++ ys)))) [
      | inl on ↦ rw on (ended_begins goes_on (part ++ x ∷ []) xs ys)
      | inr off ↦ rw off (begins_after (part ∷ []) (ended_from goes_on (x ∷ []) xs) (ended_from goes_on (x ∷ []) (xs ++ ys))
          (ended_begins goes_on (x ∷ []) xs ys))
    ]

begins_map : {X Y : Type 0} (f : X → Y) (xs ys : List X) → BeginsList xs ys → BeginsList (map f xs) (map f ys)
begins_map f xs ys b = (map f b.0, sym (map-append f xs b.0) ∙ ap (map f) b.1)

-- ---- a frame more

open_more : (s : LaneSettings) (group : List OfferedFrame) (x : OfferedFrame) → BeginsList (open_group_pieces s group) (open_group_pieces s (group ++ x ∷ []))
open_more s [] x = (open_group_pieces s (x ∷ []), refl)
open_more s (g ∷ gs) x =
    begins_after (program_piece s (g ∷ gs)) _ _
    (begins_map (data_piece s) (closed_group_packets s (g ∷ gs)) (closed_group_packets s ((g ∷ gs) ++ x ∷ []))
    (begins_map kept_in (ended_from (stays s.limit s.span) [] (moments_of (g ∷ gs))) (ended_from (stays s.limit s.span) [] (moments_of ((g ∷ gs) ++ x ∷ [])))
    (subst (λ ms. BeginsList (ended_from (stays s.limit s.span) [] (moments_of (g ∷ gs))) (ended_from (stays s.limit s.span) [] ms))
    (sym (moments_more (g ∷ gs) (x ∷ [])))
    (ended_begins (stays s.limit s.span) [] (moments_of (g ∷ gs)) (moments_of (x ∷ []))))))

pub frame_more : (s : LaneSettings) (offered : List OfferedFrame) (x : OfferedFrame)
    → BeginsList (pieces_so_far s offered) (pieces_so_far s (offered ++ x ∷ []))
frame_more s offered x =
    let gp = group_pieces s in
    let group = last_group offered in
    let ended = flat_map gp (ended_groups offered) in
    elim (cases_Bool (has_group_version group x)) as (λ _. BeginsList (pieces_so_far s offered) (pieces_so_far s (offered ++ x ∷ []))) [
      | inl on ↦
          subst (λ gs. BeginsList (pieces_so_far s offered) (flat_map gp gs ++ open_group_pieces s (last_group (offered ++ x ∷ []))))
          (sym (ended_on has_group_version [] offered x on))
          (subst (λ g. BeginsList (pieces_so_far s offered) (ended ++ open_group_pieces s g)) (sym (last_on has_group_version [] offered x on))
          (begins_after ended (open_group_pieces s group) (open_group_pieces s (group ++ x ∷ [])) (open_more s group x)))
      | inr off ↦
          subst (λ gs. BeginsList (pieces_so_far s offered) (flat_map gp gs ++ open_group_pieces s (last_group (offered ++ x ∷ []))))
          (sym (ended_off has_group_version [] offered x off))
          (subst (λ ps. BeginsList (pieces_so_far s offered) (ps ++ open_group_pieces s (last_group (offered ++ x ∷ []))))
          (sym (flat_map-append gp (ended_groups offered) (group ∷ []) ∙ ap (λ ps. ended ++ ps) (append-nil (group_pieces s group) ∙ group_closed s group)))
          (begins_through (ended ++ open_group_pieces s group) (ended ++ (open_group_pieces s group
          ++ map (data_piece s) (as_part (open_group_packet s group)))) _
          (begins_after ended (open_group_pieces s group) _ (begins_more (open_group_pieces s group) _))
          (begins_more _ (open_group_pieces s (last_group (offered ++ x ∷ []))))))
    ]

frames_more : (s : LaneSettings) (offered more : List OfferedFrame) → BeginsList (pieces_so_far s offered) (pieces_so_far s (offered ++ more))
frames_more s offered [] = subst (λ o. BeginsList (pieces_so_far s offered) (pieces_so_far s o)) (sym (append-nil offered))
    (begins_same (pieces_so_far s offered))
frames_more s offered (x ∷ xs) =
    begins_through (pieces_so_far s offered) (pieces_so_far s (offered ++ x ∷ [])) _ (frame_more s offered x)
    (subst (λ o. BeginsList (pieces_so_far s (offered ++ x ∷ [])) (pieces_so_far s o)) (append_assoc offered (x ∷ []) xs)
    (frames_more s (offered ++ x ∷ []) xs))

-- ---- and the end

as_group : (s : LaneSettings) (group : List OfferedFrame) → flat_map (group_pieces s) (as_part group) ≡ group_pieces s group
as_group s [] = refl
as_group s (g ∷ gs) = append-nil (group_pieces s (g ∷ gs))

-- all pieces: those that are certain, the last packet, and the end
pub all_pieces : (s : LaneSettings) (offered : List OfferedFrame)
    → channel_pieces s offered ≡ pieces_so_far s offered ++ (map (data_piece s) (as_part (open_group_packet s (last_group offered)))
    ++ end_piece s offered ∷ [])
all_pieces s offered =
    let gp = group_pieces s in
    let group = last_group offered in
    let last = map (data_piece s) (as_part (open_group_packet s group)) in
    let ended = flat_map gp (ended_groups offered) in
    let end = end_piece s offered ∷ [] in
    ap (λ ps. ps ++ end) (flat_map-append gp (ended_groups offered) (as_part group)
    ∙ (ap (λ ps. ended ++ ps) (as_group s group ∙ group_closed s group) ∙ sym (append_assoc ended (open_group_pieces s group) last)))
    ∙ append_assoc (pieces_so_far s offered) last end

-- the last pieces are those of the open packet and of the end
pub left_are : (lane : LaneState) (offered : List OfferedFrame) (given : List PieceData) → HasMet lane offered
    → given ≡ map (data_piece lane.settings) (as_part lane.pending) ++ OfEnd lane.settings.channel lane.counter lane.offered lane.kept ∷ []
    → channel_pieces lane.settings offered ≡ pieces_so_far lane.settings offered ++ given
left_are lane offered given met is = all_pieces lane.settings offered ∙ rw (is, met.pending_is, met.counter_is, met.offered_is, met.kept_is) refl

pub begin_all : (s : LaneSettings) (offered more : List OfferedFrame) → BeginsList (pieces_so_far s offered) (channel_pieces s (offered ++ more))
begin_all s offered more =
    begins_through (pieces_so_far s offered) (pieces_so_far s (offered ++ more)) _ (frames_more s offered more)
    (subst (λ ps. BeginsList (pieces_so_far s (offered ++ more)) ps) (sym (all_pieces s (offered ++ more))) (begins_more (pieces_so_far s (offered ++ more)) _))
