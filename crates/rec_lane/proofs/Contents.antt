-- What is in a channel's pieces: its accepted frames; and that each is of the channel.
use Rattle.std.proofs.Common.{ℕ, ◌≡◌, Bool, List, [], ◌∷◌, ◌++◌, refl, sym, ◌∙◌, ap, map}
use Rattle.std.specs.List.{flat_map}
use Rattle.std.specs.Prelude.{All}
use Rattle.std.proofs.lemmas.List.{append-nil}
use Rattle.std.proofs.lemmas.List.Elements.{All-nil, All-cons, All-append}
use Rattle.std.proofs.lemmas.Grind.{flat_map-append}
use Rattle.eth_frame.specs.Frame.{FrameData}
use Rattle.rec_lane.specs.Offered.{OfferedFrame, accepted}
use Rattle.rec_lane.specs.Parts.{ended_parts, last_part, as_part, parts}
use Rattle.rec_lane.specs.Moments.{Moment, moments_of, kept_in, stays}
use Rattle.rec_lane.specs.Pieces.{LaneSettings, PieceData, channel_of, has_group_version, groups, program_piece}
use Rattle.rec_lane.specs.Pieces.{data_piece, end_piece, group_packets, closed_group_packets, open_group_packet, group_pieces, channel_pieces, piece_frames}
use Rattle.rec_lane.proofs.Parted.{whole_from}
use Rattle.rec_lane.proofs.Packing.{accepted_more, kept_more, kept_moments}

one_part : {X : Type 0} (xs : List X) → flat_map (λ (p : List X). p) (as_part xs) ≡ xs
one_part [] = refl
one_part (x ∷ xs) = append-nil (x ∷ xs)

-- the parts of a list put together are the list
pub parts_whole : {X : Type 0} (goes_on : List X → X → Bool) (xs : List X) → flat_map (λ (p : List X). p) (parts goes_on xs) ≡ xs
parts_whole {X} goes_on xs =
    flat_map-append (λ (p : List X). p) (ended_parts goes_on xs) (as_part (last_part goes_on xs))
    ∙ (ap (λ ys. flat_map (λ (p : List X). p) (ended_parts goes_on xs) ++ ys) (one_part (last_part goes_on xs))
    ∙ whole_from goes_on [] xs)

-- what is kept in parts, put together, is kept in the whole
kept_parts : (parts : List (List Moment)) → flat_map (λ (p : List FrameData). p) (map kept_in parts) ≡ kept_in (flat_map (λ (p : List Moment). p) parts)
kept_parts [] = refl
kept_parts (p ∷ ps) = ap (λ fs. kept_in p ++ fs) (kept_parts ps) ∙ sym (kept_more p (flat_map (λ (q : List Moment). q) ps))

-- the packets of a group put together are its accepted frames
pub group_whole : (s : LaneSettings) (group : List OfferedFrame) → flat_map (λ (p : List FrameData). p) (group_packets s group) ≡ accepted group
group_whole s group =
    let ended = ended_parts (stays s.limit s.span) (moments_of group) in
    let last = last_part (stays s.limit s.span) (moments_of group) in
    flat_map-append (λ (p : List FrameData). p) (closed_group_packets s group) (as_part (open_group_packet s group))
    ∙ (ap (λ fs. fs ++ flat_map (λ (p : List FrameData). p) (as_part (open_group_packet s group))) (kept_parts ended)
    ∙ (ap (λ fs. kept_in (flat_map (λ (p : List Moment). p) ended) ++ fs) (one_part (open_group_packet s group))
    ∙ (sym (kept_more (flat_map (λ (p : List Moment). p) ended) last)
    ∙ (ap kept_in (whole_from (stays s.limit s.span) [] (moments_of group)) ∙ kept_moments group))))

packed_frames : (s : LaneSettings) (ps : List (List FrameData)) → flat_map piece_frames (map (data_piece s) ps) ≡ flat_map (λ (p : List FrameData). p) ps
packed_frames s [] = refl
packed_frames s (p ∷ ps) = ap (λ fs. p ++ fs) (packed_frames s ps)

no_frames : (s : LaneSettings) (group : List OfferedFrame) → flat_map piece_frames (program_piece s group) ≡ []
no_frames s [] = refl
no_frames s (g ∷ gs) = refl

group_frames : (s : LaneSettings) (group : List OfferedFrame) → flat_map piece_frames (group_pieces s group) ≡ accepted group
group_frames s group =
    flat_map-append piece_frames (program_piece s group) (map (data_piece s) (group_packets s group))
    ∙ (ap (λ fs. fs ++ flat_map piece_frames (map (data_piece s) (group_packets s group))) (no_frames s group)
    ∙ (packed_frames s (group_packets s group) ∙ group_whole s group))

groups_frames : (s : LaneSettings) (gs : List (List OfferedFrame))
    → flat_map piece_frames (flat_map (group_pieces s) gs) ≡ accepted (flat_map (λ (g : List OfferedFrame). g) gs)
groups_frames s [] = refl
groups_frames s (g ∷ gs) =
    flat_map-append piece_frames (group_pieces s g) (flat_map (group_pieces s) gs)
    ∙ (ap (λ fs. fs ++ flat_map piece_frames (flat_map (group_pieces s) gs)) (group_frames s g)
    ∙ (ap (λ fs. accepted g ++ fs) (groups_frames s gs)
    ∙ sym (accepted_more g (flat_map (λ (h : List OfferedFrame). h) gs))))

pub pieces_frames : (s : LaneSettings) (offered : List OfferedFrame) → flat_map piece_frames (channel_pieces s offered) ≡ accepted offered
pieces_frames s offered =
    flat_map-append piece_frames (flat_map (group_pieces s) (groups offered)) (end_piece s offered ∷ [])
    ∙ (append-nil (flat_map piece_frames (flat_map (group_pieces s) (groups offered)))
    ∙ (groups_frames s (groups offered) ∙ ap accepted (parts_whole has_group_version offered)))

-- ---- the channel that they are of

abbrev IsOf : ℕ → PieceData → Type 0
IsOf channel piece = channel_of piece ≡ channel

program_of : (s : LaneSettings) (group : List OfferedFrame) → All (IsOf s.channel) (program_piece s group)
program_of s [] = All-nil (IsOf s.channel)
program_of s (g ∷ gs) = All-cons (IsOf s.channel) _ [] refl (All-nil (IsOf s.channel))

packets_of : (s : LaneSettings) (ps : List (List FrameData)) → All (IsOf s.channel) (map (data_piece s) ps)
packets_of s [] = All-nil (IsOf s.channel)
packets_of s (p ∷ ps) = All-cons (IsOf s.channel) (data_piece s p) (map (data_piece s) ps) refl (packets_of s ps)

groups_of : (s : LaneSettings) (gs : List (List OfferedFrame)) → All (IsOf s.channel) (flat_map (group_pieces s) gs)
groups_of s [] = All-nil (IsOf s.channel)
groups_of s (g ∷ gs) =
    All-append (IsOf s.channel) (group_pieces s g) (flat_map (group_pieces s) gs)
    (All-append (IsOf s.channel) (program_piece s g) (map (data_piece s) (group_packets s g)) (program_of s g)
    (packets_of s (group_packets s g)))
    (groups_of s gs)

pub pieces_of : (s : LaneSettings) (offered : List OfferedFrame) → All (IsOf s.channel) (channel_pieces s offered)
pieces_of s offered =
    All-append (IsOf s.channel) (flat_map (group_pieces s) (groups offered)) (end_piece s offered ∷ [])
    (groups_of s (groups offered))
    (All-cons (IsOf s.channel) (end_piece s offered) [] refl (All-nil (IsOf s.channel)))
