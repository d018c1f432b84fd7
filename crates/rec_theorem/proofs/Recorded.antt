-- The pieces of a recording, and the frames that are read of each channel.
use Rattle.std.proofs.Common.{◌≢◌, false, ◌≡◌, Bool, true, inl, inr, List, [], ◌∷◌, ◌++◌, map, All, get_or, eq-eqb, refl, sym, ap, subst, ◌∙◌}
use Rattle.std.specs.List.{flat_map, filter, Any}
use Rattle.std.proofs.lemmas.Bool.{cases_Bool, ne_eqb}
use Rattle.std.proofs.lemmas.List.{map-append}
use Rattle.std.proofs.lemmas.List.Elements.{All-nil, All-cons, All-head, All-tail, All-append, All-weaker}
use Rattle.eth_frame.specs.Frame.{FrameData}
use Rattle.ch11_packet.specs.FramesRead.{body_frame}
use Rattle.rec_lane.specs.Offered.{OfferedFrame, accepted}
use Rattle.rec_lane.specs.Pieces.{LaneSettings, PieceData, channel_of, piece_frames, groups, program_piece}
use Rattle.rec_lane.specs.Pieces.{data_piece, group_packets, group_pieces, end_piece, channel_pieces, ArePieces}
use Rattle.rec_lane.proofs.Contents.{pieces_frames}
use Rattle.rec_writer.specs.Recording.{RecordedChannel, AreOfChannels, is_of}
use Rattle.rec_reader.specs.Packets.{PacketData}
use Rattle.rec_theorem.specs.Recordable.{IsRecordable, AreRecordable}
use Rattle.rec_theorem.specs.Found.{read_frames, HasAccepted, HasNoOthers}
use Rattle.rec_theorem.proofs.JoinedLists.{All_with}
use Rattle.rec_theorem.proofs.Spelled.{IsWritable, frames_read}
use Rattle.rec_theorem.proofs.PacketReadings.{AllReflect, frames_reflected}
use Rattle.rec_theorem.proofs.Writable.{all_writable}

-- ---- the pieces of a recording are writable

-- what holds of those that pass a test holds of each that passes it
pub All_passing : {X : Type 0} (test : X → Bool) (P : X → Type 0) (xs : List X) → All P (filter test xs) → All (λ (x : X). test x ≡ true → P x) xs
All_passing {X} test P [] all = All-nil (λ (x : X). test x ≡ true → P x)
All_passing {X} test P (x ∷ xs) all = elim (cases_Bool (test x)) as (λ _. All (λ (y : X). test y ≡ true → P y) (x ∷ xs)) [
  | inl passes ↦ (
      let here : All P (x ∷ filter test xs) = rw passes at all in
      All-cons (λ (y : X). test y ≡ true → P y) x xs (λ _. All-head P x (filter test xs) here) (All_passing test P xs (All-tail P x (filter test xs) here)))
  | inr fails ↦ (
      let here : All P (filter test xs) = rw fails at all in
      All-cons (λ (y : X). test y ≡ true → P y) x xs (λ passes. let both = sym fails ∙ passes in cc) (All_passing test P xs here))
]

-- an element of which something holds, among others of which all hold more
pub found_among : {X : Type 0} (P Q : X → Type 0) (xs : List X) → All P xs → Any Q xs → (x : X) × P x × Q x
found_among P Q xs all any = (any.1, subst P any.3 (all any.0 any.1 any.2), any.4)

module _ (P : PieceData → Type 0) (channels : List RecordedChannel) (pieces : List PieceData) where
  -- what holds of the pieces of each channel holds of each piece
  pub All_pieces : All (λ (c : RecordedChannel). All P (filter (is_of c.settings.channel) pieces)) channels
      → All (λ (piece : PieceData). Any (λ (c : RecordedChannel). c.settings.channel ≡ channel_of piece) channels) pieces → All P pieces
  All_pieces each named = λ k d within.
      let piece = get_or pieces k d in
      let c = found_among (λ (x : RecordedChannel). All P (filter (is_of x.settings.channel) pieces))
      (λ (x : RecordedChannel). x.settings.channel ≡ channel_of piece) channels each (named k d within) in
      All_passing (is_of c.0.settings.channel) P pieces c.1 k d within (eq-eqb (channel_of piece) c.0.settings.channel (sym c.2))

-- all pieces of a channel that can be recorded are writable
pub writable_channel : (c : RecordedChannel) (pieces : List PieceData) → IsRecordable c → ArePieces c.settings c.frames c.times c.history pieces
    → All IsWritable pieces
writable_channel c pieces is are = subst (All IsWritable) are.3 (all_writable c are.0 is are.1 are.2)

-- each piece is of some channel, and stands among its pieces
pub writable_pieces : (channels : List RecordedChannel) (pieces : List PieceData) → AreRecordable channels → AreOfChannels channels pieces
    → All IsWritable pieces
writable_pieces channels pieces are of =
    All_pieces IsWritable channels pieces
    (All_with IsRecordable (λ (c : RecordedChannel). ArePieces c.settings c.frames c.times c.history (filter (is_of c.settings.channel) pieces))
    (λ (c : RecordedChannel). All IsWritable (filter (is_of c.settings.channel) pieces))
    (λ c is pieces_are. writable_channel c (filter (is_of c.settings.channel) pieces) is pieces_are) channels are of.each)
    of.named

-- ---- the frames that are read of a channel

-- a piece's frames are read with the channel's network identifier and speed
abbrev ReadsAs : LaneSettings → PieceData → Type 0
ReadsAs s piece = frames_read piece ≡ read_frames s (piece_frames piece)

-- a program has no frames
program_reads : (s : LaneSettings) (group : List OfferedFrame) → All (ReadsAs s) (program_piece s group)
program_reads s [] = All-nil (ReadsAs s)
program_reads s (f ∷ fs) = All-cons (ReadsAs s) _ [] refl (All-nil (ReadsAs s))

-- packets of frames were made with the channel's settings
packets_read : (s : LaneSettings) (ps : List (List FrameData)) → All (ReadsAs s) (map (data_piece s) ps)
packets_read s [] = All-nil (ReadsAs s)
packets_read s (p ∷ ps) = All-cons (ReadsAs s) (data_piece s p) (map (data_piece s) ps) refl (packets_read s ps)

-- so groups
groups_read : (s : LaneSettings) (gs : List (List OfferedFrame)) → All (ReadsAs s) (flat_map (group_pieces s) gs)
groups_read s [] = All-nil (ReadsAs s)
groups_read s (g ∷ gs) =
    All-append (ReadsAs s) (group_pieces s g) (flat_map (group_pieces s) gs)
    (All-append (ReadsAs s) (program_piece s g) (map (data_piece s) (group_packets s g)) (program_reads s g)
    (packets_read s (group_packets s g)))
    (groups_read s gs)

-- and all pieces of a channel
pieces_read : (s : LaneSettings) (offered : List OfferedFrame) → All (ReadsAs s) (channel_pieces s offered)
pieces_read s offered =
    All-append (ReadsAs s) (flat_map (group_pieces s) (groups offered)) (end_piece s offered ∷ [])
    (groups_read s (groups offered))
    (All-cons (ReadsAs s) (end_piece s offered) [] refl (All-nil (ReadsAs s)))

-- so their frames are read as the channel's
pub read_as : (s : LaneSettings) (pieces : List PieceData) → All (ReadsAs s) pieces → flat_map frames_read pieces ≡ read_frames s (flat_map piece_frames pieces)
read_as s [] all = refl
read_as s (p ∷ ps) all =
    ap (λ fs. fs ++ flat_map frames_read ps) (All-head (ReadsAs s) p ps all)
    ∙ (ap (λ fs. read_frames s (piece_frames p) ++ fs) (read_as s ps (All-tail (ReadsAs s) p ps all))
    ∙ sym (map-append (body_frame s.net s.speed) (piece_frames p) (flat_map piece_frames ps)))

-- the frames that are read of all pieces of a channel are its accepted ones
pub channel_read : (s : LaneSettings) (offered : List OfferedFrame) → flat_map frames_read (channel_pieces s offered) ≡ read_frames s (accepted offered)
channel_read s offered = read_as s (channel_pieces s offered) (pieces_read s offered) ∙ ap (read_frames s) (pieces_frames s offered)

-- packets that reflect the pieces of a recording have the accepted frames of each channel
has_accepted : (packets : List PacketData) (pieces : List PieceData) (c : RecordedChannel) → AllReflect packets pieces
    → ArePieces c.settings c.frames c.times c.history (filter (is_of c.settings.channel) pieces) → HasAccepted packets c
has_accepted packets pieces c all are = record {
  kept = accepted are.0;
  accepted = (are.0, are.1, are.2, refl);
  found = frames_reflected c.settings.channel packets pieces all ∙ (ap (flat_map frames_read) (sym are.3) ∙ channel_read c.settings are.0);
}

-- so of each channel
pub have_accepted : (packets : List PacketData) (pieces : List PieceData) (channels : List RecordedChannel) → AllReflect packets pieces
    → AreOfChannels channels pieces → All (HasAccepted packets) channels
have_accepted packets pieces channels all of =
    All-weaker (λ (c : RecordedChannel). ArePieces c.settings c.frames c.times c.history (filter (is_of c.settings.channel) pieces)) (HasAccepted packets)
    (λ c are. has_accepted packets pieces c all are) channels of.each

-- ---- other channels

-- where nothing passes a test, nothing is left
filter_none : {X : Type 0} (test : X → Bool) (xs : List X) → All (λ (x : X). test x ≡ false) xs → filter test xs ≡ []
filter_none {X} test [] all = refl
filter_none {X} test (x ∷ xs) all = rw (All-head (λ (y : X). test y ≡ false) x xs all) (filter_none test xs (All-tail (λ (y : X). test y ≡ false) x xs all))

-- each piece is of one of the channels, so packets that reflect them have no frames of another one
pub no_others : (packets : List PacketData) (pieces : List PieceData) (channels : List RecordedChannel) → AllReflect packets pieces
    → All (λ (piece : PieceData). Any (λ (c : RecordedChannel). c.settings.channel ≡ channel_of piece) channels) pieces → HasNoOthers channels packets
no_others packets pieces channels all named = λ channel apart.
    frames_reflected channel packets pieces all
    ∙ ap (flat_map frames_read) (filter_none (is_of channel) pieces (λ k d within.
    let piece = get_or pieces k d in
    let c = found_among (λ (x : RecordedChannel). x.settings.channel ≢ channel) (λ (x : RecordedChannel). x.settings.channel ≡ channel_of piece) channels apart
    (named k d within) in
    ne_eqb (channel_of piece) channel (λ same. c.1 (c.2 ∙ same))))
