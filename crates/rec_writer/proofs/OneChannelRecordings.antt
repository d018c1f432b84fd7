-- Recordings of one channel, and of one to which no frame was offered.
use Rattle.std.proofs.Common.{ℕ, zero, suc, ◌≡◌, true, Bool, List, [], ◌∷◌, ◌++◌, All, Option, None, Some, refl, sym, ◌∙◌, ap, subst, arith, cond, eq-eqb}
use Rattle.std.specs.List.{filter, Any}
use Rattle.std.specs.Io.KnownBytes.{Appends}
use Rattle.std.proofs.lemmas.List.{append-nil, append_assoc}
use Rattle.std.proofs.lemmas.List.Elements.{All-nil, All-cons, All-tail, All-weaker}
use Rattle.rec_channel.specs.History.{Version}
use Rattle.rec_lane.specs.Offered.{OfferedFrame, frames_of}
use Rattle.rec_lane.specs.Pieces.{LaneSettings, PieceData, channel_of, channel_pieces, ArePieces}
use Rattle.rec_lane.specs.Pieces.PieceData.{OfEnd}
use Rattle.rec_writer.specs.Encoding.{piece_packet, packet_channel, next_sequence, writer_output, output_after}
use Rattle.rec_writer.specs.Recording.{RecordedChannel, AreOfChannels, IsRecording, IsOutputOf, is_of}
use Rattle.rec_writer.specs.Writers.{WriterState, HasWritten, HoldsRecording}

-- ---- what a writer put

held_after : (before sent : List ℕ) (held : Option (List ℕ)) → Appends (Some before) held sent → held ≡ Some (before ++ sent)
held_after before sent None appends = absurd appends
held_after before sent (Some held) appends = ap (λ bs. Some bs) appends

pub put_recording : (writer : WriterState) (before : List ℕ) (pieces : List PieceData) (channels : List RecordedChannel)
    → HasWritten (Some before) pieces [] writer → AreOfChannels channels pieces
    → HoldsRecording before writer channels
put_recording writer before pieces channels h of =
    let sent = writer_output writer.version pieces in
    (sent, held_after before (sent ++ []) writer.held h.held_is ∙ ap (λ bs. Some (before ++ bs)) (append-nil sent), (pieces, refl, of))

-- ---- pieces and later ones

output_split : (version : ℕ) (earlier pieces later : List PieceData)
    → output_after version earlier (pieces ++ later) ≡ output_after version earlier pieces ++ output_after version (earlier ++ pieces) later
output_split version earlier [] later = ap (λ ps. output_after version ps later) (sym (append-nil earlier))
output_split version earlier (p ∷ ps) later =
    let packet = piece_packet p version (next_sequence earlier (packet_channel p)) in
    let rest = output_split version (earlier ++ p ∷ []) ps later
    ∙ ap (λ qs. output_after version (earlier ++ p ∷ []) ps ++ output_after version qs later) (append_assoc earlier (p ∷ []) ps) in
    ap (λ bs. packet ++ bs) rest ∙ sym (append_assoc packet (output_after version (earlier ++ p ∷ []) ps) (output_after version (earlier ++ p ∷ ps) later))

pub written_later : (version : ℕ) (pieces later : List PieceData)
    → writer_output version (pieces ++ later) ≡ writer_output version pieces ++ output_after version pieces later
written_later version pieces later = output_split version [] pieces later

-- ---- one channel

-- each piece of a channel is of it
abbrev pub OfTheirChannel : Type 0
OfTheirChannel = (settings : LaneSettings) (offered : List OfferedFrame)
    → All (λ (piece : PieceData). channel_of piece ≡ settings.channel) (channel_pieces settings offered)

filter_all : {X : Type 0} (test : X → Bool) (xs : List X) → All (λ x. test x ≡ true) xs → filter test xs ≡ xs
filter_all test [] h = refl
filter_all test (x ∷ xs) h =
    ap (λ b. cond b (x ∷ filter test xs) (filter test xs)) (h 0 x (omega arith))
    ∙ ap (λ ys. x ∷ ys) (filter_all test xs (All-tail (λ y. test y ≡ true) x xs h))

any_of_one : {X : Type 0} (P : X → Type 0) (x : X) → Any P (x ∷ []) → P x
any_of_one P x (zero, y, within, same, holds) = subst P (sym same) holds
any_of_one P x (suc k, y, within, same, holds) = absurd (omega (arith, within))

pub one_recorded : OfTheirChannel → (version : ℕ) (c : RecordedChannel) (bytes : List ℕ) → IsOutputOf version c bytes → IsRecording version (c ∷ []) bytes
one_recorded theirs version c bytes o =
    let pieces = o.0 in
    let offered = o.1.0 in
    let all : All (λ (piece : PieceData). channel_of piece ≡ c.settings.channel) pieces =
    subst (λ ps. All (λ (piece : PieceData). channel_of piece ≡ c.settings.channel) ps) o.1.3 (theirs c.settings offered) in
    let kept : filter (is_of c.settings.channel) pieces ≡ pieces =
    filter_all (is_of c.settings.channel) pieces (All-weaker (λ (piece : PieceData). channel_of piece ≡ c.settings.channel)
    (λ (piece : PieceData). is_of c.settings.channel piece ≡ true) (λ piece e. eq-eqb (channel_of piece) c.settings.channel e) pieces all) in (
      pieces,
      o.2,
      record {
        named = All-weaker (λ (piece : PieceData). channel_of piece ≡ c.settings.channel)
            (λ (piece : PieceData). Any (λ (d : RecordedChannel). d.settings.channel ≡ channel_of piece) (c ∷ []))
            (λ piece e. (0, c, omega arith, refl, sym e)) pieces all;
        each = All-cons (λ (d : RecordedChannel). ArePieces d.settings d.frames d.times d.history (filter (is_of d.settings.channel) pieces)) c []
            (subst (ArePieces c.settings c.frames c.times c.history) (sym kept) o.1)
            (All-nil (λ (d : RecordedChannel). ArePieces d.settings d.frames d.times d.history (filter (is_of d.settings.channel) pieces)));
      },
    )

pub only_recorded : (version : ℕ) (c : RecordedChannel) (bytes : List ℕ) → IsRecording version (c ∷ []) bytes → IsOutputOf version c bytes
only_recorded version c bytes r =
    let pieces = r.0 in
    let of : AreOfChannels (c ∷ []) pieces = r.2 in
    let kept : filter (is_of c.settings.channel) pieces ≡ pieces =
    filter_all (is_of c.settings.channel) pieces (All-weaker (λ (piece : PieceData). Any (λ (d : RecordedChannel). d.settings.channel ≡ channel_of piece)
    (c ∷ [])) (λ (piece : PieceData). is_of c.settings.channel piece ≡ true)
    (λ piece a. eq-eqb (channel_of piece) c.settings.channel (sym (any_of_one (λ (d : RecordedChannel). d.settings.channel ≡ channel_of piece) c a)))
    pieces of.named) in
    (pieces, subst (ArePieces c.settings c.frames c.times c.history) kept (of.each 0 c (omega arith)), r.1)

-- ---- no frames

no_frames : (offered : List OfferedFrame) → frames_of offered ≡ [] → offered ≡ []
no_frames [] none = refl
no_frames (f ∷ fs) none = cc

end_alone : (version : ℕ) (settings : LaneSettings) → writer_output version (OfEnd settings.channel 0 0 0 ∷ [])
    ≡ piece_packet (OfEnd settings.channel 0 0 0) version 0
end_alone version settings = append-nil (piece_packet (OfEnd settings.channel 0 0 0) version 0)

pub end_recorded : OfTheirChannel → (version : ℕ) (settings : LaneSettings) (history : List Version) (bytes : List ℕ)
    → bytes ≡ piece_packet (OfEnd settings.channel 0 0 0) version 0
    → IsRecording version (record { settings = settings; frames = []; times = []; history = history } ∷ []) bytes
end_recorded theirs version settings history bytes is =
    one_recorded theirs version (record { settings = settings; frames = []; times = []; history = history }) bytes
    (OfEnd settings.channel 0 0 0 ∷ [], ([], tt, refl, refl, refl), is ∙ sym (end_alone version settings))

pub only_end : (version : ℕ) (settings : LaneSettings) (history : List Version) (bytes : List ℕ)
    → IsRecording version (record { settings = settings; frames = []; times = []; history = history } ∷ []) bytes
    → bytes ≡ piece_packet (OfEnd settings.channel 0 0 0) version 0
only_end version settings history bytes r =
    let o = only_recorded version (record { settings = settings; frames = []; times = []; history = history }) bytes r in
    let none = no_frames o.1.0 o.1.2 in
    let pieces : OfEnd settings.channel 0 0 0 ∷ [] ≡ o.0 = ap (channel_pieces settings) (sym none) ∙ o.1.3 in
    o.2 ∙ (ap (writer_output version) (sym pieces) ∙ end_alone version settings)
