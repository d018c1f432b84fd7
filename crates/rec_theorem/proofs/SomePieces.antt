-- Channels side by side have pieces: those of the first channel, then those of the next, and so on.
use Rattle.std.proofs.Common.{ℕ, suc, ◌≡◌, ◌≢◌, List, [], ◌∷◌, ◌++◌, All, refl, sym, ◌∙◌, ap, subst, arith, cond, eq-eqb}
use Rattle.std.specs.Prelude.{length}
use Rattle.std.specs.List.{filter, Any}
use Rattle.std.proofs.lemmas.Bool.{ne_eqb}
use Rattle.std.proofs.lemmas.List.{append-nil, length-map, get_or-map}
use Rattle.std.proofs.lemmas.List.Elements.{All-nil, All-cons, All-head, All-tail, All-append, All-weaker, filter-append}
use Rattle.eth_frame.specs.Frame.{FrameData}
use Rattle.rec_channel.specs.History.{Version, IsHistory}
use Rattle.rec_lane.specs.Offered.{OfferedFrame, AllMet, frames_of, times_of}
use Rattle.rec_lane.specs.Pieces.{PieceData, channel_of, channel_pieces, ArePieces}
use Rattle.rec_writer.specs.Numbers.{AreDistinctChannels}
use Rattle.rec_writer.specs.Recording.{RecordedChannel, is_of, AreOfChannels}
use Rattle.rec_core.proofs.ChannelServing.{OfTheirChannel}
use Rattle.rec_theorem.specs.Existence.{channel_ids}
use Rattle.rec_theorem.specs.Recordable.{IsRecordable, AreRecordable}
use Rattle.rec_theorem.proofs.JoinedLists.{All_with}

-- frames of a history meet some versions
abbrev pub SomeOffered : Type 0
SomeOffered = (count : ℕ) (history : List Version) (frames : List FrameData) (times : List (List ℕ)) → IsHistory count history
    → length times ≡ length frames
    → (offered : List OfferedFrame) × AllMet history offered × (frames_of offered ≡ frames) × (times_of offered ≡ times)

-- ---- one channel

record Own (c : RecordedChannel) : Type 0 where
  pieces : List PieceData
  are : ArePieces c.settings c.frames c.times c.history pieces
  own : All (λ (p : PieceData). channel_of p ≡ c.settings.channel) pieces

own_pieces : SomeOffered → OfTheirChannel → (c : RecordedChannel) → IsRecordable c → Own c
own_pieces some theirs c is =
    let offered = some (length c.frames) c.history c.frames c.times is.history is.timed in
    record {
      pieces = channel_pieces c.settings offered.0;
      are = (offered.0, offered.1, offered.2, refl, offered.3);
      own = theirs c.settings offered.0;
    }

-- ---- which of the pieces are of a channel

all_left : (channel : ℕ) (ps : List PieceData) → All (λ (p : PieceData). channel_of p ≡ channel) ps → filter (is_of channel) ps ≡ ps
all_left channel [] all = refl
all_left channel (p ∷ ps) all =
    ap (λ b. cond b (p ∷ filter (is_of channel) ps) (filter (is_of channel) ps))
    (eq-eqb (channel_of p) channel (All-head (λ (q : PieceData). channel_of q ≡ channel) p ps all))
    ∙ ap (λ qs. p ∷ qs) (all_left channel ps (All-tail (λ (q : PieceData). channel_of q ≡ channel) p ps all))

none_left : (channel : ℕ) (ps : List PieceData) → All (λ (p : PieceData). channel_of p ≢ channel) ps → filter (is_of channel) ps ≡ []
none_left channel [] all = refl
none_left channel (p ∷ ps) all =
    ap (λ b. cond b (p ∷ filter (is_of channel) ps) (filter (is_of channel) ps))
    (ne_eqb (channel_of p) channel (All-head (λ (q : PieceData). channel_of q ≢ channel) p ps all))
    ∙ none_left channel ps (All-tail (λ (q : PieceData). channel_of q ≢ channel) p ps all)

-- ---- one channel more

module _ (c : RecordedChannel) (cs : List RecordedChannel) (own : Own c) (rest : List PieceData) (of : AreOfChannels cs rest)
    (apart : All (λ (d : RecordedChannel). d.settings.channel ≢ c.settings.channel) cs) where
  abbrev both : List PieceData
  both = own.pieces ++ rest

  abbrev Named : PieceData → Type 0
  Named p = Any (λ (d : RecordedChannel). d.settings.channel ≡ channel_of p) (c ∷ cs)

  abbrev Each : RecordedChannel → Type 0
  Each d = ArePieces d.settings d.frames d.times d.history (filter (is_of d.settings.channel) both)

  -- pieces of the other channels are none of this one
  others : All (λ (p : PieceData). channel_of p ≢ c.settings.channel) rest
  others = All-weaker (λ (p : PieceData). Any (λ (d : RecordedChannel). d.settings.channel ≡ channel_of p) cs)
      (λ (p : PieceData). channel_of p ≢ c.settings.channel)
      (λ p any same. subst (λ (d : RecordedChannel). d.settings.channel ≢ c.settings.channel) any.3 (apart any.0 any.1 any.2) (any.4 ∙ same)) rest of.named

  here : filter (is_of c.settings.channel) both ≡ own.pieces
  here =
      filter-append (is_of c.settings.channel) own.pieces rest
      ∙ ap (λ ps. ps ++ filter (is_of c.settings.channel) rest) (all_left c.settings.channel own.pieces own.own)
      ∙ ap (λ ps. own.pieces ++ ps) (none_left c.settings.channel rest others)
      ∙ append-nil own.pieces

  there : (d : RecordedChannel) → d.settings.channel ≢ c.settings.channel → filter (is_of d.settings.channel) both ≡ filter (is_of d.settings.channel) rest
  there d differs =
      filter-append (is_of d.settings.channel) own.pieces rest
      ∙ ap (λ ps. ps ++ filter (is_of d.settings.channel) rest)
      (none_left d.settings.channel own.pieces (All-weaker (λ (p : PieceData). channel_of p ≡ c.settings.channel)
      (λ (p : PieceData). channel_of p ≢ d.settings.channel) (λ p e same. differs (sym same ∙ e)) own.pieces own.own))

  one_more : AreOfChannels (c ∷ cs) both
  one_more = record {
    named = All-append Named own.pieces rest
        (All-weaker (λ (p : PieceData). channel_of p ≡ c.settings.channel) Named (λ p e. (0, c, omega arith, refl, sym e)) own.pieces own.own)
        (All-weaker (λ (p : PieceData). Any (λ (d : RecordedChannel). d.settings.channel ≡ channel_of p) cs) Named
        (λ p any. (let within = any.2 in (suc any.0, any.1, omega (arith, within), any.3, any.4))) rest of.named);
    each = All-cons Each c cs (subst (ArePieces c.settings c.frames c.times c.history) (sym here) own.are)
        (All_with (λ (d : RecordedChannel). d.settings.channel ≢ c.settings.channel)
        (λ (d : RecordedChannel). ArePieces d.settings d.frames d.times d.history (filter (is_of d.settings.channel) rest)) Each
        (λ d differs are. subst (ArePieces d.settings d.frames d.times d.history) (sym (there d differs)) are) cs apart of.each);
  }

-- ---- all channels

-- the first ID is none of the others
first_apart : (c : RecordedChannel) (cs : List RecordedChannel) → AreDistinctChannels (channel_ids (c ∷ cs))
    → All (λ (d : RecordedChannel). d.settings.channel ≢ c.settings.channel) cs
first_apart c cs distinct = λ k d within same.
    let id : RecordedChannel → ℕ = λ x. x.settings.channel in
    let long = length-map cs id in
    distinct 0 (suc k) (id d) (omega arith) (omega (arith, within, long)) (sym same ∙ sym (get_or-map id cs k d (id d) within))

pub some_pieces : SomeOffered → OfTheirChannel → (channels : List RecordedChannel) → AreRecordable channels → AreDistinctChannels (channel_ids channels)
    → (pieces : List PieceData) × AreOfChannels channels pieces
some_pieces some theirs [] are distinct = (
  [],
  record {
    named =
        All-nil (λ (p : PieceData). Any (λ (d : RecordedChannel). d.settings.channel ≡ channel_of p) []);
    each =
        All-nil (λ (d : RecordedChannel). ArePieces d.settings d.frames d.times d.history []);
  },
)
some_pieces some theirs (c ∷ cs) are distinct =
    let own = own_pieces some theirs c (All-head IsRecordable c cs are) in
    let rest = some_pieces some theirs cs (All-tail IsRecordable c cs are)
    (λ i j d before within. distinct (suc i) (suc j) d (omega (arith, before)) (omega (arith, within))) in
    (own.pieces ++ rest.0, one_more c cs own rest.0 rest.1 (first_apart c cs distinct))
