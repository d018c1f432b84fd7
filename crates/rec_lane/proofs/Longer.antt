-- What a lane does with a frame, said of frames and a history.
use Rattle.std.proofs.Common.{ℕ, ◌≡◌, List, [], ◌∷◌, ◌++◌, length, drop, refl, sym, ◌∙◌, ap, subst, arith}
use Rattle.std.proofs.lemmas.List.{length-map}
use Rattle.eth_frame.specs.Frame.{FrameData}
use Rattle.rec_channel.specs.History.{Version}
use Rattle.rec_lane.specs.Offered.{OfferedFrame, AllMet, frames_of, times_of}
use Rattle.rec_lane.specs.Parts.{BeginsList}
use Rattle.rec_lane.specs.Pieces.{LaneSettings, PieceData, pieces_so_far, channel_pieces, ArePieces, ArePiecesSoFar}
use Rattle.rec_lane.specs.Lanes.{MarkedFrom}
use Rattle.rec_lane.proofs.FramesMet.{OneInForce, OneRun, LeavesPast, one_list, later_list, from_front, heads}
use Rattle.rec_lane.proofs.Beginnings.{begin_all}

-- the offered frames in front of some more
front_of : (frames more : List FrameData) (times after : List (List ℕ)) (offered : List OfferedFrame) → length times ≡ length frames
    → frames_of offered ≡ frames ++ more → times_of offered ≡ times ++ after
    → (front : List OfferedFrame) × (back : List OfferedFrame) × (frames_of front ≡ frames) × (front ++ back ≡ offered) × (times_of front ≡ times)
front_of [] more [] after offered long same timed = ([], offered, refl, refl, refl)
front_of [] more (t ∷ ts) after offered long same timed = absurd (omega (arith, long))
front_of (f ∷ fs) more [] after offered long same timed = absurd (omega (arith, long))
front_of (f ∷ fs) more (t ∷ ts) after [] long same timed = absurd (let e = ap (λ (xs : List FrameData). length xs) same in omega (arith, e))
front_of (f ∷ fs) more (t ∷ ts) after (o ∷ os) long same timed =
    let rest = front_of fs more ts after os (omega (arith, long)) (ap (λ xs. drop 1 xs) same) (ap (λ xs. drop 1 xs) timed) in (
      o ∷ rest.0,
      rest.1,
      ap (λ x. x ∷ frames_of rest.0) (heads o.frame f (frames_of os) (fs ++ more) same) ∙ ap (λ xs. f ∷ xs) rest.2,
      ap (λ xs. o ∷ xs) rest.3,
      ap (λ x. x ∷ times_of rest.0) (heads o.times t (times_of os) (ts ++ after) timed) ∙ ap (λ xs. t ∷ xs) rest.4,
    )

pub begin_in_history : OneInForce → OneRun → LeavesPast
    → (settings : LaneSettings) (frames more : List FrameData) (times after : List (List ℕ)) (history later : List Version) (so_far all : List PieceData)
    → MarkedFrom (length frames) later → ArePiecesSoFar settings frames times history so_far
    → ArePieces settings (frames ++ more) (times ++ after) (history ++ later) all → BeginsList so_far all
begin_in_history one run leaves settings frames more times after history later so_far all marked a b =
    let count : length frames ≡ length a.0 = ap (λ (fs : List FrameData). length fs) (sym a.2) ∙ length-map a.0 (λ (o : OfferedFrame). o.frame) in
    let timed : length times ≡ length a.0 = ap (λ (ts : List (List ℕ)). length ts) (sym a.4) ∙ length-map a.0 (λ (o : OfferedFrame). o.times) in
    let parts = front_of frames more times after b.0 (timed ∙ sym count) b.2 b.4 in
    let met_a : AllMet (history ++ later) a.0 = later_list leaves history later a.0 (subst (λ n. MarkedFrom n later) count marked) a.1 in
    let met_b : AllMet (history ++ later) parts.0 = from_front (history ++ later) 0 parts.0 parts.1
    (subst (λ o. AllMet (history ++ later) o) (sym parts.3) b.1) in
    let same : a.0 ≡ parts.0 = one_list one run (history ++ later) a.0 parts.0 met_a met_b (a.2 ∙ sym parts.2) (a.4 ∙ sym parts.4) in
    let begins = begin_all settings parts.0 parts.1 in (
      begins.0,
      ap (λ ps. ps ++ begins.0) (sym a.3 ∙ ap (λ o. pieces_so_far settings o) same)
          ∙ (begins.1 ∙ (ap (λ o. channel_pieces settings o) parts.3 ∙ b.3)),
    )
