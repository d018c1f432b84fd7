-- What a worker did in all.
use Rattle.std.proofs.Common.{◌≡◌, ℕ, List, [], ◌∷◌, ◌++◌, map, Option, None, Some, refl, sym, ap, subst, ◌∙◌, arith, inl, inr}
use Rattle.std.proofs.lemmas.List.{append-nil, append_assoc, map-append}
use Rattle.eth_frame.specs.Frame.{FrameData}
use Rattle.eth_frame.specs.Source.{Left, TimeMark, later_by}
use Rattle.eth_frame.specs.declared.source.SourceEnding.{SourceEnding}
use Rattle.eth_frame.specs.declared.source.SourceEnding.TheVariants.{Fault}
use Rattle.eth_frame.specs.declared.source.SourceFault.{SourceFault as FaultOfSource}
use Rattle.eth_frame.specs.declared.source.SourceFault.TheVariants.{Device}
use Rattle.std.specs.Prelude.{◌⊎◌}
use Rattle.rec_lane.specs.Offered.{OfferedFrame, frames_of, times_of}
use Rattle.rec_lane.specs.Parts.{BeginsList}
use Rattle.rec_lane.specs.Pieces.{LaneSettings, PieceData, pieces_so_far, channel_pieces}
use Rattle.rec_lane.specs.Lanes.{LaneState, HasMet, AreLeft, new_lane}
use Rattle.rec_lane.specs.Views.{piece_data, pieces_data}
use Rattle.rec_lane.specs.declared.piece.Piece.{Piece}
use Rattle.rec_lane.proofs.Beginnings.{begin_all}
use Rattle.rec_run.specs.VersionsMet.{VersionMet}
use Rattle.rec_run.specs.Endings.{AreFirst, AreAll, AreTaken, AreTimesTaken, HasFailed, EndsAs, IsOver}
use Rattle.rec_run.specs.WorkerRuns.{Going, Stopping, Ran, StopsAs, RanAs}
use Rattle.rec_run.specs.Endings.{IsOverThen}
use Rattle.rec_run.specs.WorkerThread.{SendsLast}
use Rattle.rec_run.specs.declared.ending.Ending.{Ending}
use Rattle.rec_run.specs.declared.ending.Ending.TheVariants.{SourceEnd, SourceFault, Memory, CountFull, Stopped}
use Rattle.rec_run.specs.declared.ending.WorkerEnd.{WorkerEnd}
use Rattle.rec_run.specs.declared.ending.WorkerEnd.TheVariants.{Ended, Link, History}
use Rattle.rec_run.proofs.Sources.{taken_first, times_begin}
use Rattle.rec_run.proofs.WorkerSteps.{begins_same}

all_first : (before : Option Left) (frames : List FrameData) (ending : SourceEnding) → AreAll before frames ending → AreFirst before frames
all_first None frames ending all = tt
all_first (Some l) frames ending all = ([], append-nil frames ∙ sym all.0)

pub begins_trans : {X : Type 0} (xs ys zs : List X) → BeginsList xs ys → BeginsList ys zs → BeginsList xs zs
begins_trans xs ys zs b c = (b.0 ++ c.0, sym (append_assoc xs b.0 c.0) ∙ ap (λ l. l ++ c.0) b.1 ∙ c.1)

module _ {S : Type 0} (left : S → Option Left) (failures : S → ℕ) (ended_as : S → Option SourceEnding) (before after : S) (max : ℕ) where
  fault_first : (fault : FaultOfSource) (frames : List FrameData)
      → AreAll (left before) frames (Fault fault) ⊎ ((fault ≡ Device) × HasFailed left failures ended_as before after frames) → AreFirst (left before) frames
  fault_first fault frames (inl all) = all_first (left before) frames _ all
  fault_first fault frames (inr failed) = failed.1.first

  -- whatever the ending, the frames came first
  pub ends_first : (ending : Ending) (frames : List FrameData) → EndsAs left failures ended_as ending before after frames max → AreFirst (left before) frames
  ends_first SourceEnd frames ends = all_first (left before) frames _ ends.1
  ends_first (SourceFault fault) frames ends = fault_first fault frames ends.2
  ends_first Memory frames ends = taken_first (left before) frames (left after) ends
  ends_first CountFull frames ends = taken_first (left before) frames (left after) ends.1
  ends_first Stopped frames ends = ends

  module _ (lane : LaneState) (met : List VersionMet) (sent sent_then : List PieceData) where
    so_far_begin : (offered : List OfferedFrame) → BeginsList (pieces_so_far lane.settings offered) (channel_pieces lane.settings offered)
    so_far_begin offered = subst (λ os. BeginsList (pieces_so_far lane.settings offered) (channel_pieces lane.settings os)) (append-nil offered)
        (begin_all lane.settings offered [])

    sent_all : (ending : Ending) → IsOver ending → Stopping left failures ended_as ending max before after lane met sent → (given : List PieceData)
        → ((offered : List OfferedFrame) → HasMet lane offered → channel_pieces lane.settings offered ≡ pieces_so_far lane.settings offered ++ given)
        → sent_then ≡ sent ++ given → Ran left failures ended_as lane.settings max ending before after met sent_then lane.offered lane.kept
    sent_all ending over s given all went =
        let is : sent_then ≡ channel_pieces lane.settings s.offered = went ∙ ap (λ ps. ps ++ given) (s.whole over) ∙ sym (all s.offered s.stands.has_met) in
        record {
          offered = s.offered;
          ends = s.ends;
          framed = s.framed;
          within = s.within;
          known = s.stands.known;
          count_is = s.stands.has_met.offered_is;
          kept_is = s.stands.has_met.kept_is;
          begins = begins_same sent_then (channel_pieces lane.settings s.offered) is;
          whole = λ o. is;
          untimed = s.untimed;
          timed = s.timed;
        }

    sent_some : (ending : Ending) → IsOver ending → Stopping left failures ended_as ending max before after lane met sent → (given : List PieceData)
        → ((offered : List OfferedFrame) → HasMet lane offered → channel_pieces lane.settings offered ≡ pieces_so_far lane.settings offered ++ given)
        → BeginsList sent_then (sent ++ given) → Ran left failures ended_as lane.settings max Stopped before after met sent_then lane.offered lane.kept
    sent_some ending over s given all part =
        let is : sent ++ given ≡ channel_pieces lane.settings s.offered = ap (λ ps. ps ++ given) (s.whole over) ∙ sym (all s.offered s.stands.has_met) in
        record {
          offered = s.offered;
          ends = ends_first ending (frames_of s.offered) s.ends;
          framed = s.framed;
          within = s.within;
          known = s.stands.known;
          count_is = s.stands.has_met.offered_is;
          kept_is = s.stands.has_met.kept_is;
          begins = subst (λ ps. BeginsList sent_then ps) is part;
          whole = λ never. absurd never;
          untimed = s.untimed;
          timed = λ some. times_begin ending (left before) (times_of s.offered) (s.timed some);
        }

    sent_none : (ending : Ending) → (¬ IsOver ending) → Stopping left failures ended_as ending max before after lane met sent → sent_then ≡ sent
        → Ran left failures ended_as lane.settings max ending before after met sent_then lane.offered lane.kept
    sent_none ending not_over s same =
        record {
          offered = s.offered;
          ends = s.ends;
          framed = s.framed;
          within = s.within;
          known = s.stands.known;
          count_is = s.stands.has_met.offered_is;
          kept_is = s.stands.has_met.kept_is;
          begins = subst (λ ps. BeginsList ps (channel_pieces lane.settings s.offered)) (sym same) (begins_trans sent _ _ s.begins (so_far_begin s.offered));
          whole = λ over. absurd (not_over over);
          untimed = s.untimed;
          timed = s.timed;
        }

    finished : (stop end : WorkerEnd) → SendsLast lane stop end sent sent_then → StopsAs left failures ended_as stop max before after lane met sent
        → RanAs left failures ended_as lane.settings max end before after met sent_then lane.offered lane.kept
    finished (Ended ending) end (inl whole) stops =
        subst (λ e. RanAs left failures ended_as lane.settings max e before after met sent_then lane.offered lane.kept) (sym whole.1)
        (sent_all ending whole.0 stops whole.2.given whole.2.left whole.2.sent_is)
    finished (Ended ending) end (inr (inl part)) stops =
        subst (λ e. RanAs left failures ended_as lane.settings max e before after met sent_then lane.offered lane.kept) (sym part.1)
        (sent_some ending part.0 stops part.2.given part.2.left part.2.part)
    finished (Ended ending) end (inr (inr none)) stops =
        subst (λ e. RanAs left failures ended_as lane.settings max e before after met sent_then lane.offered lane.kept) (sym none.1)
        (sent_none ending none.0 stops none.2)
    finished Link end (inl whole) stops = absurd whole.0
    finished Link end (inr (inl part)) stops = absurd part.0
    finished Link end (inr (inr none)) stops = subst (λ e. RanAs left failures ended_as lane.settings max e before after met sent_then lane.offered lane.kept)
        (sym none.1) tt
    finished History end (inl whole) stops = absurd whole.0
    finished History end (inr (inl part)) stops = absurd part.0
    finished History end (inr (inr none)) stops = subst (λ e. RanAs left failures ended_as lane.settings max e before after met sent_then lane.offered
        lane.kept) (sym none.1) tt

-- what a worker ran as, with the lane's counts and the rows named
pub finished_as : {S : Type 0} (left : S → Option Left) (failures : S → ℕ) (ended_as : S
    → Option SourceEnding) (before after : S) (max : ℕ) (lane : LaneState) (met : List VersionMet) (sent sent_then : List PieceData) (stop end : WorkerEnd)
    (count kept : ℕ)
    → count ≡ lane.offered → kept ≡ lane.kept → SendsLast lane stop end sent sent_then → StopsAs left failures ended_as stop max before after lane met sent
    → RanAs left failures ended_as lane.settings max end before after met sent_then count kept
finished_as left failures ended_as before after max lane met sent sent_then stop end count kept count_is kept_is last stops =
    subst (λ n. RanAs left failures ended_as lane.settings max end before after met sent_then n kept) (sym count_is)
    (subst (λ n. RanAs left failures ended_as lane.settings max end before after met sent_then lane.offered n) (sym kept_is)
    (finished left failures ended_as before after max lane met sent sent_then stop end last stops))

-- ---- the last pieces of a lane

pub last_whole : (lane : LaneState) (stop : WorkerEnd) (ending : Ending) (sent sent_then given : List Piece) → stop ≡ Ended ending → IsOver ending
    → AreLeft lane (pieces_data given) → sent_then ≡ sent ++ given
    → SendsLast lane stop (Ended ending) (pieces_data sent) (pieces_data sent_then)
last_whole lane stop ending sent sent_then given is over left went =
    inl (
      subst (λ e. IsOverThen e) (sym is) over,
      sym is,
      record {
        given = pieces_data given;
        left = left;
        sent_is = ap (λ ps. pieces_data ps) went
            ∙ map-append piece_data sent given;
      },
    )

pub last_part : (lane : LaneState) (stop end : WorkerEnd) (ending : Ending) (sent sent_then given : List Piece) → stop ≡ Ended ending → IsOver ending
    → AreLeft lane (pieces_data given) → BeginsList sent_then (sent ++ given)
    → end ≡ Ended Stopped → SendsLast lane stop end (pieces_data sent) (pieces_data sent_then)
last_part lane stop end ending sent sent_then given is over left part stopped =
    inr (inl (
      subst (λ e. IsOverThen e) (sym is) over,
      stopped,
      record {
        given = pieces_data given;
        left = left;
        part = (pieces_data part.0, sym (map-append piece_data sent_then part.0) ∙ ap (λ ps. pieces_data ps) part.1 ∙ map-append piece_data sent given);
      },
    ))

-- ---- the start

taken_none : (l : Option Left) → AreTaken l [] l
taken_none None = tt
taken_none (Some l) = (refl, refl)

later_none : (marks : List TimeMark) → map (later_by 0) marks ≡ marks
later_none [] = refl
later_none (m ∷ ms) =
    ap (λ k. let made : TimeMark = record { after = k; counter = m.counter } in made ∷ map (later_by 0) ms) (omega arith)
    ∙ ap (λ ks. m ∷ ks) (later_none ms)

times_none : (l : Option Left) → AreTimesTaken l [] l
times_none None = tt
times_none (Some l) = ([], sym (later_none l.times))

pub starts : {S : Type 0} (left : S → Option Left) (failures : S → ℕ) (ended_as : S
    → Option SourceEnding) (source : S) (max : ℕ) (lane : LaneState) (settings : LaneSettings) (met : List VersionMet) (sent : List PieceData)
    → lane ≡ new_lane settings → met ≡ [] → sent ≡ [] → Going left failures ended_as max source source lane met sent
starts left failures ended_as source max lane settings met sent lane_is none_met none_sent =
    subst (λ l. Going left failures ended_as max source source l met sent) (sym lane_is) (record {
      offered = [];
      taken = taken_none (left source);
      failed = omega arith;
      framed = λ k d low. absurd (omega (arith, low));
      within = omega arith;
      stands = record {
        has_met = record { offered_is = refl; kept_is = refl; counter_is = refl; current_is = refl; pending_is = refl };
        known = λ history served. tt;
        last = none_met;
      };
      sent_is = none_sent;
      untimed = λ none k d low. absurd (omega (arith, low));
      timed = λ some. times_none (left source);
    })
