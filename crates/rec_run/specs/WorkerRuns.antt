-- What a worker did with the frames of its source.
use Rattle.std.specs.Prelude.{ℕ, ◌≡◌, ◌≤◌, List, [], ◌∷◌, ◌++◌, length, map, All, Option, None}
use Rattle.std.specs.Prelude.{Some, IsSome}
use Rattle.std.specs.Arc.{arc_value}
use Rattle.eth_frame.specs.Frame.{FrameData, IsFrame}
use Rattle.eth_frame.specs.Source.{Left}
use Rattle.eth_frame.specs.declared.source.SourceEnding.{SourceEnding}
use Rattle.rec_channel.specs.History.{Version}
use Rattle.rec_lane.specs.Offered.{OfferedFrame, frames_of, times_of, noted_with, AreUntimed}
use Rattle.rec_lane.specs.Offered.{accepted, AllMet}
use Rattle.rec_lane.specs.Parts.{BeginsList}
use Rattle.rec_lane.specs.Pieces.{LaneSettings, PieceData, pieces_so_far, channel_pieces}
use Rattle.rec_lane.specs.Lanes.{LaneState, VersionProgram, HasMet}
use Rattle.rec_run.specs.VersionsMet.{VersionMet, AreServed}
use Rattle.rec_run.specs.Endings.{EndsAs, AreTaken, AreTimesTaken, TimesEndAs, IsOver}
use Rattle.rec_run.specs.declared.worker.versions.MetVersion.{MetVersion}
use Rattle.rec_run.specs.declared.ending.Ending.{Ending}
use Rattle.rec_run.specs.declared.ending.WorkerEnd.{WorkerEnd}
use Rattle.rec_run.specs.declared.ending.WorkerEnd.TheVariants.{Ended, Link, History}

abbrev pub met_data : MetVersion → VersionMet
met_data m = record { version = m.version; first = m.first; program = arc_value m.program }

abbrev pub versions_met : List MetVersion → List VersionMet
versions_met ms = map met_data ms

-- the last version met is that of the lane
abbrev pub IsLast : Option VersionProgram → ℕ → List VersionMet → Type 0
IsLast None number met = met ≡ []
IsLast (Some current) number met =
    (earlier : List VersionMet) × (m : VersionMet)
    × (met ≡ earlier ++ m ∷ [])
    × (m.version ≡ current.version) × (m.program ≡ current.program) × (m.first ≤ number)

-- the frames met what they say in each history that served the versions met
abbrev pub AreKnown : List VersionMet → List OfferedFrame → Type 0
AreKnown met offered =
    (history : List Version) → AreServed history (length offered) met → AllMet history offered

-- the lane has met these frames, and these are the versions that they met
pub record Stands (lane : LaneState) (met : List VersionMet) (offered : List OfferedFrame)
    : Type 0 where
  pub has_met : HasMet lane offered
  pub known : AreKnown met offered
  pub last : IsLast lane.current (length offered) met

-- where packets have no span, no time mark is noted
abbrev pub HasNoTimes : LaneSettings → List OfferedFrame → Type 0
HasNoTimes settings offered = settings.span ≡ None → AreUntimed (times_of offered)

module _ {S : Type 0}
    (left : S → Option Left) (failures : S → ℕ) (ended_as : S → Option SourceEnding) where
  -- a worker that goes on, since its source was as before: the frames that it took, and the pieces
  -- that it sent
  pub record Going
      (max : ℕ) (before after : S) (lane : LaneState) (met : List VersionMet)
      (sent : List PieceData) : Type 0 where
    pub offered : List OfferedFrame
    pub taken : AreTaken (left before) (frames_of offered) (left after)
    pub failed : failures before ≤ failures after
    pub framed : All IsFrame (frames_of offered)
    pub within : length offered ≤ max
    pub stands : Stands lane met offered
    pub sent_is : sent ≡ pieces_so_far lane.settings offered
    pub untimed : HasNoTimes lane.settings offered
    pub timed : IsSome lane.settings.span
        → AreTimesTaken (left before) (times_of offered) (left after)

  -- a worker whose channel ended so
  pub record Stopping
      (ending : Ending) (max : ℕ) (before after : S) (lane : LaneState) (met : List VersionMet)
      (sent : List PieceData) : Type 0 where
    pub offered : List OfferedFrame
    pub ends : EndsAs left failures ended_as ending before after (frames_of offered) max
    pub framed : All IsFrame (frames_of offered)
    pub within : length offered ≤ max
    pub stands : Stands lane met offered
    pub begins : BeginsList sent (pieces_so_far lane.settings offered)
    pub whole : IsOver ending → sent ≡ pieces_so_far lane.settings offered
    pub untimed : HasNoTimes lane.settings offered
    pub timed : IsSome lane.settings.span → TimesEndAs ending (left before) (times_of offered)

  -- a worker that came to this end
  abbrev pub StopsAs :
      WorkerEnd → ℕ → (before after : S) → LaneState → List VersionMet → List PieceData → Type 0
  StopsAs (Ended ending) max before after lane met sent =
      Stopping ending max before after lane met sent
  StopsAs Link max before after lane met sent = Unit {0}
  StopsAs History max before after lane met sent = Unit {0}

  -- what a worker did in all, with a lane of these settings
  pub record Ran
      (settings : LaneSettings) (max : ℕ) (ending : Ending) (before after : S)
      (met : List VersionMet) (sent : List PieceData) (count kept : ℕ) : Type 0 where
    pub offered : List OfferedFrame
    pub ends : EndsAs left failures ended_as ending before after (frames_of offered) max
    pub framed : All IsFrame (frames_of offered)
    pub within : length offered ≤ max
    pub known : AreKnown met offered
    pub count_is : count ≡ length offered
    pub kept_is : kept ≡ length (accepted offered)
    pub begins : BeginsList sent (channel_pieces settings offered)
    pub whole : IsOver ending → sent ≡ channel_pieces settings offered
    pub untimed : HasNoTimes settings offered
    pub timed : IsSome settings.span → TimesEndAs ending (left before) (times_of offered)

  -- what a worker did in all that came to this end
  abbrev pub RanAs :
      LaneSettings → ℕ → WorkerEnd → (before after : S) → List VersionMet → List PieceData
      → (count kept : ℕ) → Type 0
  RanAs settings max (Ended ending) before after met sent count kept =
      Ran settings max ending before after met sent count kept
  RanAs settings max Link before after met sent count kept = Unit {0}
  RanAs settings max History before after met sent count kept = Unit {0}

-- the lane met this frame more, and these are the versions met and the pieces sent then
abbrev pub TakesOne :
    (old new : LaneState) → (met met_then : List VersionMet) → (sent sent_then : List PieceData)
    → FrameData → (List PieceData → List PieceData → Type 0) → Type 0
TakesOne old new met met_then sent sent_then frame AreSent =
    (offered : List OfferedFrame) → Stands old met offered
    → sent ≡ pieces_so_far old.settings offered
    → (f : OfferedFrame) × (f.frame ≡ frame) × Stands new met_then (offered ++ f ∷ [])
    × AreSent sent_then (pieces_so_far new.settings (offered ++ f ∷ [])) × (f.times ≡ [])

-- the lane met this time mark more, and these are the versions met and the pieces sent then
abbrev pub TakesMark :
    (old new : LaneState) → (met met_then : List VersionMet) → (sent sent_then : List PieceData)
    → (counter : ℕ) → (List PieceData → List PieceData → Type 0) → Type 0
TakesMark old new met met_then sent sent_then counter AreSent =
    (offered : List OfferedFrame) → Stands old met offered
    → sent ≡ pieces_so_far old.settings offered
    → Stands new met_then (noted_with old.settings.span offered counter)
    × AreSent sent_then
    (pieces_so_far new.settings (noted_with old.settings.span offered counter))
