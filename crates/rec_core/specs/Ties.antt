-- A recording as a run: the events that a recording of some channels is, and the world that they
-- lead to.
use Rattle.std.specs.Prelude.{ℕ, ◌≡◌, ◌-◌, ◌≤◌, List, [], ◌∷◌, ◌++◌, length, map, take, drop, All}
use Rattle.std.specs.Prelude.{None, Some, slice_get, Result, Ok}
use Rattle.std.specs.List.{flat_map}
use Rattle.eth_frame.specs.Frame.{FrameData}
use Rattle.rec_channel.specs.declared.limits.TheConstants.{MAX_VERSIONS}
use Rattle.rec_channel.specs.History.{Version, IsHistory}
use Rattle.rec_channel.specs.Slots.{programs_in}
use Rattle.rec_lane.specs.Offered.{AreUntimed}
use Rattle.rec_lane.specs.Pieces.{PieceData, channel_of}
use Rattle.rec_writer.specs.Recording.{RecordedChannel}
use Rattle.rec_core.specs.declared.reply.Reply.{Reply}
use Rattle.rec_core.specs.declared.fault.CoreFault.{CoreFault}
use Rattle.rec_core.specs.Openings.{SpecData, AreSpecs, HaveFilters}
use Rattle.rec_core.specs.World.{ChannelState, WorldState, EventData, WorldRun, opening_world}
use Rattle.rec_core.specs.World.EventData.{OfTake, OfTime, OfInstall, OfSend, OfWrite, OfClose}
use Rattle.rec_core.specs.Written.{AreEnded, recorded_channels}

-- ---- the events

-- these frames are taken, one after the other, and behind each of them its time marks
abbrev pub takes_of : (channel : ℕ) → List FrameData → List (List ℕ) → List EventData
takes_of channel [] times = []
takes_of channel (f ∷ fs) [] = OfTake channel f ∷ takes_of channel fs []
takes_of channel (f ∷ fs) (ts ∷ times) =
    OfTake channel f
    ∷ (map (λ (counter : ℕ). OfTime channel counter) ts ++ takes_of channel fs times)

-- from the frame with this number on, in the order of the marks: the frames before the mark of the
-- next version are taken, and the version is installed; last the frames that are left
abbrev pub moves_from :
    (channel number : ℕ) → List FrameData → List (List ℕ) → List Version → List EventData
moves_from channel number frames times [] = takes_of channel frames times
moves_from channel number frames times (v ∷ vs) =
    takes_of channel (take (v.mark - number) frames) (take (v.mark - number) times)
    ++ OfInstall channel v.program
    ∷ moves_from channel v.mark (drop (v.mark - number) frames) (drop (v.mark - number) times) vs

-- the takes and installs of a channel, whose first version is there before any event
abbrev pub moves_of : RecordedChannel → List EventData
moves_of c = moves_from c.settings.channel 0 c.frames c.times (drop 1 c.history)

abbrev pub close_of : RecordedChannel → EventData
close_of c = OfClose c.settings.channel

-- the piece is sent, and written at once
abbrev pub passes_of : PieceData → List EventData
passes_of piece = OfSend (channel_of piece) ∷ OfWrite (channel_of piece) ∷ []

-- each channel has its takes and installs; then each is closed; then each piece is sent and
-- written, in their order
abbrev pub events_of : List RecordedChannel → List PieceData → List EventData
events_of channels pieces =
    flat_map moves_of channels ++ (map close_of channels ++ flat_map passes_of pieces)

-- ---- the run

-- the answers to events of which none is refused
abbrev pub unrefused : List Reply → List (Result Reply CoreFault)
unrefused replies =
    map (λ (reply : Reply). let answer : Result Reply CoreFault = Ok reply in answer) replies

-- where packets have no span, no time mark is noted
abbrev pub IsTimedBySpan : RecordedChannel → Type 0
IsTimedBySpan c = c.settings.span ≡ None → AreUntimed c.times

-- the channel has the settings and the first program of the spec, its history is one, there are not
-- more frames and versions than may be, and time marks only where packets have a span
pub record IsOfSpec (spec : SpecData) (c : RecordedChannel) : Type 0 where
  pub settings_are : c.settings ≡ spec.settings
  pub program_is : slice_get (programs_in c.history) 0 ≡ Some spec.program
  pub past : IsHistory (length c.frames) c.history
  pub within : length c.frames ≤ spec.max
  pub few : length c.history ≤ MAX_VERSIONS
  pub untimed : IsTimedBySpan c

-- with rings of this size, the events of these channels and pieces, done from the opening world of
-- these specs, have no refusal; they lead to the world of these channels, each with the most frames
-- that its spec allows, in which each is closed, all its pieces are sent and written, and what was
-- written are these pieces, in their order
pub record IsRunOfWorld
    (ring : ℕ) (specs : List SpecData) (channels : List RecordedChannel) (pieces : List PieceData)
    : Type 0 where
  pub are_specs : AreSpecs specs
  pub filters : HaveFilters specs
  pub replies : List Reply
  pub new : WorldState
  pub run :
      WorldRun ring (opening_world specs) (events_of channels pieces) (unrefused replies) new
  pub channels_are : recorded_channels new ≡ channels
  pub most_are : map (λ (c : ChannelState). c.max) new.channels
      ≡ map (λ (s : SpecData). s.max) specs
  pub ended : AreEnded new
  pub sent : All (λ (c : ChannelState). c.sent ≡ c.written) new.channels
  pub out_is : new.out ≡ pieces
