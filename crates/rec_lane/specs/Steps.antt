-- What the steps of a lane do to what it holds, and the pieces that they give.
use Rattle.std.specs.Prelude.{ℕ, ◌≡◌, ◌+◌, ◌≤◌, ◌<◌, ◌^◌, ◌==◌, Bool, true, false, if◌then◌else◌}
use Rattle.std.specs.Prelude.{List, [], ◌∷◌, ◌++◌, map, Option, None, Some}
use Rattle.std.specs.Option.{ForSome}
use Rattle.bpf_insn.specs.declared.insn.Insn.{Insn}
use Rattle.bpf_machine.specs.Machine.{Runs}
use Rattle.eth_frame.specs.Frame.{FrameData}
use Rattle.ch11_packet.specs.Building.{OpenBody, open_of}
use Rattle.ch11_packet.specs.declared.limit.TheConstants.{MIN_LIMIT}
use Rattle.rec_lane.specs.Parts.{as_part}
use Rattle.rec_lane.specs.Packets.{has_room}
use Rattle.rec_lane.specs.Moments.{is_span_due}
use Rattle.rec_lane.specs.Pieces.{LaneSettings, PieceData, data_piece}
use Rattle.rec_lane.specs.Pieces.PieceData.{OfProgram}
use Rattle.rec_lane.specs.Lanes.{LaneState, VersionProgram}

-- ---- the open packet

-- whether there are no frames
abbrev pub is_none : List FrameData → Bool
is_none [] = true
is_none (f ∷ fs) = false

-- the lane after its open packet went out, if it had frames
abbrev pub packet_closed : LaneState → LaneState
packet_closed lane = record lane {
  pending = [];
  ready = if is_none lane.pending then lane.ready else false;
}

-- the piece of that packet
abbrev pub closed_pieces : LaneState → List PieceData
closed_pieces lane = map (data_piece lane.settings) (as_part lane.pending)

-- ---- an accepted frame

-- the lane after the frame is in the open packet
abbrev pub frame_added : LaneState → FrameData → LaneState
frame_added lane f = record lane { kept = lane.kept + 1; pending = lane.pending ++ f ∷ [] }

-- the frame is added to the open packet, or to the next one if it has no room there
abbrev pub frame_kept : LaneState → FrameData → LaneState
frame_kept lane f =
    if has_room lane.settings.limit lane.pending f
    then frame_added lane f
    else frame_added (packet_closed lane) f

-- the packet that goes out then
abbrev pub kept_pieces : LaneState → FrameData → List PieceData
kept_pieces lane f =
    if has_room lane.settings.limit lane.pending f then [] else closed_pieces lane

-- ---- a frame that is offered

-- whether the open packet is closed at this counter, since that is a span after its first frame
abbrev pub closes_at : LaneState → (counter : ℕ) → Bool
closes_at lane counter = is_span_due lane.settings.span lane.pending counter

-- whether a frame with this counter begins a packet where packets have a span: none is open, or one
-- that is closed at it
abbrev pub begins : Option ℕ → List FrameData → (counter : ℕ) → Bool
begins None frames counter = false
begins (Some span) [] counter = true
begins (Some span) (f ∷ fs) counter = is_span_due (Some span) (f ∷ fs) counter

-- a packet is open, where packets have a span
abbrev pub IsBegun : Option ℕ → List FrameData → Type 0
IsBegun None frames = Unit {0}
IsBegun (Some span) [] = ⊥
IsBegun (Some span) (f ∷ fs) = Unit {0}

-- the lane after a frame that closed the open packet so, for which its program returned this value
abbrev pub frame_begun : LaneState → FrameData → ℕ → LaneState
frame_begun lane f value =
    if value == 0 then packet_closed lane else frame_added (packet_closed lane) f

-- the lane after a frame for which its program returned this value
abbrev pub frame_judged : LaneState → FrameData → ℕ → LaneState
frame_judged lane f value =
    if closes_at lane f.counter then frame_begun lane f value
    else if value == 0 then lane
    else frame_kept lane f

abbrev pub judged_pieces : LaneState → FrameData → ℕ → List PieceData
judged_pieces lane f value =
    if closes_at lane f.counter then closed_pieces lane
    else if value == 0 then []
    else kept_pieces lane f

-- ---- a time mark

-- the lane after a time mark
abbrev pub time_met : LaneState → (counter : ℕ) → LaneState
time_met lane counter = if closes_at lane counter then packet_closed lane else lane

abbrev pub time_pieces : LaneState → (counter : ℕ) → List PieceData
time_pieces lane counter = if closes_at lane counter then closed_pieces lane else []

-- the lane after a frame is counted
abbrev pub frame_counted : LaneState → FrameData → LaneState
frame_counted lane f =
    record lane { offered = lane.offered + 1; counter = f.counter }

-- the lane once a new version is in force
abbrev pub version_begun : LaneState → ℕ → List Insn → LaneState
version_begun lane version program =
    record lane { current = Some (record { version = version; program = program }) }

-- the piece of its program, at its first frame
abbrev pub begun_piece : LaneState → ℕ → List Insn → FrameData → PieceData
begun_piece lane version program f =
    OfProgram lane.settings.channel f.counter version lane.offered program

-- the lane after the first frame of a version, for which the program returned this value
abbrev pub frame_of_new_version : LaneState → ℕ → List Insn → FrameData → ℕ → LaneState
frame_of_new_version lane version program f value =
    let begun = frame_counted (version_begun (packet_closed lane) version program) f in
    if value == 0 then begun else frame_added begun f

-- the packet before that version, and its program
abbrev pub begun_pieces : LaneState → ℕ → List Insn → FrameData → List PieceData
begun_pieces lane version program f =
    closed_pieces lane ++ begun_piece lane version program f ∷ []

-- the version's program returns this value on a view
abbrev pub RunsAs : Option VersionProgram → List ℕ → ℕ → Type 0
RunsAs None view value = ⊥
RunsAs (Some current) view value = (steps : ℕ) × Runs current.program view steps value

-- ---- what a lane's fields hold

-- the program of the version that a lane met last
abbrev pub program_met : Option VersionProgram → Option (List Insn)
program_met None = None
program_met (Some current) = Some current.program

-- where packets have a span, this is the counter of the open packet's first frame
abbrev pub IsFirst : Option ℕ → List FrameData → (first : ℕ) → Type 0
IsFirst None frames first = Unit {0}
IsFirst (Some span) [] first = Unit {0}
IsFirst (Some span) (f ∷ fs) first = first ≡ f.counter

-- the builders are those of the settings, the spare one has no frames, and the program that is laid
-- out for running is that of the version
pub record IsLane
    (settings : LaneSettings) (offered kept counter first : ℕ) (packet : OpenBody)
    (spare : Option OpenBody) (current : Option VersionProgram)
    (prepared : Option (List Insn)) : Type 0 where
  pub packet_is : packet ≡ open_of packet.frames settings.net settings.speed settings.limit
  pub spare_is :
      ForSome spare (λ b. b ≡ open_of [] settings.net settings.speed settings.limit)
  pub roomy : MIN_LIMIT ≤ settings.limit
  pub kept_some : kept ≤ offered
  pub counter_fits : counter < 2 ^ 48
  pub first_is : IsFirst settings.span packet.frames first
  pub first_fits : first < 2 ^ 48
  pub prepared_is : prepared ≡ program_met current
