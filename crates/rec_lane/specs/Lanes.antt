-- What a lane holds, and the frames that it stands for.
use Rattle.std.specs.Prelude.{ℕ, ◌≡◌, ◌≤◌, ◌==◌, Bool, false, if◌then◌else◌, List, [], ◌∷◌, ◌++◌}
use Rattle.std.specs.Prelude.{length, All, Option, None, Some, slice_get}
use Rattle.bpf_insn.specs.declared.insn.Insn.{Insn}
use Rattle.bpf_machine.specs.Machine.{Runs}
use Rattle.eth_frame.specs.Frame.{FrameData, view}
use Rattle.rec_channel.specs.History.{Version, InForce}
use Rattle.rec_channel.specs.Slots.{programs_in}
use Rattle.rec_lane.specs.Offered.{OfferedFrame, accepted, frames_of, times_of, noted_with}
use Rattle.rec_lane.specs.Offered.{added_with, AllMet}
use Rattle.rec_lane.specs.Parts.{BeginsList}
use Rattle.rec_lane.specs.Pieces.{LaneSettings, PieceData, last_group, last_counter}
use Rattle.rec_lane.specs.Pieces.{open_group_packet, pieces_so_far}
use Rattle.rec_lane.specs.Pieces.{channel_pieces, ArePieces, ArePiecesSoFar}

-- a version and its program
pub record VersionProgram : Type 0 where
  pub version : ℕ
  pub program : List Insn

-- a lane: its settings, how many frames were offered and kept, the counter of the last one, the
-- version that it met with the program that ran, the frames of the open packet, and whether there
-- is a spare buffer
pub record LaneState : Type 0 where
  pub settings : LaneSettings
  pub offered : ℕ
  pub kept : ℕ
  pub counter : ℕ
  pub current : Option VersionProgram
  pub pending : List FrameData
  pub ready : Bool

-- a lane to which no frame was offered, without a spare buffer
abbrev pub new_lane : LaneSettings → LaneState
new_lane settings = record {
  settings = settings;
  offered = 0;
  kept = 0;
  counter = 0;
  current = None;
  pending = [];
  ready = false;
}

-- ---- what a lane stands for

-- the version that a group met, with the program of its first frame
abbrev pub version_of : List OfferedFrame → Option VersionProgram
version_of [] = None
version_of (f ∷ fs) = Some (record { version = f.version; program = f.program })

-- these are the frames that the lane has met: its counts, its last counter, its version with the
-- program that ran, and its open packet are theirs
pub record HasMet (lane : LaneState) (offered : List OfferedFrame) : Type 0 where
  pub offered_is : lane.offered ≡ length offered
  pub kept_is : lane.kept ≡ length (accepted offered)
  pub counter_is : lane.counter ≡ last_counter offered
  pub current_is : lane.current ≡ version_of (last_group offered)
  pub pending_is : lane.pending ≡ open_group_packet lane.settings (last_group offered)

-- the lane stands for these frames, with these time marks after each, offered to a channel with
-- this history
abbrev pub LaneStandsFor : LaneState → List FrameData → List (List ℕ) → List Version → Type 0
LaneStandsFor lane frames times history =
    (offered : List OfferedFrame)
    × AllMet history offered × (frames_of offered ≡ frames) × HasMet lane offered
    × (times_of offered ≡ times)

-- ---- a frame that is offered

-- whether this is the version that the lane met last
abbrev pub is_current : Option VersionProgram → ℕ → Bool
is_current None version = false
is_current (Some current) version = current.version == version

-- the program that runs at this version: that of its first frame
abbrev pub running : Option VersionProgram → ℕ → List Insn → List Insn
running None version program = program
running (Some current) version program =
    if current.version == version then current.program else program

-- the frame as it is offered to a lane
abbrev pub offered_now : LaneState → (version : ℕ) → List Insn → FrameData → ℕ → OfferedFrame
offered_now lane version program frame value = record {
  number = lane.offered;
  frame = frame;
  version = version;
  program = running lane.current version program;
  value = value;
  times = [];
}

-- the versions were installed after this number of frames
abbrev pub MarkedFrom : ℕ → List Version → Type 0
MarkedFrom number versions = All (λ (v : Version). number ≤ v.mark) versions

-- at this number the version is in force, and this is its program
pub record IsDrawn (history : List Version) (number version : ℕ)
    (program : List Insn) : Type 0 where
  pub in_force : InForce history number version
  pub program_is : slice_get (programs_in history) version ≡ Some program

-- whatever frames the lane had met, it has met this one after them
abbrev pub Meets : LaneState → LaneState → OfferedFrame → Type 0
Meets old new f =
    (before : List OfferedFrame) → HasMet old before → HasMet new (before ++ f ∷ [])

-- the pieces are those that this frame makes certain, whatever frames the lane had met
abbrev pub MakesCertain : LaneState → OfferedFrame → List PieceData → Type 0
MakesCertain old f given =
    (before : List OfferedFrame) → HasMet old before
    → pieces_so_far old.settings (before ++ f ∷ []) ≡ pieces_so_far old.settings before ++ given

-- whatever frames the lane had met, it has met this time mark after them, if its packets have a
-- span
abbrev pub MeetsTime : LaneState → LaneState → (counter : ℕ) → Type 0
MeetsTime old new counter =
    (before : List OfferedFrame) → HasMet old before
    → HasMet new (noted_with old.settings.span before counter)

-- the pieces are those that this time mark makes certain, whatever frames the lane had met
abbrev pub MakesCertainAt : LaneState → (counter : ℕ) → List PieceData → Type 0
MakesCertainAt old counter given =
    (before : List OfferedFrame) → HasMet old before
    → pieces_so_far old.settings (noted_with old.settings.span before counter)
    ≡ pieces_so_far old.settings before ++ given

-- the pieces are those that are left of all, whatever frames the lane has met
abbrev pub AreLeft : LaneState → List PieceData → Type 0
AreLeft lane given =
    (offered : List OfferedFrame) → HasMet lane offered
    → channel_pieces lane.settings offered ≡ pieces_so_far lane.settings offered ++ given

-- after this frame the lane stands for the frames with it, and these pieces became certain:
-- whatever frames and history it stood for, with versions installed since
abbrev pub TakesFrame :
    LaneState → LaneState → FrameData → (version : ℕ) → List Insn → List PieceData → Type 0
TakesFrame old new frame version program given =
    (frames : List FrameData) (times : List (List ℕ)) (history more : List Version)
    (before : List PieceData)
    → LaneStandsFor old frames times history → MarkedFrom (length frames) more
    → IsDrawn (history ++ more) (length frames) version program
    → ArePiecesSoFar old.settings frames times history before
    → LaneStandsFor new (frames ++ frame ∷ []) (times ++ [] ∷ []) (history ++ more)
    × ArePiecesSoFar old.settings (frames ++ frame ∷ []) (times ++ [] ∷ []) (history ++ more)
    (before ++ given)

-- after this time mark the lane stands for the frames with it, and these pieces became certain
abbrev pub TakesTime : LaneState → LaneState → (counter : ℕ) → List PieceData → Type 0
TakesTime old new counter given =
    (frames : List FrameData) (times : List (List ℕ)) (history : List Version)
    (before : List PieceData)
    → LaneStandsFor old frames times history
    → ArePiecesSoFar old.settings frames times history before
    → LaneStandsFor new frames (added_with old.settings.span times counter) history
    × ArePiecesSoFar old.settings frames (added_with old.settings.span times counter) history
    (before ++ given)

-- these are the last pieces: whatever frames and history the lane stands for
abbrev pub EndsLane : LaneState → List PieceData → Type 0
EndsLane lane given =
    (frames : List FrameData) (times : List (List ℕ)) (history : List Version)
    (before : List PieceData)
    → LaneStandsFor lane frames times history
    → ArePiecesSoFar lane.settings frames times history before
    → ArePieces lane.settings frames times history (before ++ given)

-- the pieces begin all pieces, whatever frames and time marks follow and whatever versions are
-- installed later
abbrev pub AreCertain :
    LaneSettings → List FrameData → List (List ℕ) → List Version → List PieceData → Type 0
AreCertain settings frames times history so_far =
    (more : List FrameData) (after : List (List ℕ)) (later : List Version) (all : List PieceData)
    → MarkedFrom (length frames) later
    → ArePieces settings (frames ++ more) (times ++ after) (history ++ later) all
    → BeginsList so_far all

-- what an offer does to offered frames it does to frames and a history
abbrev pub OffersTakeFrames : Type 0
OffersTakeFrames =
    (old new : LaneState) (frame : FrameData) (version : ℕ) (program : List Insn) (value : ℕ)
    (given : List PieceData)
    → ((steps : ℕ) × Runs (running old.current version program) (view frame) steps value)
    → Meets old new (offered_now old version program frame value)
    → MakesCertain old (offered_now old version program frame value) given
    → TakesFrame old new frame version program given

-- and so does a time mark
abbrev pub TimesTakeTimes : Type 0
TimesTakeTimes =
    (old new : LaneState) (counter : ℕ) (given : List PieceData)
    → MeetsTime old new counter → MakesCertainAt old counter given
    → TakesTime old new counter given

-- and so does an end
abbrev pub EndsAreEnds : Type 0
EndsAreEnds = (lane : LaneState) (given : List PieceData) → AreLeft lane given → EndsLane lane given
