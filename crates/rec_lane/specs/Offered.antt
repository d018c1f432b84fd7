-- Frames that were offered to a channel, and those of them that its filter accepted.
use Rattle.std.specs.Prelude.{ℕ, ◌≡◌, ◌+◌, ◌==◌, Bool, not, List, [], ◌∷◌, ◌++◌, map, All, Option}
use Rattle.std.specs.Prelude.{None, Some, slice_get}
use Rattle.std.specs.List.{filter}
use Rattle.bpf_insn.specs.declared.insn.Insn.{Insn}
use Rattle.bpf_machine.specs.Machine.{Runs}
use Rattle.eth_frame.specs.Frame.{FrameData, view}
use Rattle.rec_channel.specs.History.{Version, InForce}
use Rattle.rec_channel.specs.Slots.{programs_in}

-- a frame that was offered: its number, the version and the program that were in force at it, the
-- value that the program returned, and the counters of the time marks after it, before the next
-- frame
pub record OfferedFrame : Type 0 where
  pub number : ℕ
  pub frame : FrameData
  pub version : ℕ
  pub program : List Insn
  pub value : ℕ
  pub times : List ℕ

-- the frames themselves, and the time marks after each
abbrev pub frames_of : List OfferedFrame → List FrameData
frames_of offered = map (λ (f : OfferedFrame). f.frame) offered

abbrev pub times_of : List OfferedFrame → List (List ℕ)
times_of offered = map (λ (f : OfferedFrame). f.times) offered

-- the frames with one time mark more, after the last of them, and the time marks then; one before
-- the first frame is of none
abbrev pub with_time : OfferedFrame → ℕ → OfferedFrame
with_time f counter = record f { times = f.times ++ counter ∷ [] }

abbrev pub time_noted : List OfferedFrame → ℕ → List OfferedFrame
time_noted [] counter = []
time_noted (f ∷ []) counter = with_time f counter ∷ []
time_noted (f ∷ g ∷ gs) counter = f ∷ time_noted (g ∷ gs) counter

abbrev pub time_added : List (List ℕ) → ℕ → List (List ℕ)
time_added [] counter = []
time_added (t ∷ []) counter = (t ++ counter ∷ []) ∷ []
time_added (t ∷ u ∷ us) counter = t ∷ time_added (u ∷ us) counter

-- where packets have no span, a time mark is passed over
abbrev pub noted_with : Option ℕ → List OfferedFrame → ℕ → List OfferedFrame
noted_with None offered counter = offered
noted_with (Some span) offered counter = time_noted offered counter

abbrev pub added_with : Option ℕ → List (List ℕ) → ℕ → List (List ℕ)
added_with None times counter = times
added_with (Some span) times counter = time_added times counter

-- no time mark came
abbrev pub AreUntimed : List (List ℕ) → Type 0
AreUntimed times = All (λ (ts : List ℕ). ts ≡ []) times

-- a value other than 0 accepts the frame
abbrev pub is_accepted : OfferedFrame → Bool
is_accepted f = not (f.value == 0)

-- the accepted frames, in order
abbrev pub accepted : List OfferedFrame → List FrameData
accepted offered = frames_of (filter is_accepted offered)

-- in this history the frame met its version, and the version's program returned its value on the
-- frame's view, which is the frame without its check sequence
pub record Met (history : List Version) (f : OfferedFrame) : Type 0 where
  pub in_force : InForce history f.number f.version
  pub program : slice_get (programs_in history) f.version ≡ Some f.program
  pub ran : (steps : ℕ) × Runs f.program (view f.frame) steps f.value

-- these frames are numbered one after the other, and each met in this history what it says
abbrev pub MetFrom : List Version → ℕ → List OfferedFrame → Type 0
MetFrom history number [] = Unit {0}
MetFrom history number (f ∷ fs) =
    (f.number ≡ number) × Met history f × MetFrom history (number + 1) fs

-- these are all frames that were offered to a channel with this history
abbrev pub AllMet : List Version → List OfferedFrame → Type 0
AllMet history offered = MetFrom history 0 offered

-- of these frames, offered to a channel with this history, the accepted ones are these
abbrev pub AreAccepted : List Version → List FrameData → List FrameData → Type 0
AreAccepted history frames kept =
    (offered : List OfferedFrame)
    × AllMet history offered × (frames_of offered ≡ frames) × (accepted offered ≡ kept)
