-- What a channel's slot is, and what it becomes.
use Rattle.std.specs.Prelude.{ℕ, ◌≡◌, ◌≤◌, ◌+◌, List, [], ◌∷◌, ◌++◌, length, map}
use Rattle.bpf_insn.specs.declared.insn.Insn.{Insn}
use Rattle.rec_channel.specs.declared.limits.TheConstants.{MAX_VERSIONS}
use Rattle.rec_channel.specs.History.{Version, IsHistory}

-- a channel's slot: its history, how many frames were drawn, and how many may be
pub record SlotState : Type 0 where
  pub history : List Version
  pub offered : ℕ
  pub max : ℕ

-- the versions of programs and marks that stand side by side
abbrev pub versions_of : List (List Insn) → List ℕ → List Version
versions_of [] marks = []
versions_of (program ∷ programs) [] = []
versions_of (program ∷ programs) (mark ∷ marks) =
    record { program = program; mark = mark } ∷ versions_of programs marks

-- the programs of versions, and their marks
abbrev pub programs_in : List Version → List (List Insn)
programs_in history = map (λ (v : Version). v.program) history

abbrev pub marks_in : List Version → List ℕ
marks_in history = map (λ (v : Version). v.mark) history

-- the slot that keeps these programs and marks
abbrev pub slot_of : List (List Insn) → List ℕ → ℕ → ℕ → SlotState
slot_of programs marks offered max =
    record { history = versions_of programs marks; offered = offered; max = max }

-- the slot of a channel whose first program is this one, with no frame drawn
abbrev pub opening_slot : List Insn → ℕ → SlotState
opening_slot program max =
    record { history = record { program = program; mark = 0 } ∷ []; offered = 0; max = max }

-- a slot after one more frame
abbrev pub one_frame_later : SlotState → SlotState
one_frame_later slot = record slot { offered = slot.offered + 1 }

-- a slot after this program is installed: its mark is the count of the frames drawn before
abbrev pub with_version : SlotState → List Insn → SlotState
with_version slot program =
    record slot { history = slot.history ++ record { program = program; mark = slot.offered } ∷ [] }

-- each program has its mark, the versions are a history, at most `max` frames were drawn,
-- and there is room for all versions
pub record IsSlot
    (programs : List (List Insn)) (marks : List ℕ)
    (room_for_programs room_for_marks offered max : ℕ) : Type 0 where
  pub paired : length programs ≡ length marks
  pub history : IsHistory offered (versions_of programs marks)
  pub within : offered ≤ max
  pub few : length programs ≤ MAX_VERSIONS
  pub programs_fit : MAX_VERSIONS ≤ room_for_programs
  pub marks_fit : MAX_VERSIONS ≤ room_for_marks
