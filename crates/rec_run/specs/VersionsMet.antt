-- The versions of a filter that a worker met, how their list grows, and how they stand beside a
-- channel's history.
use Rattle.std.specs.Prelude.{ℕ, ◌≡◌, ◌<◌, ◌≤◌, List, [], ◌∷◌, Some, slice_get, ◌-◌, ◌==◌, Bool}
use Rattle.std.specs.Prelude.{false, if◌then◌else◌, ◌++◌, length, Option, None}
use Rattle.bpf_insn.specs.declared.insn.Insn.{Insn}
use Rattle.rec_channel.specs.History.{Version}

-- a version that some frame met, the number of the first such frame, and the program
pub record VersionMet : Type 0 where
  pub version : ℕ
  pub first : ℕ
  pub program : List Insn

-- in this history the version is in force from its first frame on, up to this number
pub record IsServed (history : List Version) (until : ℕ) (m : VersionMet) : Type 0 where
  pub entry : Version
  pub stands : slice_get history m.version ≡ Some entry
  pub program_is : entry.program ≡ m.program
  pub begun : entry.mark ≤ m.first
  pub ends : (later : ℕ) (v : Version) →
      slice_get history later ≡ Some v → m.version < later → until ≤ v.mark

-- the first frame of the first version met; where there is none, this number
abbrev pub first_met : ℕ → List VersionMet → ℕ
first_met until [] = until
first_met until (m ∷ ms) = m.first

-- in this history each version is in force from its first frame on, up to that of the next one, and
-- the last up to this number
abbrev pub AreServed : List Version → ℕ → List VersionMet → Type 0
AreServed history until [] = Unit {0}
AreServed history until (m ∷ ms) =
    IsServed history (first_met until ms) m × AreServed history until ms

-- ---- how the list grows

-- whether this version was met
abbrev pub was_met : Option VersionMet → ℕ → Bool
was_met None version = false
was_met (Some m) version = m.version == version

-- whether the last version met is this one
abbrev pub is_last_met : List VersionMet → ℕ → Bool
is_last_met met version = was_met (slice_get met (length met - 1)) version

-- the versions met after a frame of this number met this version
abbrev pub met_after : List VersionMet → (version number : ℕ) → List Insn → List VersionMet
met_after met version number program =
    if is_last_met met version then met
    else met ++ record { version = version; first = number; program = program } ∷ []
