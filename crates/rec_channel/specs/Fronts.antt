-- When a slot has less than a caller has seen of it, and what each fault says then.
use Rattle.std.specs.Prelude.{ℕ, ◌≡◌, ◌<◌, ◌⊎◌, List, length}
use Rattle.std.specs.Arc.{arc_value}
use Rattle.bpf_insn.specs.declared.insn.Insn.{Insn}
use Rattle.rec_channel.specs.declared.front.Front.{Front}
use Rattle.rec_channel.specs.declared.limits.TheConstants.{MAX_VERSIONS}
use Rattle.rec_channel.specs.Slots.{SlotState}
use Rattle.rec_channel.specs.declared.fault.DrawFault.{DrawFault}
use Rattle.rec_channel.specs.declared.fault.DrawFault.TheVariants.{CountFull, Stale, Memory}
use Rattle.rec_channel.specs.declared.fault.InstallFault.{InstallFault}
use Rattle.rec_channel.specs.declared.fault.InstallFault.TheVariants.{VersionsFull}
use Rattle.rec_channel.specs.declared.fault.InstallFault.TheVariants.{Stale as StaleInstall}

-- one of the first front's counts is below the second's
abbrev pub IsBelow : Front → Front → Type 0
IsBelow seen known = (seen.versions < known.versions) ⊎ (seen.offered < known.offered)

-- the caller's front is reported as stale only where the slot has less
abbrev pub StaleOnlyBelow : Front → DrawFault → Type 0
StaleOnlyBelow known (Stale seen) = IsBelow seen known
StaleOnlyBelow known _ = Unit {0}

-- the same of an install
abbrev pub InstallStaleOnlyBelow : Front → InstallFault → Type 0
InstallStaleOnlyBelow known (StaleInstall program seen) = IsBelow seen known
InstallStaleOnlyBelow known _ = Unit {0}

-- out of memory is answered only to a caller that knows of fewer versions than these: one that
-- knows of all needs no share of a program, so a draw that it tries again ends
abbrev pub MemoryOnlyBehind : (versions : ℕ) → Front → DrawFault → Type 0
MemoryOnlyBehind versions known Memory = known.versions < versions
MemoryOnlyBehind versions known _ = Unit {0}

-- an install that was refused gives the program back
abbrev pub GivesBack : List Insn → InstallFault → Type 0
GivesBack program (VersionsFull back) = arc_value back ≡ program
GivesBack program (StaleInstall back seen) = arc_value back ≡ program

-- a draw from a slot itself has no front that could be stale
abbrev pub IsNotStale : DrawFault → Type 0
IsNotStale (Stale seen) = ⊥
IsNotStale _ = Unit {0}

-- nor has an install
abbrev pub InstallIsNotStale : InstallFault → Type 0
InstallIsNotStale (StaleInstall program seen) = ⊥
InstallIsNotStale _ = Unit {0}

-- what a slot has
abbrev pub front_of : SlotState → Front
front_of slot = record { versions = length slot.history; offered = slot.offered }

-- why a draw by a caller with this front is refused: the slot has less, or else as many frames were
-- drawn as may be; out of memory comes where neither holds
abbrev pub DrawIsRefused : SlotState → Front → DrawFault → Type 0
DrawIsRefused slot known (Stale seen) = (seen ≡ front_of slot) × IsBelow (front_of slot) known
DrawIsRefused slot known CountFull =
    (¬ IsBelow (front_of slot) known) × (slot.offered ≡ slot.max)
DrawIsRefused slot known Memory =
    (¬ IsBelow (front_of slot) known) × (slot.offered < slot.max)

-- why an install by a caller with this front is refused: the slot has less, or else it has as many
-- versions as may be
abbrev pub InstallIsRefused : SlotState → Front → InstallFault → Type 0
InstallIsRefused slot known (StaleInstall program seen) =
    (seen ≡ front_of slot) × IsBelow (front_of slot) known
InstallIsRefused slot known (VersionsFull program) =
    (¬ IsBelow (front_of slot) known) × (length slot.history ≡ MAX_VERSIONS)
