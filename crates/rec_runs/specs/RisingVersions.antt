-- Versions of a channel's programs that rise, and those that fit.
use Rattle.std.specs.Prelude.{ℕ, ◌+◌, ◌<◌, ◌≤◌, ◌^◌, List, [], ◌∷◌, map}
use Rattle.rec_reader.specs.declared.audits.channel.ChannelProgram.{ChannelProgram}
use Rattle.rec_reader.specs.Packets.{PacketData}
use Rattle.rec_reader.specs.Channels.{programs_of}
use Rattle.rec_runs.specs.FilePrograms.{FileProgram}

-- the first of them is at least this, and each is greater than the one before it
abbrev pub VersionsRise : (least : ℕ) → List ℕ → Type 0
VersionsRise least [] = Unit {0}
VersionsRise least (version ∷ versions) = (least ≤ version) × VersionsRise (version + 1) versions

abbrev pub version_in_recording : ChannelProgram → ℕ
version_in_recording program = program.version

abbrev pub version_in_file : FileProgram → ℕ
version_in_file program = program.version

-- the versions of the channel's programs in a recording rise; so do those of programs of the file
abbrev pub RecordingRises : (channel : ℕ) → List PacketData → Type 0
RecordingRises channel packets =
    VersionsRise 0 (map version_in_recording (programs_of channel packets))

abbrev pub FileRises : List FileProgram → Type 0
FileRises programs = VersionsRise 0 (map version_in_file programs)

-- the version is one that a program can have
abbrev pub VersionFits : FileProgram → Type 0
VersionFits program = program.version < 2 ^ 32
