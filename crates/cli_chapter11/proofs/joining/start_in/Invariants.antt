use Rattle.std.proofs.Common.{◌≡◌, take}
use Rattle.std.specs.List.{flat_map}
use Rattle.cli_chapter11.specs.Joining.{origins_of}
use Rattle.cli_chapter11.proofs.joining.start_in.Given as goal

-- the origins so far
abbrev pub invariant-recordings : goal.invariant-recordings
invariant-recordings l = l.origins.items ≡ flat_map origins_of (take l.recording-index l.recordings)
