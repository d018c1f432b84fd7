use Rattle.std.proofs.Common.{◌≡◌, take}
use Rattle.std.specs.List.{flat_map}
use Rattle.ch11_channels.specs.NamedIds.{named_by_recording}
use Rattle.ch11_channels.proofs.named.named_channels.Given as goal

-- those of the recordings so far
abbrev pub invariant-recordings : goal.invariant-recordings
invariant-recordings l = l.named.items ≡ flat_map named_by_recording (take l.recording-index l.recordings)
