use Rattle.std.proofs.Common.{◌≡◌, length}
use Rattle.cli_chapter11.proofs.several.open_recordings.Given as goal

-- as many files as recordings so far
abbrev pub invariant-recordings : goal.invariant-recordings
invariant-recordings g l = length l.files.items ≡ l.recording-index
