use Rattle.std.proofs.Common.{◌≡◌, drop, map}
use Rattle.std.specs.List.{list_any}
use Rattle.rec_words.specs.SetupFile.{is_place}
use Rattle.rec_words.specs.SetupViews.{recording_data}
use Rattle.rec_words.proofs.setup_file.recordings.is_followed.Given as goal

-- the recordings so far follow others
abbrev pub invariant-recordings : goal.invariant-recordings
invariant-recordings l =
    list_any (λ recording. is_place l.place recording.after) (map recording_data l.recordings)
    ≡ list_any (λ recording. is_place l.place recording.after) (map recording_data (drop l.recording-index l.recordings))
