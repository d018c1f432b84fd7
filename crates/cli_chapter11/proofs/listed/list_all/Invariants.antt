use Rattle.std.proofs.Common.{ℕ, ◌≡◌, List, [], map, take}
use Rattle.rec_reader.specs.Packets.{PacketData}
use Rattle.cli_chapter11.specs.Joining.{AreHeld, AreReadings}
use Rattle.cli_chapter11.specs.RecordsInRuns.{AreListedIn, StandForRuns, run_of_listed}
use Rattle.cli_chapter11.proofs.RecordsInRuns.{listed_after}
use Rattle.cli_chapter11.proofs.listed.list_all.Given as goal

-- those so far are known, and what is kept of runs stands for them
abbrev pub invariant-recordings : goal.invariant-recordings
invariant-recordings g l =
    (map run_of_listed l.all.items ≡ take l.place l.fn.runs)
    × ((bytes : List (List ℕ)) → AreHeld g.F.PlacedRead.held l.fn.files bytes
    → (read : List (List PacketData)) × AreReadings (take l.place bytes) read
    × AreListedIn l.fn.runs (λ run. []) l.all.items read
    × StandForRuns l.fn.runs l.kept (listed_after (λ run. []) l.all.items read))
