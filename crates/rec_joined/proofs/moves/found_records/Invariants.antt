use Rattle.std.proofs.Common.{◌≡◌, drop}
use Rattle.std.specs.List.{find}
use Rattle.rec_runs.specs.Moves.{moves_channel}
use Rattle.rec_joined.proofs.moves.found_records.Given as goal

-- the entries so far are other channels'
abbrev pub invariant-records : goal.invariant-records
invariant-records l = find (moves_channel l.channel) (drop l.moves-index l.records) ≡ find (moves_channel l.channel) l.records
