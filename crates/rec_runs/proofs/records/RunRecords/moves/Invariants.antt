use Rattle.std.proofs.Common.{◌≡◌, ◌++◌, map}
use Rattle.rec_runs.proofs.MovesListed.{entry_moves}
use Rattle.rec_runs.proofs.records.RunRecords.moves.Given as goal

-- those so far, with those of the channels that are left
abbrev pub invariant-channels : goal.invariant-channels
invariant-channels l = l.moves.items ++ map entry_moves l.channel-iterator ≡ map entry_moves l.fn.self.channels.entries
