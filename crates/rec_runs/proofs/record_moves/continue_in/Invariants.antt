use Rattle.std.proofs.Common.{◌≡◌, ◌++◌, map, take, drop}
use Rattle.rec_runs.specs.Moves.{continued_in}
use Rattle.rec_runs.proofs.record_moves.continue_in.Given as goal

-- those so far are continued, and the others as they were
abbrev pub invariant-moves : goal.invariant-moves
invariant-moves l =
    l.moves ≡ map (continued_in l.channel) (take l.of_channel-index l.initial.moves) ++ drop l.of_channel-index l.initial.moves
