use Rattle.std.proofs.Common.{get_or, set, false, None, ap, ◌∙◌, arith}
use Rattle.std.proofs.lemmas.List.{get_or_default}
use Rattle.std.proofs.lemmas.List.Edits.{map_over_more}
use Rattle.rec_runs.specs.declared.record_moves.RecordMoves.{RecordMoves}
use Rattle.rec_runs.specs.Moves.{continued_in}
use Rattle.rec_runs.proofs.record_moves.continue_in.Goals as goal

abbrev nothing : RecordMoves
nothing = record { channel = 0; versions = 0; same = None; offered = None; kept = None; continues = false }

pub moves-preserved : goal.moves-preserved
moves-preserved c =
    let k = c.moves.of_channel-index in
    let here : RecordMoves = get_or c.moves.moves k nothing in
    ap (set c.moves.moves k) c.continue_in.ensures
    ∙ map_over_more (continued_in c.args.channel) c.args.moves.now c.moves.moves k here c.moves-test.true c.moves.invariant
    (get_or_default c.moves.moves k nothing here (omega (arith, c.moves.auto.moves)))
