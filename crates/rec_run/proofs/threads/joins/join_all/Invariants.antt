use Rattle.std.proofs.Common.{◌≡◌, ◌+◌, ◌≤◌, List, ◌++◌, vec_len}
use Rattle.std.specs.Prelude.{vec_capacity}
use Rattle.std.specs.List.{AllZip}
use Rattle.std.specs.Vec.Iter.{into_iter_items, into_iter_len}
use Rattle.rec_lane.specs.Pieces.{PieceData}
use Rattle.rec_run.specs.Threads.{jobs_of}
use Rattle.rec_run.specs.Writer.{AllCame}
use Rattle.rec_run.specs.Threads.{JoinedOf}
use Rattle.rec_run.specs.declared.job.Job.{Job}
use Rattle.rec_run.proofs.threads.joins.join_all.Given as goal

abbrev pub invariant-workers : goal.invariant-workers
invariant-workers g l =
    let rest = l.line-iterator in
    (vec_len l.joined + into_iter_len rest ≤ vec_capacity l.joined)
    × ((pieces : List PieceData) → AllCame pieces l.fn.lines.items → AllCame pieces (into_iter_items rest))
    × ((js : List (Job _)) × (jobs_of l.fn.lines.items ≡ js ++ jobs_of (into_iter_items rest))
    × ((pieces : List PieceData) → AllCame pieces l.fn.lines.items
    → AllZip (JoinedOf g.S.FrameSource.left g.S.FrameSource.failures g.S.FrameSource.ending pieces) js l.joined.items))
