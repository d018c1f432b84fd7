use Rattle.std.proofs.Common.{rules}
use Rattle.std.proofs.lemmas.Map.Made.{map_same_pairs}
use Rattle.rec_runs.specs.RunStates.{next_run}
use Rattle.rec_runs.proofs.RunsStanding.{begins_next}
use Rattle.rec_runs.proofs.records.RunRecords.begin_next.Goals as goal

pub returns : goal.returns
returns c =
    begins_next c.args.self.now (record c.args.self.now { channels = c.retain.new.self })
    (map_same_pairs _ next_run _ (λ k v b w f t. search rules) c.args.self.now.channels.entries c.retain.new.self.entries c.retain.ensures.filtered)
