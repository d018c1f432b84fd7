use Rattle.rec_runs.proofs.VersionsAdded.{most_added}
use Rattle.rec_runs.proofs.laws.no_more_than_the_limit_is_added.Goals as goal

pub returns : goal.returns
returns c = most_added
