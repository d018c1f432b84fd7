use Rattle.ch11_merge.proofs.Merged.{none_else}
use Rattle.ch11_merge.proofs.laws.a_merge_has_no_other_channel.Goals as goal

pub returns : goal.returns
returns c = none_else
