use Rattle.std.proofs.Common.{Some}
use Rattle.std.proofs.lemmas.Map.Text.{btree_map_updates_str}
use Rattle.bpf_asm.specs.Drafts.{index_in}
use Rattle.bpf_asm.proofs.labels.LabelTable.define.Goals as goal

pub returns-clause-set : goal.returns-clause-set
unfolding index_in
returns-clause-set c = btree_map_updates_str c.args.name.now c.args.self.now.indexes c.insert.new.self (Some c.args.at) c.in_ok-insert.ensures.updates
