use Rattle.ch11_index.proofs.BodiesRead.{node_read, root_read, one_node, one_root, no_node_is_a_root}
use Rattle.ch11_index.proofs.laws.an_index_is_read_back.Goals as goal

pub returns-clause-node : goal.returns-clause-node
returns-clause-node c = node_read

pub returns-clause-root : goal.returns-clause-root
returns-clause-root c = root_read

pub returns-clause-one_node : goal.returns-clause-one_node
returns-clause-one_node c = one_node

pub returns-clause-one_root : goal.returns-clause-one_root
returns-clause-one_root c = one_root

pub returns-clause-apart : goal.returns-clause-apart
returns-clause-apart c = no_node_is_a_root
