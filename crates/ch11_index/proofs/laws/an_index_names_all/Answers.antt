use Rattle.ch11_index.specs.FileIndex.{empty_index}
use Rattle.ch11_index.proofs.AllNamed.{all_named, all_rooted, chained, ends, all_within}
use Rattle.ch11_index.proofs.laws.an_index_names_all.Goals as goal

pub returns-clause-packets : goal.returns-clause-packets
returns-clause-packets c = λ most. all_named (empty_index most)

pub returns-clause-nodes : goal.returns-clause-nodes
returns-clause-nodes c = λ most. all_rooted (empty_index most)

pub returns-clause-ends : goal.returns-clause-ends
returns-clause-ends c = ends

pub returns-clause-chain : goal.returns-clause-chain
returns-clause-chain c = λ most. chained (empty_index most)

pub returns-clause-within : goal.returns-clause-within
returns-clause-within c = all_within
