use Rattle.std.proofs.Common.{◌≡◌, ◌++◌, take}
use Rattle.std.specs.List.{flat_map}
use Rattle.ch11_index.specs.IndexBytes.{root_entry_bytes}
use Rattle.ch11_index.proofs.body.add_root.Given as goal

-- the nodes so far were added
abbrev pub invariant-nodes : goal.invariant-nodes
invariant-nodes l = l.body.items ≡ l.initial.body.items ++ flat_map root_entry_bytes (take l.node-index l.nodes)
