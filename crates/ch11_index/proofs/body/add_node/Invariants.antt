use Rattle.std.proofs.Common.{◌≡◌, ◌++◌, take}
use Rattle.std.specs.List.{flat_map}
use Rattle.ch11_index.specs.IndexBytes.{node_entry_bytes}
use Rattle.ch11_index.proofs.body.add_node.Given as goal

-- the entries so far were added
abbrev pub invariant-entries : goal.invariant-entries
invariant-entries l = l.body.items ≡ l.initial.body.items ++ flat_map node_entry_bytes (take l.entry-index l.entries)
