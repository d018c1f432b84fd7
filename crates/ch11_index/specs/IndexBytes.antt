-- The bodies of index packets (IRIG 106-17 Chapter 11, computer-generated data, recording index),
-- with the lowest byte of each number first.
use Rattle.std.specs.Prelude.{ℕ, ◌+◌, ◌^◌, List, [], ◌∷◌, ◌++◌, length}
use Rattle.std.specs.Int.{w16, w32, w64, to_le_bytes}
use Rattle.std.specs.List.{flat_map}
use Rattle.ch11_index.specs.declared.entry.NodeEntry.{NodeEntry}
use Rattle.ch11_index.specs.declared.entry.RootEntry.{RootEntry}

-- an entry of a node: the packet's counter, channel and data type, a byte of 0, and its place
abbrev pub node_entry_bytes : NodeEntry → List ℕ
node_entry_bytes entry =
    to_le_bytes w64 entry.counter ++ to_le_bytes w16 entry.channel ++ (entry.kind ∷ 0 ∷ [])
    ++ to_le_bytes w64 entry.at

-- an entry of a root: the counter and the place of a node, or of the root before
abbrev pub root_entry_bytes : RootEntry → List ℕ
root_entry_bytes entry = to_le_bytes w64 entry.counter ++ to_le_bytes w64 entry.at

-- the body of a node: a word with bit 31 and the number of its entries, and the entries
abbrev pub node_bytes : List NodeEntry → List ℕ
node_bytes entries =
    to_le_bytes w32 (2 ^ 31 + length entries) ++ flat_map node_entry_bytes entries

-- the body of a root: a word with the number of its entries, those of nodes, and a last one, which
-- is counted too
abbrev pub root_bytes : (nodes : List RootEntry) → (last : RootEntry) → List ℕ
root_bytes nodes last =
    to_le_bytes w32 (length nodes + 1) ++ flat_map root_entry_bytes nodes ++ root_entry_bytes last
