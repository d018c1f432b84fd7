-- How a reader takes the bodies of index packets apart (IRIG 106-17 Chapter 11, computer-generated
-- data, recording index).
use Rattle.std.specs.Prelude.{ℕ, ◌+◌, ◌^◌, ◌≡◌, ◌≤◌, ◌<◌, List, [], ◌∷◌, ◌++◌, length, take, drop}
use Rattle.std.specs.Prelude.{slice_index}
use Rattle.std.specs.Int.{w16, w32, w64, from_le_bytes}
use Rattle.ch11_index.specs.declared.entry.NodeEntry.{NodeEntry}
use Rattle.ch11_index.specs.declared.entry.RootEntry.{RootEntry}

-- ---- entries

-- an entry of a node: its counter, its channel and its data type, and behind a byte of any value
-- its place
abbrev pub node_entry_in : List ℕ → NodeEntry
node_entry_in bytes = record {
  counter = from_le_bytes w64 (take 8 bytes);
  channel = from_le_bytes w16 (take 2 (drop 8 bytes));
  kind = slice_index bytes 10;
  at = from_le_bytes w64 (take 8 (drop 12 bytes));
}

-- an entry of a root: its counter and its place
abbrev pub root_entry_in : List ℕ → RootEntry
root_entry_in bytes = record {
  counter = from_le_bytes w64 (take 8 bytes);
  at = from_le_bytes w64 (take 8 (drop 8 bytes));
}

-- the bytes are these entries of `size` bytes each, one after the other
abbrev pub HoldsEntries : {E : Type 0} (size : ℕ) (entry_in : List ℕ → E) → List ℕ → List E → Type 0
HoldsEntries size entry_in bytes [] = bytes ≡ []
HoldsEntries size entry_in bytes (entry ∷ entries) =
    (size ≤ length bytes) × (entry_in (take size bytes) ≡ entry)
    × HoldsEntries size entry_in (drop size bytes) entries

-- ---- bodies

-- the body of a node: bit 31 of its word is set, the others are the number of its entries, which
-- follow
pub record HoldsNode (body : List ℕ) (entries : List NodeEntry) : Type 0 where
  pub word : from_le_bytes w32 (take 4 body) ≡ 2 ^ 31 + length entries
  pub few : length entries < 2 ^ 31
  pub each : HoldsEntries 20 node_entry_in (drop 4 body) entries

-- the body of a root: bit 31 of its word isn't set; its last entry, which leads to another root, is
-- counted too
pub record HoldsRoot (body : List ℕ) (nodes : List RootEntry) (last : RootEntry) : Type 0 where
  pub word : from_le_bytes w32 (take 4 body) ≡ length nodes + 1
  pub few : length nodes + 1 < 2 ^ 31
  pub each : HoldsEntries 16 root_entry_in (drop 4 body) (nodes ++ last ∷ [])

-- ---- ranges

-- the numbers of an entry have their widths
pub record IsNodeEntry (entry : NodeEntry) : Type 0 where
  pub counter_in : entry.counter < 2 ^ 64
  pub channel_in : entry.channel < 2 ^ 16
  pub at_in : entry.at < 2 ^ 64

pub record IsRootEntry (entry : RootEntry) : Type 0 where
  pub counter_in : entry.counter < 2 ^ 64
  pub at_in : entry.at < 2 ^ 64
