-- What an index keeps, and the room for it.
use Rattle.std.specs.Prelude.{ℕ, ◌≡◌, ◌<◌, ◌≤◌, List, [], length}
use Rattle.ch11_index.specs.declared.index.TheConstants.{MOST_NAMED}
use Rattle.ch11_index.specs.declared.entry.NodeEntry.{NodeEntry}
use Rattle.ch11_index.specs.declared.entry.RootEntry.{RootEntry}

-- there is room for one node and one root; a root goes out before a further packet is named
pub record HasIndexRoom (most : ℕ) (packets : List NodeEntry) (packet_room : ℕ)
    (nodes : List RootEntry)
    (node_room : ℕ) : Type 0 where
  pub some : 0 < most
  pub few : most ≤ MOST_NAMED
  pub packet_room_is : most ≤ packet_room
  pub packets_fit : length packets ≤ most
  pub node_room_is : most ≤ node_room
  pub nodes_fit : length nodes ≤ most
  pub root_first : length nodes ≡ most → packets ≡ []
