-- Where the packets of an index stand in a file, and what they name.
use Rattle.std.specs.Prelude.{ℕ, ◌+◌, ◌≡◌, ◌⊎◌, nat_eq, max, if◌then◌else◌, List, [], ◌∷◌, ◌++◌}
use Rattle.std.specs.Prelude.{length, Option, None, Some, unwrap_or}
use Rattle.ch11_index.specs.declared.entry.NodeEntry.{NodeEntry}
use Rattle.ch11_index.specs.declared.entry.RootEntry.{RootEntry}
use Rattle.ch11_index.specs.declared.index.FilePacket.{FilePacket}
use Rattle.ch11_index.specs.declared.index.IndexPacket.{IndexPacket}
use Rattle.ch11_index.specs.declared.index.IndexPacket.TheVariants.{Node, Root}
use Rattle.ch11_index.specs.IndexBytes.{node_bytes, root_bytes}

-- ---- what went out

-- how many are named at most, the packets that no node names yet, the nodes that no root names yet,
-- the last root, the greatest counter of a header, and the number of bytes
pub record IndexState : Type 0 where
  pub most : ℕ
  pub packets : List NodeEntry
  pub nodes : List RootEntry
  pub root : Option RootEntry
  pub greatest : ℕ
  pub place : ℕ

abbrev pub index_state : (most : ℕ) → List NodeEntry → List RootEntry → Option RootEntry
    → (greatest place : ℕ) → IndexState
index_state most packets nodes root greatest place = record {
  most = most;
  packets = packets;
  nodes = nodes;
  root = root;
  greatest = greatest;
  place = place;
}

-- nothing went out
abbrev pub empty_index : (most : ℕ) → IndexState
empty_index most = index_state most [] [] None 0 0

-- what a node says of a packet at a place
abbrev pub packet_entry : FilePacket → (place : ℕ) → NodeEntry
packet_entry packet place = record {
  counter = packet.counter;
  channel = packet.channel;
  kind = packet.kind;
  at = place;
}

-- what a root says of a packet with this counter at a place
abbrev pub root_entry : (counter place : ℕ) → RootEntry
root_entry counter place = record { counter = counter; at = place }

-- what a root says of a packet of the index that goes out now: its counter is the greatest
abbrev pub here_of : IndexState → RootEntry
here_of s = root_entry s.greatest s.place

-- the last entry of a root that goes out now: the root before, or itself where it is the first
abbrev pub last_entry : IndexState → RootEntry
last_entry s = unwrap_or s.root (here_of s)

-- ---- steps

-- a packet went out that an index names
abbrev pub after_packet : IndexState → FilePacket → IndexState
after_packet s packet =
    index_state s.most (s.packets ++ packet_entry packet s.place ∷ []) s.nodes s.root
    (max s.greatest packet.counter) (s.place + packet.len)

-- a node of all that is left went out, in a packet of this length
abbrev pub after_node : IndexState → (len : ℕ) → IndexState
after_node s len =
    index_state s.most [] (s.nodes ++ here_of s ∷ []) s.root s.greatest (s.place + len)

-- a root of all that is left went out, in a packet of this length
abbrev pub after_root : IndexState → (len : ℕ) → IndexState
after_root s len = index_state s.most s.packets [] (Some (here_of s)) s.greatest (s.place + len)

-- this packet of the index went out
abbrev pub after_index_packet : IndexState → IndexPacket → (len : ℕ) → IndexState
after_index_packet s Node len = after_node s len
after_index_packet s Root len = after_root s len

-- the body of this packet of the index, where it goes out now
abbrev pub index_body : IndexState → IndexPacket → List ℕ
index_body s Node = node_bytes s.packets
index_body s Root = root_bytes s.nodes (last_entry s)

-- ---- when they go out

-- ahead of any other packet: a node that is full, or a root that is
abbrev pub due : IndexState → Option IndexPacket
due s =
    if nat_eq (length s.packets) s.most then Some Node
    else if nat_eq (length s.nodes) s.most then Some Root else None

-- at the end: a node, if packets are left; then a root, if nodes are left, or if there is none yet
abbrev pub root_at_end : List RootEntry → Option RootEntry → Option IndexPacket
root_at_end [] None = Some Root
root_at_end [] (Some root) = None
root_at_end (node ∷ nodes) root = Some Root

abbrev pub left_at_end : List NodeEntry → List RootEntry → Option RootEntry → Option IndexPacket
left_at_end [] nodes root = root_at_end nodes root
left_at_end (packet ∷ packets) nodes root = Some Node

abbrev pub due_at_end : IndexState → Option IndexPacket
due_at_end s = left_at_end s.packets s.nodes s.root

-- ---- a file

-- a packet of a file: one that an index names; a node, or a root, with its length and its entries
pub data FileItem : Type 0 where
  OfPacket : FilePacket → FileItem
  OfNode : (len : ℕ) → List NodeEntry → FileItem
  OfRoot : (len : ℕ) → (nodes : List RootEntry) → (last : RootEntry) → FileItem

-- no further packet that an index names
abbrev pub NoneFollows : List FileItem → Type 0
NoneFollows [] = Unit {0}
NoneFollows (OfPacket packet ∷ file) = ⊥
NoneFollows (OfNode len entries ∷ file) = NoneFollows file
NoneFollows (OfRoot len nodes last ∷ file) = NoneFollows file

-- this packet of the index goes out now, ahead of the rest of the file
abbrev pub GoesOut : IndexPacket → IndexState → List FileItem → Type 0
GoesOut kind s file = (due s ≡ Some kind) ⊎ (NoneFollows file × (due_at_end s ≡ Some kind))

-- the rest of a file has the packets of its index, and no others
abbrev pub IsIndexed : IndexState → List FileItem → Type 0
IsIndexed s [] = due_at_end s ≡ None
IsIndexed s (OfPacket packet ∷ file) = (due s ≡ None) × IsIndexed (after_packet s packet) file
IsIndexed s (OfNode len entries ∷ file) =
    GoesOut Node s file × (entries ≡ s.packets) × IsIndexed (after_node s len) file
IsIndexed s (OfRoot len nodes last ∷ file) =
    GoesOut Root s file × (nodes ≡ s.nodes) × (last ≡ last_entry s)
    × IsIndexed (after_root s len) file
