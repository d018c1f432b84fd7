-- What a reader finds of a file's index.
use Rattle.std.specs.Prelude.{ℕ, ◌+◌, ◌≡◌, ◌≤◌, max, List, [], ◌∷◌, ◌++◌, length, Option, Some}
use Rattle.std.specs.Prelude.{unwrap_or}
use Rattle.ch11_index.specs.declared.entry.NodeEntry.{NodeEntry}
use Rattle.ch11_index.specs.declared.entry.RootEntry.{RootEntry}
use Rattle.ch11_index.specs.FileIndex.{FileItem, packet_entry, root_entry}
use Rattle.ch11_index.specs.FileIndex.FileItem.{OfPacket, OfNode, OfRoot}

-- ---- what is named

-- the entries of all nodes, in order
abbrev pub named_in : List FileItem → List NodeEntry
named_in [] = []
named_in (OfPacket packet ∷ file) = named_in file
named_in (OfNode len entries ∷ file) = entries ++ named_in file
named_in (OfRoot len nodes last ∷ file) = named_in file

-- the entries of all roots but the last of each, in order
abbrev pub rooted_in : List FileItem → List RootEntry
rooted_in [] = []
rooted_in (OfPacket packet ∷ file) = rooted_in file
rooted_in (OfNode len entries ∷ file) = rooted_in file
rooted_in (OfRoot len nodes last ∷ file) = nodes ++ rooted_in file

-- ---- what there is

-- the packets that an index names, of a file whose first byte has this place
abbrev pub packets_from : (place : ℕ) → List FileItem → List NodeEntry
packets_from place [] = []
packets_from place (OfPacket packet ∷ file) =
    packet_entry packet place ∷ packets_from (place + packet.len) file
packets_from place (OfNode len entries ∷ file) = packets_from (place + len) file
packets_from place (OfRoot len nodes last ∷ file) = packets_from (place + len) file

-- its nodes, whose counter is the greatest of the packets ahead of them
abbrev pub nodes_from : (greatest place : ℕ) → List FileItem → List RootEntry
nodes_from greatest place [] = []
nodes_from greatest place (OfPacket packet ∷ file) =
    nodes_from (max greatest packet.counter) (place + packet.len) file
nodes_from greatest place (OfNode len entries ∷ file) =
    root_entry greatest place ∷ nodes_from greatest (place + len) file
nodes_from greatest place (OfRoot len nodes last ∷ file) = nodes_from greatest (place + len) file

-- ---- the chain of roots

-- the last packet is a root
abbrev pub EndsWithRoot : List FileItem → Type 0
EndsWithRoot [] = ⊥
EndsWithRoot (OfRoot len nodes last ∷ []) = Unit {0}
EndsWithRoot (item ∷ file) = EndsWithRoot file

-- the last entry of each root leads to the root before it, and that of the first to itself
abbrev pub AreChained : (before : Option RootEntry) → (greatest place : ℕ) → List FileItem → Type 0
AreChained before greatest place [] = Unit {0}
AreChained before greatest place (OfPacket packet ∷ file) =
    AreChained before (max greatest packet.counter) (place + packet.len) file
AreChained before greatest place (OfNode len entries ∷ file) =
    AreChained before greatest (place + len) file
AreChained before greatest place (OfRoot len nodes last ∷ file) =
    (last ≡ unwrap_or before (root_entry greatest place))
    × AreChained (Some (root_entry greatest place)) greatest (place + len) file

-- ---- the limit

-- no node and no root names more than this
abbrev pub AreWithin : (most : ℕ) → List FileItem → Type 0
AreWithin most [] = Unit {0}
AreWithin most (OfPacket packet ∷ file) = AreWithin most file
AreWithin most (OfNode len entries ∷ file) = (length entries ≤ most) × AreWithin most file
AreWithin most (OfRoot len nodes last ∷ file) = (length nodes ≤ most) × AreWithin most file
