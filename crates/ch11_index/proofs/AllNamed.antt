-- Nodes name all packets, and roots all nodes.
use Rattle.std.proofs.Common.{ℕ, ◌≡◌, ◌≢◌, ◌<◌, ◌≤◌, ◌⊎◌, inl, inr, List, [], ◌∷◌, ◌++◌, length, Option, Some, None, refl, sym, subst, ap, append_assoc, arith}
use Rattle.std.proofs.lemmas.Bool.Decides.{nat_tests}
use Rattle.std.proofs.lemmas.List.{length_push}
use Rattle.ch11_index.specs.declared.entry.NodeEntry.{NodeEntry}
use Rattle.ch11_index.specs.declared.entry.RootEntry.{RootEntry}
use Rattle.ch11_index.specs.declared.index.FilePacket.{FilePacket}
use Rattle.ch11_index.specs.declared.index.IndexPacket.TheVariants.{Node}
use Rattle.ch11_index.specs.FileIndex.{IndexState, empty_index, packet_entry, here_of, after_packet, after_node, after_root, FileItem, IsIndexed}
use Rattle.ch11_index.specs.FileIndex.{GoesOut, due, due_at_end, root_at_end, left_at_end}
use Rattle.ch11_index.specs.FileIndex.FileItem.{OfPacket, OfNode, OfRoot}
use Rattle.ch11_index.specs.IndexRead.{named_in, rooted_in, packets_from, nodes_from, EndsWithRoot, AreChained, AreWithin}

-- ---- names

none_left : (packets : List NodeEntry) (nodes : List RootEntry) (root : Option RootEntry) → left_at_end packets nodes root ≡ None → [] ≡ packets ++ []
none_left [] nodes root e = refl
none_left (p ∷ ps) nodes root e = cc

no_nodes : (packets : List NodeEntry) (nodes : List RootEntry) (root : Option RootEntry) → left_at_end packets nodes root ≡ None → [] ≡ nodes ++ []
no_nodes [] [] root e = refl
no_nodes [] (n ∷ ns) root e = cc
no_nodes (p ∷ ps) nodes root e = cc

pub all_named : (s : IndexState) (file : List FileItem) → IsIndexed s file → named_in file ≡ s.packets ++ packets_from s.place file
all_named s [] i = none_left s.packets s.nodes s.root i
all_named s (OfPacket p ∷ file) i = rw (all_named (after_packet s p) file i.1, append_assoc) refl
all_named s (OfNode len entries ∷ file) i = rw (all_named (after_node s len) file i.2, i.1) refl
all_named s (OfRoot len nodes last ∷ file) i = all_named (after_root s len) file i.3

pub all_rooted : (s : IndexState) (file : List FileItem) → IsIndexed s file → rooted_in file ≡ s.nodes ++ nodes_from s.greatest s.place file
all_rooted s [] i = no_nodes s.packets s.nodes s.root i
all_rooted s (OfPacket p ∷ file) i = all_rooted (after_packet s p) file i.1
all_rooted s (OfNode len entries ∷ file) i = rw (all_rooted (after_node s len) file i.2, append_assoc) refl
all_rooted s (OfRoot len nodes last ∷ file) i = rw (all_rooted (after_root s len) file i.3, i.1) refl

-- ---- the chain

pub chained : (s : IndexState) (file : List FileItem) → IsIndexed s file → AreChained s.root s.greatest s.place file
chained s [] i = tt
chained s (OfPacket p ∷ file) i = chained (after_packet s p) file i.1
chained s (OfNode len entries ∷ file) i = chained (after_node s len) file i.2
chained s (OfRoot len nodes last ∷ file) i = (i.2, chained (after_root s len) file i.3)

packet_left : (packets : List NodeEntry) (p : NodeEntry) (nodes : List RootEntry) (root : Option RootEntry) → left_at_end (packets ++ p ∷ []) nodes root ≢ None
packet_left [] p nodes root = λ e. cc
packet_left (q ∷ qs) p nodes root = λ e. cc

node_left : (nodes : List RootEntry) (n : RootEntry) (root : Option RootEntry) → root_at_end (nodes ++ n ∷ []) root ≢ None
node_left [] n root = λ e. cc
node_left (m ∷ ms) n root = λ e. cc

root_then : (len : ℕ) (nodes : List RootEntry) (last : RootEntry) (file : List FileItem) → EndsWithRoot file → EndsWithRoot (OfRoot len nodes last ∷ file)
root_then len nodes last [] e = absurd e
root_then len nodes last (item ∷ file) e = e

-- the file ends with a root, or nothing follows and nothing is due
abbrev EndsOrNone : IndexState → List FileItem → Type 0
EndsOrNone s file = EndsWithRoot file ⊎ ((file ≡ []) × (due_at_end s ≡ None))

ends_or_none : (s : IndexState) (file : List FileItem) → IsIndexed s file → EndsOrNone s file
ends_or_none s [] i = inr (refl, i)
ends_or_none s (OfPacket p ∷ file) i = elim (ends_or_none (after_packet s p) file i.1) as (λ _. EndsOrNone s (OfPacket p ∷ file)) [
  | inl e ↦ inl e
  | inr n ↦ absurd (packet_left s.packets _ s.nodes s.root n.1)
]
ends_or_none s (OfNode len entries ∷ file) i = elim (ends_or_none (after_node s len) file i.2) as (λ _. EndsOrNone s (OfNode len entries ∷ file)) [
  | inl e ↦ inl e
  | inr n ↦ absurd (node_left s.nodes _ s.root n.1)
]
ends_or_none s (OfRoot len nodes last ∷ file) i = elim (ends_or_none (after_root s len) file i.3) as (λ _. EndsOrNone s (OfRoot len nodes last ∷ file)) [
  | inl e ↦ inl (root_then len nodes last file e)
  | inr n ↦ inl (subst (λ xs. EndsWithRoot (OfRoot len nodes last ∷ xs)) (sym n.0) tt)
]

pub ends : (most : ℕ) (file : List FileItem) → IsIndexed (empty_index most) file → EndsWithRoot file
ends most file i = elim (ends_or_none (empty_index most) file i) as (λ _. EndsWithRoot file) [
  | inl e ↦ e
  | inr n ↦ let none : due_at_end (empty_index most) ≡ None = n.1 in cc
]

-- ---- the limit

record IsKept (s : IndexState) : Type 0 where
  pub some : 0 < s.most
  pub packets_fit : length s.packets ≤ s.most
  pub nodes_fit : length s.nodes ≤ s.most
  pub root_first : length s.nodes ≡ s.most → s.packets ≡ []

not_full : (s : IndexState) → due s ≡ None → (length s.packets ≢ s.most) × (length s.nodes ≢ s.most)
not_full s e = (grind (arith, nat_tests), grind (arith, nat_tests))

kept_packet : (s : IndexState) (p : NodeEntry) → IsKept s → due s ≡ None → (length (s.packets ++ p ∷ []) ≤ s.most) × (length s.nodes ≢ s.most)
kept_packet s p k e =
    let n = not_full s e in
    let a = k.packets_fit in
    let b = n.0 in
    (rw (length_push s.packets p) (omega (arith, a, b)), n.1)

is_kept_packet : (s : IndexState) (p : FilePacket) → IsKept s → due s ≡ None → IsKept (after_packet s p)
is_kept_packet s p k e =
    let n = kept_packet s (packet_entry p s.place) k e in
    record { some = k.some; packets_fit = n.0; nodes_fit = k.nodes_fit; root_first = λ full. absurd (n.1 full) }

no_node : (nodes : List RootEntry) (root : Option RootEntry) → root_at_end nodes root ≢ Some Node
no_node [] None = λ e. cc
no_node [] (Some r) = λ e. cc
no_node (n ∷ ns) root = λ e. cc

node_full : (s : IndexState) → due s ≡ Some Node → length s.packets ≡ s.most
node_full s e = grind (arith, nat_tests)

-- a node that goes out has packets, and there is room for it in a root
has_packets : (s : IndexState) (file : List FileItem) → IsKept s → GoesOut Node s file → s.packets ≢ []
has_packets s file k (inl full) = λ none.
    let a = k.some in
    let b : length s.packets ≡ s.most = node_full s full in
    let d : length s.packets ≡ 0 = ap length none in
    omega (arith, a, b, d)
has_packets s file k (inr last) = λ none.
    no_node s.nodes s.root (subst (λ packets. left_at_end packets s.nodes s.root ≡ Some Node) none last.1)

is_kept_node : (s : IndexState) (len : ℕ) → IsKept s → s.packets ≢ [] → IsKept (after_node s len)
is_kept_node s len k some =
    let a = k.nodes_fit in
    let b : length s.nodes ≢ s.most = λ full. some (k.root_first full) in
    record {
      some = k.some;
      packets_fit = omega arith;
      nodes_fit = rw (length_push s.nodes (here_of s)) (omega (arith, a, b));
      root_first = λ full. refl;
    }

is_kept_root : (s : IndexState) (len : ℕ) → IsKept s → IsKept (after_root s len)
is_kept_root s len k =
    let a = k.some in
    record {
      some = k.some;
      packets_fit = k.packets_fit;
      nodes_fit = omega arith;
      root_first = λ full. absurd (omega (arith, a, full));
    }

within : (s : IndexState) (file : List FileItem) → IsKept s → IsIndexed s file → AreWithin s.most file
within s [] k i = tt
within s (OfPacket p ∷ file) k i = within (after_packet s p) file (is_kept_packet s p k i.0) i.1
within s (OfNode len entries ∷ file) k i = (
  subst (λ (xs : List NodeEntry). length xs ≤ s.most) (sym i.1) k.packets_fit,
  within (after_node s len) file (is_kept_node s len k (has_packets s file k i.0)) i.2,
)
within s (OfRoot len nodes last ∷ file) k i = (
  subst (λ (xs : List RootEntry). length xs ≤ s.most) (sym i.1) k.nodes_fit,
  within (after_root s len) file (is_kept_root s len k) i.3,
)

pub all_within : (most : ℕ) (file : List FileItem) → 0 < most → IsIndexed (empty_index most) file → AreWithin most file
all_within most file some = within (empty_index most) file (record {
  some = some;
  packets_fit = omega arith;
  nodes_fit = omega arith;
  root_first = λ full. refl;
})
