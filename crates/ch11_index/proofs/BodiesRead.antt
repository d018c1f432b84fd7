-- The bodies of index packets are read back.
use Rattle.std.proofs.Common.{ℕ, ◌+◌, ◌^◌, ◌≡◌, ◌≤◌, ◌<◌, List, [], ◌∷◌, ◌++◌, length, take, drop, refl, sym, ap, subst, ◌∙◌, arith}
use Rattle.std.specs.Int.{w16, w32, w64, to_le_bytes, from_le_bytes}
use Rattle.std.specs.List.{AllByRecursion, flat_map}
use Rattle.std.proofs.lemmas.List.{take_at, drop_at, length-append, append-nil}
use Rattle.std.proofs.lemmas.List.Concat.{flat_map-append}
use Rattle.std.proofs.lemmas.Nat.{from_le_bytes-to_le_bytes_2, from_le_bytes-to_le_bytes_4, from_le_bytes-to_le_bytes_8}
use Rattle.ch11_index.specs.declared.entry.NodeEntry.{NodeEntry}
use Rattle.ch11_index.specs.declared.entry.RootEntry.{RootEntry}
use Rattle.ch11_index.specs.IndexBytes.{node_entry_bytes, root_entry_bytes, node_bytes, root_bytes}
use Rattle.ch11_index.specs.IndexBodies.{HoldsEntries, HoldsNode, HoldsRoot, IsNodeEntry, IsRootEntry, node_entry_in, root_entry_in}

-- ---- entries

node_entry_read : (entry : NodeEntry) → IsNodeEntry entry → node_entry_in (node_entry_bytes entry) ≡ entry
node_entry_read entry is =
    let counter = from_le_bytes-to_le_bytes_8 entry.counter is.counter_in in
    let channel = from_le_bytes-to_le_bytes_2 entry.channel is.channel_in in
    let at = from_le_bytes-to_le_bytes_8 entry.at is.at_in in
    rw (counter, channel, at) refl

root_entry_read : (entry : RootEntry) → IsRootEntry entry → root_entry_in (root_entry_bytes entry) ≡ entry
root_entry_read entry is =
    let counter = from_le_bytes-to_le_bytes_8 entry.counter is.counter_in in
    let at = from_le_bytes-to_le_bytes_8 entry.at is.at_in in
    rw (counter, at) refl

module _ {E : Type 0} (size : ℕ) (entry_in : List ℕ → E) (bytes_of : E → List ℕ) (Fits : E → Type 0)
    (len : (e : E) → length (bytes_of e) ≡ size) (read : (e : E) → Fits e → entry_in (bytes_of e) ≡ e) where
  entries_read : (entries : List E) → AllByRecursion Fits entries → HoldsEntries size entry_in (flat_map bytes_of entries) entries
  entries_read [] fit = refl
  entries_read (e ∷ es) fit = (
    omega (arith, len e, length-append (bytes_of e) (flat_map bytes_of es)),
    ap entry_in (take_at (bytes_of e) (flat_map bytes_of es) size (len e)) ∙ read e fit.0,
    subst (λ bytes. HoldsEntries size entry_in bytes es) (sym (drop_at (bytes_of e) (flat_map bytes_of es) size (len e))) (entries_read es fit.1),
  )

-- a body holds one list of entries
module _ {E : Type 0} (size : ℕ) (entry_in : List ℕ → E) (some : 0 < size) where
  one_list : (bytes : List ℕ) (entries others : List E) → HoldsEntries size entry_in bytes entries → HoldsEntries size entry_in bytes others → entries ≡ others
  one_list bytes [] [] a b = refl
  one_list bytes [] (o ∷ os) a b = absurd (omega (arith, b.0, ap length a))
  one_list bytes (e ∷ es) [] a b = absurd (omega (arith, a.0, ap length b))
  one_list bytes (e ∷ es) (o ∷ os) a b =
      let first : e ≡ o = sym a.1 ∙ b.1 in
      let rest = one_list (drop size bytes) es os a.2 b.2 in
      rw (first, rest) refl

-- ---- bodies

pub node_read : (entries : List NodeEntry) → length entries < 2 ^ 31 → AllByRecursion IsNodeEntry entries → HoldsNode (node_bytes entries) entries
node_read entries few fit = record {
  word = from_le_bytes-to_le_bytes_4 (2 ^ 31 + length entries) (omega (arith, few));
  few = few;
  each = entries_read 20 node_entry_in node_entry_bytes IsNodeEntry (λ e. refl) node_entry_read entries fit;
}

pub all_with : {A : Type 0} (P : A → Type 0) (xs : List A) (x : A) → AllByRecursion P xs → P x → AllByRecursion P (xs ++ x ∷ [])
all_with P [] x all p = (p, tt)
all_with P (y ∷ ys) x all p = (all.0, all_with P ys x all.1 p)

pub root_read : (nodes : List RootEntry) (last : RootEntry) → length nodes + 1 < 2 ^ 31 → AllByRecursion IsRootEntry nodes → IsRootEntry last
    → HoldsRoot (root_bytes nodes last) nodes last
root_read nodes last few fit is = record {
  word = from_le_bytes-to_le_bytes_4 (length nodes + 1) (omega (arith, few));
  few = few;
  each = subst (λ bytes. HoldsEntries 16 root_entry_in bytes (nodes ++ last ∷ []))
      (flat_map-append root_entry_bytes nodes (last ∷ []) ∙ ap (λ l. flat_map root_entry_bytes nodes ++ l) (append-nil (root_entry_bytes last)))
      (entries_read 16 root_entry_in root_entry_bytes IsRootEntry (λ e. refl) root_entry_read (nodes ++ last ∷ []) (all_with IsRootEntry nodes last fit is));
}

pub one_node : (body : List ℕ) (entries others : List NodeEntry) → HoldsNode body entries → HoldsNode body others → entries ≡ others
one_node body entries others a b = one_list 20 node_entry_in (omega arith) (drop 4 body) entries others a.each b.each

pub no_node_is_a_root : (body : List ℕ) (entries : List NodeEntry) (nodes : List RootEntry) (last : RootEntry) → HoldsNode body entries
    → HoldsRoot body nodes last → ⊥
no_node_is_a_root body entries nodes last a b = let few = b.few in let word = a.word in let other = b.word in omega (arith, few, word, other)

same_nodes : (nodes others : List RootEntry) (last other : RootEntry) → nodes ++ last ∷ [] ≡ others ++ other ∷ [] → (nodes ≡ others) × (last ≡ other)
same_nodes [] [] last other e = (refl, cc)
same_nodes [] (o ∷ os) last other e = absurd (omega (arith, ap length e, length-append os (other ∷ [])))
same_nodes (n ∷ ns) [] last other e = absurd (omega (arith, ap length e, length-append ns (last ∷ [])))
same_nodes (n ∷ ns) (o ∷ os) last other e =
    let first : n ≡ o = cc in
    let behind : ns ++ last ∷ [] ≡ os ++ other ∷ [] = cc in
    let rest = same_nodes ns os last other behind in
    (rw (first, rest.0) refl, rest.1)

pub one_root : (body : List ℕ) (nodes others : List RootEntry) (last other : RootEntry) → HoldsRoot body nodes last → HoldsRoot body others other
    → (nodes ≡ others) × (last ≡ other)
one_root body nodes others last other a b =
    same_nodes nodes others last other (one_list 16 root_entry_in (omega arith) (drop 4 body) (nodes ++ last ∷ []) (others ++ other ∷ []) a.each b.each)
