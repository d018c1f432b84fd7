-- How long the packets of an index are.
use Rattle.std.proofs.Common.{ℕ, ◌+◌, ◌*◌, ◌≡◌, ◌<◌, ◌≤◌, List, [], ◌∷◌, ◌++◌, length, refl, ap, ◌∙◌, arith}
use Rattle.std.specs.Prelude.{◌^◌}
use Rattle.std.specs.Int.{w32, to_le_bytes}
use Rattle.std.specs.List.{flat_map}
use Rattle.std.proofs.lemmas.List.{length-append}
use Rattle.std.proofs.lemmas.List.Concat.{flat_map-cons}
use Rattle.ch11_packet.specs.PacketLen.{written_len}
use Rattle.ch11_packet.specs.Profiles.Profile.{WithSum}
use Rattle.ch11_index.specs.declared.index.TheConstants.{MOST_NAMED}
use Rattle.ch11_index.specs.declared.entry.NodeEntry.{NodeEntry}
use Rattle.ch11_index.specs.declared.entry.RootEntry.{RootEntry}
use Rattle.ch11_index.specs.declared.index.IndexPacket.{IndexPacket}
use Rattle.ch11_index.specs.declared.index.IndexPacket.TheVariants.{Node, Root}
use Rattle.ch11_index.specs.FileIndex.{IndexState, index_body, last_entry}
use Rattle.ch11_index.specs.IndexBytes.{node_entry_bytes, root_entry_bytes, node_bytes, root_bytes}

-- ---- lengths

pub rows_len : {X : Type 0} (row : X → List ℕ) (len : ℕ) → ((x : X) → length (row x) ≡ len) → (xs : List X)
    → length (flat_map row xs) ≡ length xs * len
rows_len row len each [] = omega arith
rows_len row len each (x ∷ xs) =
    ap length (flat_map-cons row x xs) ∙ length-append (row x) (flat_map row xs) ∙ omega (arith, each x, rows_len row len each xs)

node_fits : (entries : List NodeEntry) (body : List ℕ) → length entries ≤ MOST_NAMED → body ≡ node_bytes entries
    → written_len WithSum (length body) < 2 ^ 32
node_fits entries body few is =
    let rows : length (flat_map node_entry_bytes entries) ≡ length entries * 20 = rows_len node_entry_bytes 20 (λ x. refl) entries in
    let word : length (to_le_bytes w32 (2 ^ 31 + length entries)) ≡ 4 = refl in
    let whole = length-append (to_le_bytes w32 (2 ^ 31 + length entries)) (flat_map node_entry_bytes entries) in
    let len : length body ≡ 4 + length entries * 20 = ap length is ∙ omega (arith, rows, word, whole) in
    omega (arith, len, few)

root_fits : (nodes : List RootEntry) (last : RootEntry) (body : List ℕ) → length nodes ≤ MOST_NAMED → body ≡ root_bytes nodes last
    → written_len WithSum (length body) < 2 ^ 32
root_fits nodes last body few is =
    let rows : length (flat_map root_entry_bytes nodes) ≡ length nodes * 16 = rows_len root_entry_bytes 16 (λ x. refl) nodes in
    let word : length (to_le_bytes w32 (length nodes + 1)) ≡ 4 = refl in
    let row : length (root_entry_bytes last) ≡ 16 = refl in
    let behind = length-append (flat_map root_entry_bytes nodes) (root_entry_bytes last) in
    let whole = length-append (to_le_bytes w32 (length nodes + 1)) (flat_map root_entry_bytes nodes ++ root_entry_bytes last) in
    let len : length body ≡ 20 + length nodes * 16 = ap length is ∙ omega (arith, rows, word, row, behind, whole) in
    omega (arith, len, few)

pub body_fits : (s : IndexState) (packet : IndexPacket) (body : List ℕ) → length s.packets ≤ MOST_NAMED → length s.nodes ≤ MOST_NAMED
    → body ≡ index_body s packet → written_len WithSum (length body) < 2 ^ 32
body_fits s Node body packets nodes is = node_fits s.packets body packets is
body_fits s Root body packets nodes is = root_fits s.nodes (last_entry s) body nodes is
