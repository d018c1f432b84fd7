-- Bodies, row by row.
use Rattle.std.proofs.Common.{ℕ, ◌+◌, ◌≡◌, ◌<◌, ◌≤◌, List, ◌++◌, length, take, get_or, sym, ◌∙◌, ap, append_assoc}
use Rattle.std.specs.Int.{w32, to_le_bytes}
use Rattle.std.specs.List.{flat_map}
use Rattle.std.proofs.lemmas.List.{take_more, take_all, flat_map_more}
use Rattle.ch11_index.specs.declared.entry.RootEntry.{RootEntry}
use Rattle.ch11_index.specs.IndexBytes.{root_entry_bytes, root_bytes}

-- a loop that adds the bytes of each element
pub row_more : {X : Type 0} (f : X → List ℕ) (head body bytes new : List ℕ) (xs : List X) (at : ℕ) (d : X) → at < length xs
    → body ≡ head ++ flat_map f (take at xs) → bytes ≡ f (get_or xs at d) → new ≡ body ++ bytes → new ≡ head ++ flat_map f (take (at + 1) xs)
row_more f head body bytes new xs at d lt so_far next added =
    added ∙ ap (λ (l : List ℕ). l ++ bytes) so_far ∙ ap (λ (l : List ℕ). (head ++ flat_map f (take at xs)) ++ l) next
    ∙ flat_map_more f head (take at xs) (get_or xs at d) ∙ ap (λ l. head ++ flat_map f l) (sym (take_more xs at d lt))

-- a root's word, its nodes and its last entry
pub root_put : (nodes : List RootEntry) (last : RootEntry) (old word head body row new : List ℕ) (at : ℕ) → word ≡ to_le_bytes w32 (length nodes + 1)
    → head ≡ old ++ word → body ≡ head ++ flat_map root_entry_bytes (take at nodes) → length nodes ≤ at → row ≡ root_entry_bytes last → new ≡ body ++ row
    → new ≡ old ++ root_bytes nodes last
root_put nodes last old word head body row new at w h b all r n =
    n ∙ rw (r, b, h, w, take_all at nodes all) (simp append_assoc)
