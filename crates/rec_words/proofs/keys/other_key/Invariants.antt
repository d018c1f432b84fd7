use Rattle.std.proofs.Common.{◌≡◌, map, string_bytes}
use Rattle.toml.specs.View.{table_view}
use Rattle.rec_words.specs.Settings.{keys_of, other_key}
use Rattle.rec_words.proofs.keys.other_key.Given as goal

-- the keys so far are known ones
abbrev pub invariant-keys : goal.invariant-keys
invariant-keys l =
    let known = map (λ k. k.now) l.known in
    other_key known (keys_of (table_view l.table)) ≡ other_key known (map string_bytes l.key-iterator)
