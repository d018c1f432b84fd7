-- What an output took of bytes that were to be written.
use Rattle.std.specs.Prelude.{ℕ, ◌<◌, List, length, take, Option}
use Rattle.std.specs.Io.KnownBytes.{Appends}

-- it took the first `n` of these bytes, and not all of them
abbrev pub AppendsPart : (old new : Option (List ℕ)) (bytes : List ℕ) → ℕ → Type 0
AppendsPart old new bytes n = (n < length bytes) × Appends old new (take n bytes)
