-- What an output took of bytes that were to be written.
use Rattle.std.specs.Prelude.{ℕ, ◌≡◌, List, ◌++◌, Option}
use Rattle.std.specs.Io.KnownBytes.{Appends}

-- it took the first of these bytes
pub record TakesStart (old new : Option (List ℕ)) (bytes : List ℕ) : Type 0 where
  pub start : List ℕ
  pub rest : List ℕ
  pub whole : bytes ≡ start ++ rest
  pub taken : Appends old new start
