-- The two forms in which a document says something of its only recording.
use Rattle.std.specs.Prelude.{ℕ, ◌≡◌, List, Some, codes}
use Rattle.toml.specs.Data.{array, table as table_data, item, no_items, Members, get_member}
use Rattle.rec_words.specs.Format.{HasOnly}
use Rattle.rec_words.specs.SetupFile.{file_keys, recording_keys}
use Rattle.rec_words.specs.SetupFormat.{IsUnset}

-- a key has the same in both tables, or is set in neither
abbrev pub HasSame : (one other : Members) → (name : List ℕ) → Type 0
HasSame one other name = get_member name one ≡ get_member name other

-- what one document says of its recording at its top, the other says in its only table of one; of
-- all else they say the same
pub record SayOneRecording (top tabled table : Members) : Type 0 where
  pub top_known : HasOnly file_keys top
  pub tabled_known : HasOnly file_keys tabled
  pub table_known : HasOnly recording_keys table
  pub no_table : IsUnset top (codes "recording")
  pub one_table :
      get_member (codes "recording") tabled ≡ Some (array (item (table_data table) no_items))
  pub no_origin : IsUnset tabled (codes "origin")
  pub no_origins : IsUnset tabled (codes "origins")
  pub no_channel : IsUnset tabled (codes "channel")
  pub no_after : IsUnset table (codes "after")
  pub origin : HasSame top table (codes "origin")
  pub origins : HasSame top table (codes "origins")
  pub channel : HasSame top table (codes "channel")
  pub scale : HasSame top tabled (codes "scale")
  pub tai_offset : HasSame top tabled (codes "tai_offset")
  pub host : HasSame top tabled (codes "host")
  pub program : HasSame top tabled (codes "program")
  pub external : HasSame top tabled (codes "external")
  pub attributes : HasSame top tabled (codes "attributes")
