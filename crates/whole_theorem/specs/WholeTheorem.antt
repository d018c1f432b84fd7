-- The premise: a whole file was written of a recording's bytes.
use Rattle.std.specs.Prelude.{ℕ, ◌≡◌, ◌++◌, List, Option, None, Some}
use Rattle.ch11_clock.specs.declared.origin.Origin.{Origin}
use Rattle.ch11_file.specs.declared.counts.FileCounts.{FileCounts}
use Rattle.rec_reader.specs.Packets.{PacketData}
use Rattle.rec_reader.specs.Reading.{Reads}
use Rattle.rec_whole.specs.declared.names.FileNames.{FileNames}
use Rattle.rec_whole.specs.WholeRecordings.{WritesRecording}

module _ {V : Type 0} (contents : V → Option (List ℕ)) where
  -- the whole file of a recording with these bytes went out; and the output, which says what it
  -- holds, took these bytes since it held those before
  pub record HasWritten (recording : List ℕ) (names : FileNames) (rules : List Origin) (most : ℕ)
      (first last : V) (counts : FileCounts) (before file : List ℕ) : Type 0 where
    pub packets : List PacketData
    pub reads : Reads recording packets None
    -- what `write_whole_file` says at `Ok`
    pub written : WritesRecording packets names rules most (contents first) (contents last) counts
    pub held_before : contents first ≡ Some before
    pub held_after : contents last ≡ Some (before ++ file)
