-- What a caller of `write_whole_file` concludes of a recording whose bytes are known.
use Rattle.std.specs.Prelude.{ℕ, List, [], None, Some}
use Rattle.ch11_clock.specs.declared.origin.Origin.{Origin}
use Rattle.ch11_file.specs.declared.counts.FileCounts.{FileCounts}
use Rattle.rec_reader.specs.Packets.{PacketData}
use Rattle.rec_reader.specs.Reading.{Reads}
use Rattle.rec_whole.specs.declared.names.FileNames.{FileNames}
use Rattle.rec_whole.specs.WholeRecordings.{WritesRecording}
use Rattle.rec_whole.specs.FilesFound.{HasNoFault, HaveSameChannels}

-- the recording is read to its end, the bytes are its whole file, and a reader finds in them of
-- each channel what it finds in the recording
pub record IsWholeFileOf (recording : List ℕ) (names : FileNames) (rules : List Origin) (most : ℕ)
    (file : List ℕ) : Type 0 where
  pub packets : List PacketData
  pub reads : Reads recording packets None
  pub counts : FileCounts
  pub written : WritesRecording packets names rules most (Some []) (Some file) counts
  pub found : List PacketData
  pub read : Reads file found None
  pub same : HaveSameChannels packets found
  pub no_fault : HasNoFault packets → HasNoFault found
