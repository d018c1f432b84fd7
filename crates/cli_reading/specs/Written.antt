-- What `extract` and `upgrade` write for the packets of a recording.
use Rattle.std.specs.Prelude.{ℕ, ◌≡◌, List, ◌++◌, Option, None, Ok, Err}
use Rattle.std.specs.List.{flat_map, FoldsTo}
use Rattle.std.specs.Io.KnownBytes.{Appends}
use Rattle.rec_reader.specs.declared.fault.ReadEnd.{ReadEnd}
use Rattle.rec_reader.specs.Packets.{PacketData, BeginsPackets}
use Rattle.rec_reader.specs.Readers.{ReaderState, HasRead, Tells, given_by}
use Rattle.rec_reader.specs.Reading.{Reads}
use Rattle.cli_reading.specs.Counts.{CountsPackets}
use Rattle.cli_reading.specs.declared.reading.Counts.{Counts}

-- after the packets that a reader had given of some bytes it gives the next of them, or there is
-- none
abbrev pub GivesNext : Option PacketData → (old new : ReaderState) → Type 0
GivesNext taken old new =
    (bytes : List ℕ) (packets : List PacketData) → HasRead bytes packets old
    → HasRead bytes (packets ++ given_by (Ok taken)) new × Tells bytes packets (Ok taken)

-- after the packets that a reader had given of some bytes no further one is given, for this reason
abbrev pub StopsBehind : ReadEnd → ReaderState → Type 0
StopsBehind end reader =
    (bytes : List ℕ) (packets : List PacketData) → HasRead bytes packets reader
    → Tells bytes packets (Err end)

-- what is written for each packet of a recording, in order and once each, and what is counted of
-- each meanwhile, from one state to another
pub record IsWritten {S : Type 0} (bytes_for : PacketData → List ℕ)
    (counts : S → PacketData → S → Type 0) (recording written : List ℕ) (old new : S)
    : Type 0 where
  pub packets : List PacketData
  pub reads : Reads recording packets None
  pub whole : written ≡ flat_map bytes_for packets
  pub each : FoldsTo counts old packets new

-- what was counted of each packet of a recording, in order and once each, from one state to another
pub record IsCounted {S : Type 0} (counts : S → PacketData → S → Type 0) (recording : List ℕ)
    (old new : S) : Type 0 where
  pub packets : List PacketData
  pub reads : Reads recording packets None
  pub each : FoldsTo counts old packets new

-- an output took what is written for each of a recording's first packets, in order and once each:
-- for as many of them as have the counts that were judged; and what is counted of each meanwhile
pub record TakesWritten {S : Type 0} (bytes_for : PacketData → List ℕ)
    (counts : S → PacketData → S → Type 0) (judged : Counts) (recording : List ℕ) (old new : S)
    (before after : Option (List ℕ)) : Type 0 where
  pub packets : List PacketData
  pub rest : List ℕ
  pub first : BeginsPackets 0 packets recording rest
  pub counted : CountsPackets packets judged
  pub took : Appends before after (flat_map bytes_for packets)
  pub each : FoldsTo counts old packets new
