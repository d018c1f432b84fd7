-- What is listed of a recording's bytes, or why nothing is.
use Rattle.std.specs.Prelude.{ℕ, List, ⊤, None, Err}
use Rattle.rec_reader.specs.Packets.{PacketData}
use Rattle.rec_reader.specs.Reading.{Reads}
use Rattle.rec_reader.specs.Readers.{Tells}
use Rattle.rec_pieces.specs.declared.listing.PieceListing.{PieceListing}
use Rattle.rec_pieces.specs.declared.reading.ListingEnd.{ListingEnd}
use Rattle.rec_pieces.specs.declared.reading.ListingEnd.TheVariants.{Reading, Memory}
use Rattle.rec_pieces.specs.PieceListings.{ListsPackets}

-- the recording is read to its end, and all its packets are listed
pub record ListsRecording (recording : List ℕ) (listing : PieceListing) : Type 0 where
  pub packets : List PacketData
  pub reads : Reads recording packets None
  pub lists : ListsPackets packets listing

-- the recording isn't read to its end for this reason, behind these packets
abbrev pub FailsListing : (recording : List ℕ) → ListingEnd → Type 0
FailsListing recording (Reading end) =
    (packets : List PacketData) × Tells recording packets (Err end)
FailsListing recording Memory = ⊤
