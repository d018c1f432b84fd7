-- The packets of a recording, listed one by one.
use Rattle.std.proofs.Common.{ℕ, ◌≡◌, List, subst, sym}
use Rattle.std.specs.Prelude.{Result, Ok, Err, IfErr, IsErrAnd}
use Rattle.rec_reader.specs.Packets.{PacketData}
use Rattle.rec_reader.specs.Readers.{ReaderState, HasRead}
use Rattle.rec_pieces.specs.declared.listing.PieceListing.{PieceListing}
use Rattle.rec_pieces.specs.declared.reading.ListingEnd.{ListingEnd}
use Rattle.rec_pieces.specs.PieceListings.{ListsPackets}

pub record HasListed (recording : List ℕ) (reader : ReaderState) (listing : PieceListing) : Type 0 where
  pub packets : List PacketData
  pub given : HasRead recording packets reader
  pub lists : ListsPackets packets listing

-- an end that is passed on
pub passed_on : {T : Type 0} (result : Result T ListingEnd) (end : ListingEnd) (P : ListingEnd → Type 0) → IsErrAnd result (λ e. e ≡ end) → P end
    → IfErr result P
passed_on (Ok value) end P same holds = tt
passed_on (Err other) end P same holds = subst P (sym same) holds
