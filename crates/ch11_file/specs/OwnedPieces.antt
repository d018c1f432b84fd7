-- What pieces that own their bytes are, as data.
use Rattle.ch11_merge.specs.Merging.{FilePiece}
use Rattle.ch11_merge.specs.Merging.FilePiece.{OfFrames, OfRecord}
use Rattle.ch11_file.specs.declared.owned.OwnedPiece.{OwnedPiece}
use Rattle.ch11_file.specs.declared.owned.OwnedPiece.TheVariants.{Frames, Record}

-- what a piece holds, and where its packet stands
abbrev pub owned_data : OwnedPiece → FilePiece
owned_data (Frames place body) = OfFrames place body
owned_data (Record place body) = OfRecord place body.counter body.body
