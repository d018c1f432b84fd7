-- The code's values as data.
use Rattle.std.specs.Prelude.{List, [], ◌∷◌, map, Option, None, Some}
use Rattle.std.specs.Arc.{arc_value}
use Rattle.rec_lane.specs.declared.piece.DataPiece.{DataPiece}
use Rattle.rec_lane.specs.declared.piece.Piece.{Piece}
use Rattle.rec_lane.specs.declared.piece.Piece.TheVariants.{Program, Data, End}
use Rattle.rec_lane.specs.Pieces.{PieceData}
use Rattle.rec_lane.specs.Pieces.PieceData.{OfProgram, OfFrames, OfEnd}

-- a piece
abbrev pub piece_data : Piece → PieceData
piece_data (Program p) = OfProgram p.channel p.counter p.version p.first (arc_value p.program)
piece_data (Data p) = OfFrames p.channel p.body
piece_data (End p) = OfEnd p.channel p.counter p.offered p.kept

-- pieces in order
abbrev pub pieces_data : List Piece → List PieceData
pieces_data pieces = map piece_data pieces

-- a packet, if there is one
abbrev pub packet_pieces : Option DataPiece → List PieceData
packet_pieces None = []
packet_pieces (Some p) = OfFrames p.channel p.body ∷ []
