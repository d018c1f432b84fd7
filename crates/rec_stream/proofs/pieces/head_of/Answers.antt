use Rattle.std.proofs.Common.{◌∙◌, ap, sym}
use Rattle.ch11_file.specs.declared.owned.OwnedPiece.{OwnedPiece}
use Rattle.ch11_file.specs.OwnedPieces.{owned_data}
use Rattle.ch11_merge.specs.Merging.{head_of_piece}
use Rattle.rec_stream.proofs.pieces.head_of.Goals as goal

pub returns-in-Frames-clause-is : goal.returns-in-Frames-clause-is
returns-in-Frames-clause-is c =
    sym (ap (λ (p : OwnedPiece). head_of_piece (owned_data p)) c.in-Frames.is ∙ c.counter.ensures.first c.in-Frames.place)
