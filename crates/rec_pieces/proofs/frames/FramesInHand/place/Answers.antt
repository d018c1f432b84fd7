use Rattle.std.proofs.Common.{List, ◌∙◌, subst, sym}
use Rattle.ch11_packet.specs.Classes.{data_in}
use Rattle.ch11_merge.specs.Merging.{FilePiece, StandsFirst}
use Rattle.rec_pieces.proofs.HandPieces.{place_first}
use Rattle.rec_pieces.proofs.frames.FramesInHand.place.Goals as goal

pub returns : goal.returns
returns c =
    let f = c.self.inside in
    subst (λ (pieces : List FilePiece). StandsFirst pieces f.place) c.self.view_is
    (place_first f.place f.ahead f.count f.at (data_in f.packet.header f.packet.body) (λ none. c.requires (sym c.self.view_is ∙ none)))
