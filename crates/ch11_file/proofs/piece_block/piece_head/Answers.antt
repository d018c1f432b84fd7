use Rattle.std.proofs.Common.{◌^◌, ◌∙◌, ap, sym}
use Rattle.ch11_file.specs.OwnedPieces.{owned_data}
use Rattle.ch11_file.specs.WholeFile.{counter_at, counter_of}
use Rattle.ch11_file.specs.declared.owned.OwnedPiece.{OwnedPiece}
use Rattle.ch11_file.proofs.NextBlocks.{counter_fits}
use Rattle.ch11_file.proofs.piece_block.piece_head.Goals as goal

pub returns-in-Record-clause-fits : goal.returns-in-Record-clause-fits
returns-in-Record-clause-fits c =
    rw c.unwrap_or.ensures (counter_fits c.counter-in-Record.result c.args.greatest (2 ^ 48) c.counter-in-Record.ensures.fits c.requires)

pub returns-in-Frames-clause-counter : goal.returns-in-Frames-clause-counter
returns-in-Frames-clause-counter c =
    sym (ap (λ (p : OwnedPiece). counter_of c.args.greatest (owned_data p)) c.in-Frames.is
    ∙ ap (counter_at c.args.greatest) (c.counter.ensures.first c.in-Frames.place))
