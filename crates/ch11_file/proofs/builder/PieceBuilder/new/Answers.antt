use Rattle.ch11_file.proofs.OpenPieces.{none_open, none_held}
use Rattle.ch11_file.proofs.builder.PieceBuilder.new.Goals as goal

pub invariant_of-result : goal.invariant_of-result
invariant_of-result c =
    none_open c.in_ok-bytes.bytes.items c.extend_from_slice.new.self.items c.in_ok-bytes.ensures.items
    c.in_ok-extend_from_slice.ensures.items

pub returns : goal.returns
returns c = none_held c.extend_from_slice.new.self.items
