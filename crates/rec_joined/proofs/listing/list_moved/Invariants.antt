use Rattle.std.proofs.Common.{ℕ, List, []}
use Rattle.rec_reader.specs.Readers.{HasRead}
use Rattle.rec_joined.specs.Moving.{moving_of}
use Rattle.rec_joined.proofs.ListedSoFar.{HasMoved}
use Rattle.rec_joined.proofs.listing.list_moved.Given as goal

-- the packets so far are listed
abbrev pub invariant-packets : goal.invariant-packets
invariant-packets g l =
    (recording : List ℕ) → HasRead recording [] l.fn.reader → HasMoved (moving_of l.fn.moves) l.fn.start recording l.reader l.fn.listing l.listing l.end
