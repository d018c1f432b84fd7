use Rattle.std.proofs.Common.{ℕ, List, []}
use Rattle.rec_reader.specs.Readers.{HasRead}
use Rattle.rec_pieces.proofs.RecordingListed.{HasListed}
use Rattle.rec_pieces.proofs.reading.list_recording.Given as goal

-- the packets so far are listed
abbrev pub invariant-packets : goal.invariant-packets
invariant-packets g l = (recording : List ℕ) → HasRead recording [] l.fn.reader → HasListed recording l.reader l.listing
