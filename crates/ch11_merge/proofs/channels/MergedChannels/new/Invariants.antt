use Rattle.std.specs.BinaryHeap.{heap_items}
use Rattle.ch11_merge.specs.Waiting.{AreStands}
use Rattle.ch11_merge.proofs.channels.MergedChannels.new.Given as goal

-- the channels so far stand in the heap
abbrev pub invariant-channels : goal.invariant-channels
invariant-channels g l = AreStands g.S.PieceSource.stands l.channels.items l.at (heap_items l.waiting)
