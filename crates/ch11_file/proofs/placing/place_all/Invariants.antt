use Rattle.std.proofs.Common.{ℕ, ◌≡◌, ◌<◌, ◌-◌, ◌^◌, List, Option}
use Rattle.std.specs.Prelude.{IfSome}
use Rattle.ch11_file.specs.WholeFile.{FileFacts}
use Rattle.ch11_file.specs.Sending.{HasPlaced}
use Rattle.ch11_file.proofs.placing.place_all.Given as goal

-- what went out so far begins a file
abbrev pub invariant-places : goal.invariant-places
invariant-places g l = record {
  fits : IfSome l.times.next (λ point. point.tick < 2 ^ 48);
  placed : (facts : FileFacts) (before : Option (List ℕ)) → facts.setup ≡ l.setup
      → HasPlaced g.S.PieceSource.left facts before (g.W.Write.contents l.fn.out) l.fn.sent l.fn.times.next l.fn.times.points l.fn.channels
      → HasPlaced g.S.PieceSource.left facts before (g.W.Write.contents l.out) l.sent l.times.next l.times.points l.channels;
}

abbrev pub decreases-places : goal.decreases-places
decreases-places g l = 2 ^ 64 - l.sent.index.place
