use Rattle.std.proofs.Common.{◌≡◌, drop}
use Rattle.cli_chapter11.specs.ByteSum.{sum_behind}
use Rattle.cli_chapter11.proofs.summed.ByteSum.with.Given as goal

-- what is still to come leads to the same sum
abbrev pub invariant-bytes : goal.invariant-bytes
invariant-bytes l = sum_behind l.sum (drop l.byte-index l.bytes) ≡ sum_behind l.fn.self.sum l.bytes
