use Rattle.std.proofs.Common.{◌≡◌, ◌≤◌, length}
use Rattle.bpf_asm.specs.Views.{bytes_in}
use Rattle.bpf_asm.proofs.LineEnds.{later_lines}
use Rattle.bpf_asm.proofs.line.next_line.Given as goal

-- the line has not ended
abbrev pub invariant-bytes : goal.invariant-bytes
invariant-bytes l = record {
  later : later_lines (bytes_in l.rest) ≡ later_lines (bytes_in l.initial.rest);
  shorter : length l.rest.bytes.now ≤ length l.initial.rest.bytes.now;
}

abbrev pub decreases-bytes : goal.decreases-bytes
decreases-bytes l = length l.rest.bytes.now
