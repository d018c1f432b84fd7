use Rattle.std.proofs.Common.{◌≡◌, ◌+◌, length}
use Rattle.std.specs.Option.{option_map}
use Rattle.bpf_asm.specs.Blanked.{closing_len}
use Rattle.bpf_asm.proofs.text.closing_len.Given as goal

-- the bytes passed and those to the end in the rest are those to the end
abbrev pub invariant-bytes : goal.invariant-bytes
invariant-bytes l = record {
  whole : option_map (λ n. l.passed + n) (closing_len l.rest) ≡ closing_len l.bytes;
  so_far : l.passed + length l.rest ≡ length l.bytes;
}

abbrev pub decreases-bytes : goal.decreases-bytes
decreases-bytes l = length l.rest
