use Rattle.std.proofs.Common.{◌≡◌, length}
use Rattle.bpf_asm.specs.Lines.{after_labels}
use Rattle.bpf_asm.specs.Views.{tokens_in}
use Rattle.bpf_asm.proofs.line.skip_labels.Given as goal

abbrev pub invariant-labels : goal.invariant-labels
invariant-labels l = after_labels (tokens_in l.rest) ≡ after_labels (tokens_in l.initial.rest)

abbrev pub decreases-labels : goal.decreases-labels
decreases-labels l = length l.rest.bytes.now
