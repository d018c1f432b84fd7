use Rattle.std.proofs.Common.{ℕ, ◌≡◌, ◌<◌, ◌↔◌, length}
use Rattle.std.specs.Prelude.{slice_index}
use Rattle.bpf_insn.specs.declared.insn.TheConstants.{SCRATCH_WORDS}
use Rattle.bpf_insn.specs.declared.insn.TheConstants.{MAX_INSNS}
use Rattle.bpf_verify.specs.Masks.{IsClear}
use Rattle.bpf_verify.proofs.Arrivals.{ArrivesFromBelow}
use Rattle.bpf_verify.proofs.masks.written_masks.Given as goal

abbrev pub invariant-places : goal.invariant-places
invariant-places l = record {
  long : length l.masks ≡ MAX_INSNS;
  masks : (to word : ℕ) → to < length l.insns → word < SCRATCH_WORDS → IsClear (slice_index l.masks to) word ↔ ArrivesFromBelow l.insns l.at to word;
}
