use Rattle.std.proofs.Common.{ℕ, ◌≡◌, ◌<◌, ◌||◌, ◌==◌, false, length, drop, slice_index_or}
use Rattle.std.specs.List.{list_any}
use Rattle.bpf_dis.specs.Targets.{targets_from, is_target}
use Rattle.bpf_dis.proofs.labels.label_all.Given as goal

-- an index is labelled, or a jump from here on leads to it
abbrev pub invariant-insns : goal.invariant-insns
invariant-insns l = record {
  size : length l.labelled.items ≡ length l.program;
  so_far : (to : ℕ) → to < length l.program →
      (slice_index_or l.labelled.items to false || list_any (λ target. target == to) (targets_from l.at (drop l.at l.program))) ≡ is_target l.program to;
}
