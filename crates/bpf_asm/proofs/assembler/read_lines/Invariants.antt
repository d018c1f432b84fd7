use Rattle.std.proofs.Common.{ℕ, ◌≡◌, ◌+◌, ◌≤◌, List, ◌++◌, length}
use Rattle.bpf_asm.specs.Grammar.{Shape}
use Rattle.bpf_asm.specs.Denotes.{HaveShapes}
use Rattle.bpf_asm.specs.Views.{lines_in, byte_count}
use Rattle.bpf_asm.specs.Drafts.{IsDraftOf}
use Rattle.bpf_asm.proofs.assembler.read_lines.Given as goal

-- the lines so far have no fault, and the draft is theirs
abbrev pub invariant-lines : goal.invariant-lines
invariant-lines l = record {
  before : List (List ℕ);
  whole : lines_in l.initial.rest ≡ before ++ lines_in l.rest;
  number : length before + 1 ≡ l.line;
  bytes : l.line + byte_count l.rest ≤ 1 + byte_count l.initial.rest;
  shapes : List Shape;
  shaped : HaveShapes before shapes;
  drafted : IsDraftOf shapes l.draft;
}

abbrev pub decreases-lines : goal.decreases-lines
decreases-lines l = byte_count l.rest
