use Rattle.std.proofs.Common.{◌≡◌, ◌≤◌, length}
use Rattle.bpf_asm.specs.Views.{lexemes_in}
use Rattle.bpf_asm.proofs.token.next_solid.Given as goal

-- blanks in front make no difference
abbrev pub invariant-blanks : goal.invariant-blanks
invariant-blanks l = record {
  same : lexemes_in l.rest ≡ lexemes_in l.initial.rest;
  shorter : length l.rest.bytes.now ≤ length l.initial.rest.bytes.now;
}

abbrev pub decreases-blanks : goal.decreases-blanks
decreases-blanks l = length l.rest.bytes.now
