use Rattle.std.proofs.Common.{ℕ, ◌≡◌, ◌+◌, ◌<◌, ◌≤◌, List, [], ◌∷◌, ◌++◌}
use Rattle.std.specs.Prelude.{reverse}
use Rattle.arrayvec.specs.ArrayVec.{array_vec_len}
use Rattle.bpf_verify.specs.ControlFlow.{Edge, WritesWord, NoneWrites}
use Rattle.bpf_verify.specs.Masks.{ArrivesUnset}
use Rattle.bpf_verify.proofs.Walks.{GoesFrom}
use Rattle.bpf_verify.proofs.path.path_to.Given as goal

abbrev pub invariant-back : goal.invariant-back
invariant-back l = record {
  path : (earlier : List ℕ) × (reverse l.path.items ≡ earlier ++ l.at ∷ []) × GoesFrom l.insns l.next (reverse l.path.items)
      × NoneWrites l.insns earlier l.word;
  room : array_vec_len l.path + l.next ≤ l.at + 1;
  order : (l.from ≤ l.next) × (l.next ≤ l.at);
  unset : ArrivesUnset l.insns l.next l.word;
  passed : (at : ℕ) → l.from ≤ at → at < l.next → Edge l.insns at l.next → (WritesWord l.insns at l.word → ⊥) → ArrivesUnset l.insns at l.word → ⊥;
}

abbrev pub decreases-back : goal.decreases-back
decreases-back l = l.from
