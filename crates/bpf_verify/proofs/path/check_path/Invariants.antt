use Rattle.std.proofs.Common.{◌↔◌, drop}
use Rattle.bpf_verify.specs.ControlFlow.{UnsetRead}
use Rattle.bpf_verify.proofs.Walks.{WalksUnset}
use Rattle.bpf_verify.proofs.path.check_path.Given as goal

abbrev pub invariant-places : goal.invariant-places
invariant-places l = UnsetRead l.insns l.path l.word ↔ WalksUnset l.insns l.at (drop l.next-index l.rest) l.word
