use Rattle.bpf_machine.proofs.Returning.{returns_in_time}
use Rattle.bpf_machine.proofs.laws.a_valid_program_returns.Goals as goal

pub returns : goal.returns
returns c = returns_in_time
