use Rattle.bpf_machine.proofs.Returning.{returns_in_time}
use Rattle.bpf_machine.proofs.laws.a_program_of_512_instructions_runs_as_before.Goals as goal

pub returns-clause-returns : goal.returns-clause-returns
returns-clause-returns c = λ program view valid. returns_in_time program view (c.a_valid_program_stays_valid.ensures.first_profile program valid)
