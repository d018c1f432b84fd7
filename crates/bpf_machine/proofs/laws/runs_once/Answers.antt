use Rattle.bpf_machine.proofs.Once.{step_once, run_once, never_stuck}
use Rattle.bpf_machine.proofs.laws.runs_once.Goals as goal

pub returns-clause-one_step : goal.returns-clause-one_step
returns-clause-one_step c = step_once

pub returns-clause-one_run : goal.returns-clause-one_run
returns-clause-one_run c = run_once

pub returns-clause-never_stuck : goal.returns-clause-never_stuck
returns-clause-never_stuck c = never_stuck
