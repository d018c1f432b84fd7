use Rattle.ch11_packet.proofs.Classing.{one_held, held_or_fault, one_fault_held, holds_again, fault_again, wrong_sum, said_by_body}
use Rattle.ch11_packet.proofs.Outcomes.{holds_or_fault}
use Rattle.ch11_packet.proofs.laws.a_packet_holds_one_thing.Goals as goal

pub returns-clause-one : goal.returns-clause-one
returns-clause-one c = one_held

pub returns-clause-valid : goal.returns-clause-valid
returns-clause-valid c = held_or_fault

pub returns-clause-one_fault : goal.returns-clause-one_fault
returns-clause-one_fault c = one_fault_held

pub returns-clause-some : goal.returns-clause-some
returns-clause-some c = holds_or_fault

pub returns-clause-unjudged : goal.returns-clause-unjudged
returns-clause-unjudged c = holds_again

pub returns-clause-unjudged_fault : goal.returns-clause-unjudged_fault
returns-clause-unjudged_fault c = fault_again

pub returns-clause-wrong_sum : goal.returns-clause-wrong_sum
returns-clause-wrong_sum c = wrong_sum

pub returns-clause-frames : goal.returns-clause-frames
returns-clause-frames c = λ frames bytes spells. said_by_body frames bytes spells
