use Rattle.std.proofs.Common.{rules, arith}
use Rattle.ch11_packet.proofs.Bodies.{open_blank, frames_in-none}
use Rattle.ch11_packet.proofs.frames.builder.DataBuilder.over.Goals as goal

pub invariant_of-result : goal.invariant_of-result
invariant_of-result c = search (rules, open_blank)

pub returns-clause-empty : goal.returns-clause-empty
returns-clause-empty c = grind (arith, frames_in-none)

pub returns-clause-roomy : goal.returns-clause-roomy
returns-clause-roomy c = λ len short. rw (frames_in-none c.append.new.body.items) (let least = c.blank.invariant.roomy.least in omega arith)
