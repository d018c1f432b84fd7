use Rattle.std.proofs.Common.{arith}
use Rattle.rec_reader.proofs.Chains.{rest_within, takes_on, stays_on, stays_at}
use Rattle.rec_reader.proofs.read.read_recording.Goals as goal

pub overflow_sub-at : goal.overflow_sub-at
overflow_sub-at c = rest_within _ _ _ c.packets.invariant

pub packets-preserved : goal.packets-preserved
packets-preserved c =
    let within = rest_within _ _ _ c.packets.invariant in
    takes_on _ _ _ _ _ _ c.packets.invariant (omega (arith, within)) c.in-Ok.ensures.taken

pub returns-in-Err-clause-memory : goal.returns-in-Err-clause-memory
returns-in-Err-clause-memory c = λ refused.
    let within = rest_within _ _ _ c.packets.invariant in
    stays_on _ _ _ _ _ c.in-Err.ensures.kept c.packets.invariant (omega (arith, within)) (c.in-Err.ensures.memory refused)

pub invariant_of-result : goal.invariant_of-result
invariant_of-result c =
    let within = rest_within _ _ _ c.packets.invariant in
    stays_at _ _ _ _ _ c.in-Err.ensures.kept c.packets.invariant (omega (arith, within))

pub returns-in-Err-clause-place : goal.returns-in-Err-clause-place
returns-in-Err-clause-place c =
    let within = rest_within _ _ _ c.packets.invariant in
    stays_at _ _ _ _ _ c.in-Err.ensures.kept c.packets.invariant (omega (arith, within))
