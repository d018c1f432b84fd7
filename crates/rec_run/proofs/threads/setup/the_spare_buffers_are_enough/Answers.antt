use Rattle.std.proofs.Common.{arith}
use Rattle.rec_run.specs.declared.threads.setup.TheConstants.{SPARE_BUFFERS}
use Rattle.rec_run.proofs.threads.setup.the_spare_buffers_are_enough.Goals as goal

pub returns-clause-moves : goal.returns-clause-moves
returns-clause-moves c = λ ring specs moves new some lead. c.no_channel_stands_still.ensures.some ring SPARE_BUFFERS specs moves new some lead

pub returns-clause-ready : goal.returns-clause-ready
returns-clause-ready c = λ ring specs moves new lead.
    c.buffers_are_neither_lost_nor_doubled.ensures.ready ring SPARE_BUFFERS specs moves new (omega arith) lead

pub returns-clause-room : goal.returns-clause-room
returns-clause-room c = λ ring specs moves new lead k d within.
    let few = c.buffers_are_neither_lost_nor_doubled.ensures.room ring SPARE_BUFFERS specs moves new lead k d within in
    omega (arith, few)
