use Rattle.rec_core.proofs.BufferOffers.{any_frame}
use Rattle.rec_core.proofs.laws.any_frame_can_be_offered.Goals as goal

pub returns : goal.returns
returns c = any_frame c.a_valid_program_returns.ensures c.few_pieces_become_certain_at_a_time.ensures.frame
    c.a_run_writes_each_channel_in_order.ensures.channels
