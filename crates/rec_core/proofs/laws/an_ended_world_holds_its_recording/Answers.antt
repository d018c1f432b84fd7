use Rattle.rec_core.proofs.Written.{held_recording}
use Rattle.rec_core.proofs.laws.an_ended_world_holds_its_recording.Goals as goal

pub returns : goal.returns
returns c = λ ring specs before core new run ended stands. held_recording c.what_a_writer_put_is_a_recording.ensures ring before core new ended stands
    (c.a_run_that_ended_is_a_recording.ensures ring specs new run ended)
