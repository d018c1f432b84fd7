use Rattle.ch11_clock.specs.Clock.{clock_time}
use Rattle.rec_joined.proofs.MovedTimes.{none_in}
use Rattle.rec_joined.proofs.moves.Moves.counter.Goals as goal

pub returns-clause-none : goal.returns-clause-none
returns-clause-none c =
    none_in c.args.self.now.start.nanos (clock_time c.args.self.now.clock c.args.counter) c.moved_counter.result c.moved_counter.ensures.none
