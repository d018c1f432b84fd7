use Rattle.ch11_file.proofs.FileDistances.{file_near}
use Rattle.ch11_file.proofs.laws.packets_lie_near_their_times.Goals as goal

pub returns : goal.returns
returns c = λ facts blocks clock some whole.
    let laws = c.counters_lie_near_a_time_point.ensures in
    file_near facts blocks
    (record {
      near = λ moment tick counter is fits none. laws.near facts.least facts.rules moment tick counter clock is fits none;
      fits = λ moment tick is. laws.fits facts.least facts.rules moment tick is;
    }) some whole
