use Rattle.ch11_file.proofs.FileOrders.{file_tells}
use Rattle.ch11_file.proofs.laws.times_of_a_whole_file_are_the_clocks.Goals as goal

pub returns : goal.returns
returns c = λ facts blocks clock whole.
    file_tells facts blocks
    (λ moment tick is. c.time_points_have_the_clocks_time.ensures facts.least facts.rules moment tick clock is) whole
