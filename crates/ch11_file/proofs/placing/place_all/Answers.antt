use Rattle.ch11_file.proofs.placing.place_all.Goals as goal

pub returns-in-Err : goal.returns-in-Err
returns-in-Err g c = λ facts before same placed. c.in-Err.ensures.placed facts before same (c.places.invariant.placed facts before same placed)
