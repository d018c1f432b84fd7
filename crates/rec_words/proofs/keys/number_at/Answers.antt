use Rattle.rec_words.proofs.keys.number_at.Goals as goal

pub returns-in-Some-clause-number : goal.returns-in-Some-clause-number
returns-in-Some-clause-number c = rw (← rw c.in-Some.is at c.value_at.ensures) c.number_in.ensures.number

pub returns-in-None-clause-number : goal.returns-in-None-clause-number
returns-in-None-clause-number c = rw (← rw c.in-None.is at c.value_at.ensures)
