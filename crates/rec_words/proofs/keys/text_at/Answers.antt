use Rattle.rec_words.proofs.keys.text_at.Goals as goal

pub returns-in-Some : goal.returns-in-Some
returns-in-Some c = rw (← rw c.in-Some.is at c.value_at.ensures) c.text_in.ensures

pub returns-in-None : goal.returns-in-None
returns-in-None c = rw (← rw c.in-None.is at c.value_at.ensures)
