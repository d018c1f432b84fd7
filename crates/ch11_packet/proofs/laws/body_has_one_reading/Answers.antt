use Rattle.ch11_packet.proofs.ReadBodies.{one_body}
use Rattle.ch11_packet.proofs.Unjudged.{other_word, other_unused}
use Rattle.ch11_packet.proofs.Bodies.{SpellsBody-written}
use Rattle.ch11_packet.proofs.laws.body_has_one_reading.Goals as goal

pub returns-clause-one : goal.returns-clause-one
returns-clause-one c = λ frames others bytes a b. one_body frames others bytes a b

pub returns-clause-written : goal.returns-clause-written
returns-clause-written c = λ body is. SpellsBody-written body is

pub returns-clause-word : goal.returns-clause-word
returns-clause-word c = λ frames word other rest same spells. other_word frames word other rest same.word_fits same.format same.count spells

pub returns-clause-unused : goal.returns-clause-unused
returns-clause-unused c = λ frame spelling other spells. other_unused frame spelling other spells
