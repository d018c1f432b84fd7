use Rattle.rec_words.proofs.SourcesSaid.{given_are, sources_are}
use Rattle.rec_words.proofs.laws.a_setup_record_says_exactly_its_channels.Goals as goal

pub returns-clause-given : goal.returns-clause-given
returns-clause-given c = given_are c.a_setup_record_names_the_channels.ensures

pub returns-clause-sources : goal.returns-clause-sources
returns-clause-sources c = sources_are c.a_setup_record_names_the_channels.ensures
