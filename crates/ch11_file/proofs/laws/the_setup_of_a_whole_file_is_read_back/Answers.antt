use Rattle.ch11_file.specs.WholeFile.{setup_at, setup_text}
use Rattle.ch11_file.proofs.laws.the_setup_of_a_whole_file_is_read_back.Goals as goal

pub returns : goal.returns
unfolding setup_text
returns c = record {
  found = λ setup time is. c.a_setup_record_is_read_back.ensures.found (setup_at setup time) is;
  sources = λ setup time none. c.a_setup_record_names_the_channels.ensures (setup_at setup time) none;
}
