use Rattle.ch11_file.proofs.FileOrders.{begins_with_setup, time_stands_second}
use Rattle.ch11_file.proofs.laws.a_whole_file_begins_with_its_setup.Goals as goal

pub returns : goal.returns
returns c = record { setup = begins_with_setup; time = time_stands_second }
