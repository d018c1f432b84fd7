use Rattle.ch11_file.proofs.FileOrders.{file_in_order}
use Rattle.ch11_file.proofs.laws.headers_never_lie_far_behind.Goals as goal

pub returns : goal.returns
returns c = file_in_order
