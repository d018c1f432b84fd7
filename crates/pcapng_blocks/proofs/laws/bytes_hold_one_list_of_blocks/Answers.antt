use Rattle.pcapng_blocks.proofs.OneBlockReading.{one_reading}
use Rattle.pcapng_blocks.proofs.laws.bytes_hold_one_list_of_blocks.Goals as goal

pub returns : goal.returns
returns c = one_reading
