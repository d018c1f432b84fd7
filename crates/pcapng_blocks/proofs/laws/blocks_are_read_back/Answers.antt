use Rattle.pcapng_blocks.proofs.BlocksRead.{read_back}
use Rattle.pcapng_blocks.proofs.laws.blocks_are_read_back.Goals as goal

pub returns : goal.returns
returns c = read_back
