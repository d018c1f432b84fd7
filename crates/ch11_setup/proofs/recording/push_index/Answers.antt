use Rattle.std.proofs.Common.{rules}
use Rattle.ch11_setup.proofs.recording.push_index.Goals as goal

pub returns-then-is_indexed : goal.returns-then-is_indexed
returns-then-is_indexed c = rw c.if-is_indexed.true (search rules)

pub returns-else-is_indexed : goal.returns-else-is_indexed
returns-else-is_indexed c = rw c.if-is_indexed.false (search rules)
