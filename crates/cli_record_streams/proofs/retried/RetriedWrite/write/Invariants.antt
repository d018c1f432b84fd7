use Rattle.std.specs.Io.KnownBytes.{Keeps}
use Rattle.cli_record_streams.proofs.retried.RetriedWrite.write.Given as goal

abbrev pub invariant-tries : goal.invariant-tries
invariant-tries g l = Keeps (g.F.Write.contents l.fn.self.file) (g.F.Write.contents l.self.file)
