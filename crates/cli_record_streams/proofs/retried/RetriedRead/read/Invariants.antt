use Rattle.std.specs.Io.KnownBytes.{Keeps}
use Rattle.cli_record_streams.proofs.retried.RetriedRead.read.Given as goal

abbrev pub invariant-tries : goal.invariant-tries
invariant-tries g l = Keeps (g.F.Read.remaining l.fn.self.file) (g.F.Read.remaining l.self.file)
