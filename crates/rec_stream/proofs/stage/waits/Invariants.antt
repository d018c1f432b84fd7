use Rattle.std.proofs.Common.{◌≡◌, drop}
use Rattle.rec_stream.specs.Sending.{waits_in}
use Rattle.rec_stream.proofs.stage.waits.Given as goal

-- none of the ends so far is of the channel
abbrev pub invariant-ends : goal.invariant-ends
invariant-ends l = waits_in (drop l.end-index l.ends) l.channel ≡ waits_in l.ends l.channel
