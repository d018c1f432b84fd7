use Rattle.std.proofs.Common.{◌≡◌, ℕ, ◌++◌, List}
use Rattle.rec_reader.specs.declared.audits.channel.ChannelState.{ChannelState}
use Rattle.rec_reader.proofs.AuditorEnd.{ClosesThese}
use Rattle.rec_reader.proofs.audits.auditor.Auditor.end.Given as goal

-- the channels so far are right at the end, and have their lines
abbrev pub invariant-channels : goal.invariant-channels
invariant-channels l =
    (done : List (ℕ × ChannelState)) × (l.fn.self.channels.entries ≡ done ++ l.channel-iterator) × ClosesThese l.fn.self.channels done l.lines.items
