use Rattle.std.proofs.Common.{◌≡◌, ◌++◌, map, take}
use Rattle.ch11_channels.proofs.named.add_named.Given as goal

-- those of the IDs so far
abbrev pub invariant-ids : goal.invariant-ids
invariant-ids l =
    l.named.items ≡ l.fn.named.items ++ map (λ id. record { run = l.recording.run; channel = id }) (take l.id-index l.recording.ids.now)
