-- The channels that recordings name.
use Rattle.std.specs.Prelude.{List, map}
use Rattle.ch11_channels.specs.declared.channels.RunChannel.{RunChannel}
use Rattle.ch11_channels.specs.declared.named.NamedIds.{NamedIds}

-- those of a recording, as its run has them
abbrev pub named_by_recording : NamedIds → List RunChannel
named_by_recording recording =
    map (λ id. record { run = recording.run; channel = id }) recording.ids.now
