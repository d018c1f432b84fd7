use Rattle.std.proofs.Common.{◌≡◌, [], take, drop}
use Rattle.rec_words.specs.Settings.{repeated}
use Rattle.rec_words.proofs.SettingsRead.{ids}
use Rattle.rec_words.proofs.settings.reading.repeated.Given as goal

-- the channels so far have other IDs
abbrev pub invariant-channels : goal.invariant-channels
invariant-channels l =
    repeated [] (ids l.channels) ≡ repeated (ids (take l.k l.channels)) (ids (drop l.k l.channels))
