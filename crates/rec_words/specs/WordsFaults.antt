-- What a fault of words says of the kinds of error that the crate clap defines for them.
use Rattle.std.specs.Prelude.{◌≢◌}
use Rattle.clap.specs.Words.{Kinds, IsAmong}
use Rattle.clap.specs.declared.error.ErrorKind.{ErrorKind}
use Rattle.clap.specs.declared.error.ErrorKind.TheVariants.{DisplayHelp, DisplayVersion}
use Rattle.rec_words.specs.declared.words.WordsFault.{WordsFault}
use Rattle.rec_words.specs.declared.words.WordsFault.TheVariants.{Help, Words, Memory, Version}

-- help is reported only where it is among the kinds, the version only where that is, and another
-- text only where another kind is
abbrev pub IsFaultOf : Kinds → WordsFault → Type 0
IsFaultOf kinds (Help text) = IsAmong DisplayHelp kinds
IsFaultOf kinds (Words text) =
    (kind : ErrorKind) × (kind ≢ DisplayHelp) × (kind ≢ DisplayVersion) × IsAmong kind kinds
IsFaultOf kinds Memory = Unit {0}
IsFaultOf kinds (Version text) = IsAmong DisplayVersion kinds
