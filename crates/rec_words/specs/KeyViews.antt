-- The faults of a table's keys as data.
use Rattle.std.specs.Prelude.{◌≡◌, string_bytes, Result, Err}
use Rattle.rec_words.specs.declared.keys.fault.KeyFault.{KeyFault}
use Rattle.rec_words.specs.declared.keys.fault.KeyFault.TheVariants.{Unknown, Missing, Value}
use Rattle.rec_words.specs.declared.keys.fault.KeyFault.TheVariants.{Memory}
use Rattle.rec_words.specs.Settings.{Fault, unknown, missing, value}

-- the fault is the one that the definition has; out of memory may be at any text
abbrev pub KeyReports : {A : Type 0} → Result A Fault → KeyFault → Type 0
KeyReports said (Unknown key) = said ≡ Err (unknown (string_bytes key))
KeyReports said (Missing key) = said ≡ Err (missing key.now)
KeyReports said (Value key) = said ≡ Err (value key.now)
KeyReports said Memory = Unit {0}
