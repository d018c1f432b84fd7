-- What a packet says of a channel, as data.
use Rattle.rec_reader.specs.Channels.{Saying}
use Rattle.rec_reader.specs.Channels.Saying.{OfProgram, OfEnd}
use Rattle.rec_reader.specs.Views.{program_data}
use Rattle.rec_runs.specs.declared.told.ToldOfRun.{ToldOfRun}
use Rattle.rec_runs.specs.declared.told.ToldOfRun.TheVariants.{Program, End}

abbrev pub told_data : ToldOfRun → Saying
told_data (Program program) = OfProgram (program_data program)
told_data (End offered kept) = OfEnd (record { offered = offered; kept = kept })
