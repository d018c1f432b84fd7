use Rattle.cli_chapter11.proofs.RecordsInRuns.{channels_of_runs, moved_in_runs}
use Rattle.cli_chapter11.proofs.laws.listed_recordings_are_moved_in_their_runs.Goals as goal

pub returns-clause-records : goal.returns-clause-records
returns-clause-records g c = λ bytes files tables all read start channels parts.
    moved_in_runs g.F.PlacedRead.held start channels bytes files tables all read parts

pub returns-clause-channels : goal.returns-clause-channels
returns-clause-channels g c = λ files tables all start channels parts.
    channels_of_runs g.F.PlacedRead.held start channels files tables all parts
