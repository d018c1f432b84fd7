use Rattle.rec_theorem.proofs.JobRuns.{are_answered}
use Rattle.whole_theorem.proofs.WholeFound.{whole_found}
use Rattle.whole_theorem.proofs.theorem.what_is_recorded_is_in_its_whole_file.Goals as goal

pub returns-clause-found : goal.returns-clause-found
returns-clause-found g c = λ jobs version control out done before bytes recorded.
    whole_found g.S.FrameSource.left g.V.Write.contents c.bytes_have_one_reading.ensures.one c.a_whole_file_is_read_back.ensures.read
    c.a_whole_file_is_read_back.ensures.no_fault c.a_whole_file_is_read_back.ensures.all jobs done.report.channels.items recorded.controlled.changes bytes
    (c.what_is_recorded_is_found.ensures.found jobs version control out done before bytes recorded)

pub returns-clause-calls : goal.returns-clause-calls
returns-clause-calls g c = λ jobs version control out done before bytes recorded names rules most first last counts ahead file written.
    are_answered g.S.FrameSource.left jobs done.report.channels.items recorded.controlled.changes file
    (whole_found g.S.FrameSource.left g.V.Write.contents c.bytes_have_one_reading.ensures.one c.a_whole_file_is_read_back.ensures.read
    c.a_whole_file_is_read_back.ensures.no_fault c.a_whole_file_is_read_back.ensures.all jobs done.report.channels.items recorded.controlled.changes bytes
    (c.what_is_recorded_is_found.ensures.found jobs version control out done before bytes recorded) names rules most first last counts ahead file written)
