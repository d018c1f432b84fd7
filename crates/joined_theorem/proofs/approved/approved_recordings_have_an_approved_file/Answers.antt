use Rattle.joined_theorem.proofs.ApprovedRuns.{approved}
use Rattle.joined_theorem.proofs.approved.approved_recordings_have_an_approved_file.Goals as goal

pub returns-clause-told : goal.returns-clause-told
returns-clause-told g c = λ parts read are own moves all. approved g.P.PacketsAt.there parts read are own moves all

pub returns-clause-file : goal.returns-clause-file
returns-clause-file g c = λ parts read are own moves all rules most setup blocks whole none found its.
    let told = approved g.P.PacketsAt.there parts read are own moves all in
    (told.0, told.1, c.a_joined_file_is_read_back.ensures.approved parts read are rules most setup blocks whole none found its told.0 told.1)
