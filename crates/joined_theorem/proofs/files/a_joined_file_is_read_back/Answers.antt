use Rattle.std.proofs.Common.{◌∙◌}
use Rattle.rec_joined.specs.JoinedPackets.{joined_packets, joined_told}
use Rattle.joined_theorem.proofs.files.a_joined_file_is_read_back.Goals as goal

pub returns-clause-read : goal.returns-clause-read
returns-clause-read g c = λ parts read are rules most setup blocks whole.
    c.a_whole_file_is_read_as_it_is_told.ensures.read (joined_told parts read) (joined_packets parts read) rules most setup blocks
    (c.joined_recordings_are_listed_as_they_tell.ensures.listed parts read are) whole

pub returns-clause-same : goal.returns-clause-same
returns-clause-same g c = λ parts read are rules most setup blocks whole found fault its.
    c.a_whole_file_is_read_as_it_is_told.ensures.same (joined_told parts read) (joined_packets parts read) rules most setup blocks
    (c.joined_recordings_are_listed_as_they_tell.ensures.listed parts read are) whole found fault its

pub returns-clause-frames : goal.returns-clause-frames
returns-clause-frames g c = λ parts read are rules most setup blocks whole none found its id.
    c.a_whole_file_is_read_as_it_is_told.ensures.all (joined_told parts read) (joined_packets parts read) rules most setup blocks
    (c.joined_recordings_are_listed_as_they_tell.ensures.listed parts read are) whole none found its id
    ∙ c.joined_recordings_are_listed_as_they_tell.ensures.frames parts read are id

pub returns-clause-approved : goal.returns-clause-approved
returns-clause-approved g c = λ parts read are rules most setup blocks whole none found its audit audited.
    c.a_whole_file_is_read_as_it_is_told.ensures.approved (joined_told parts read) (joined_packets parts read) rules most setup blocks
    (c.joined_recordings_are_listed_as_they_tell.ensures.listed parts read are) whole none found its audit audited
