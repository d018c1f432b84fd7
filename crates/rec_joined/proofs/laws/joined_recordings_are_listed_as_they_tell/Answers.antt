use Rattle.std.proofs.Common.{◌∙◌, sym}
use Rattle.rec_joined.specs.JoinedPackets.{joined_packets, joined_told}
use Rattle.rec_joined.proofs.JoinedFrames.{frames_kept}
use Rattle.rec_joined.proofs.ToldPackets.{frames_listed, parts_listed}
use Rattle.rec_joined.proofs.laws.joined_recordings_are_listed_as_they_tell.Goals as goal

pub returns-clause-listed : goal.returns-clause-listed
returns-clause-listed g c = parts_listed g.P.PacketsAt.there 0

pub returns-clause-frames : goal.returns-clause-frames
returns-clause-frames g c = λ parts read are id.
    sym (frames_listed id (joined_told parts read) (joined_packets parts read) (parts_listed g.P.PacketsAt.there 0 parts read are).each)
    ∙ frames_kept g.P.PacketsAt.there 0 parts read are id
