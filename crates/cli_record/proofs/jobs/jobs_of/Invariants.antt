use Rattle.std.proofs.Common.{◌≡◌, ◌++◌, map}
use Rattle.std.specs.Vec.Iter.{into_iter_items}
use Rattle.cli_record.specs.Jobs.{IsJobOf, asked_numbers, numbers_of_jobs}
use Rattle.cli_record.proofs.JobsSoFar.{AreDone}
use Rattle.cli_record.proofs.jobs.jobs_of.Given as goal

-- the jobs so far are those of the channels so far, and have their numbers
abbrev pub invariant-channels : goal.invariant-channels
invariant-channels g l =
    (map (asked_numbers l.fn.limit) l.fn.channels.items
    ≡ numbers_of_jobs l.jobs.items ++ map (asked_numbers l.fn.limit) (into_iter_items l.channel-iterator))
    × AreDone (IsJobOf g.C.ChannelFiles.listed g.C.ChannelFiles.fed g.C.Feed.FrameSource.left l.fn.files) l.fn.channels.items
    (into_iter_items l.channel-iterator) l.jobs.items
