use Rattle.std.proofs.Common.{rules, ◌≡◌, ◌∷◌, ◌++◌, [], ap, map, ◌∙◌, append-nil, subst, sym, refl}
use Rattle.std.specs.List.{AllZip}
use Rattle.std.specs.Vec.Iter.{into_iter_items}
use Rattle.cli_record.specs.Jobs.{IsJobOf, asked_numbers, job_numbers, numbers_of_jobs}
use Rattle.cli_record.proofs.JobsSoFar.{asked_more, done_more}
use Rattle.cli_record.proofs.jobs.jobs_of.Goals as goal

pub channels-init : goal.channels-init
channels-init g c = (search rules, record { done = []; whole = search rules; each = search rules })

pub channels-preserved : goal.channels-preserved
channels-preserved g c =
    let R = IsJobOf g.C.ChannelFiles.listed g.C.ChannelFiles.fed g.C.Feed.FrameSource.left c.args.files.now in
    let next : into_iter_items c.channels.channel-iterator ≡ c.in-Some.channel ∷ into_iter_items c.next.new.self = search rules in
    let pushed : c.push.new.self.items ≡ c.channels.jobs.items ++ c.in_ok-job.job ∷ [] = search rules in (
      subst (λ js. map (asked_numbers c.args.limit) c.args.channels.items
          ≡ numbers_of_jobs js ++ map (asked_numbers c.args.limit) (into_iter_items c.next.new.self)) (sym pushed)
          (asked_more (asked_numbers c.args.limit) job_numbers _ c.channels.jobs.items c.in_ok-job.job c.in-Some.channel _
          (c.channels.invariant.0 ∙ ap (λ cs. numbers_of_jobs c.channels.jobs.items ++ map (asked_numbers c.args.limit) cs) next)
          c.in_ok-job.ensures.asked),
      done_more R c.args.channels.items _ _ c.channels.jobs.items c.push.new.self.items c.in-Some.channel c.in_ok-job.job c.channels.invariant.1
          next pushed c.in_ok-job.ensures.named,
    )
