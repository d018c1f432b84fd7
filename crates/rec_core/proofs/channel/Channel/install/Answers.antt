use Rattle.std.proofs.Common.{subst, []}
use Rattle.std.specs.Arc.{arc_value}
use Rattle.rec_core.specs.Openings.{IsFilter}
use Rattle.rec_core.specs.World.EventData.{OfInstall}
use Rattle.rec_core.specs.Steps.{DoesEvent}
use Rattle.rec_core.specs.Views.{channel_parts}
use Rattle.rec_core.specs.declared.reply.Reply.TheVariants.{Installed}
use Rattle.rec_core.proofs.ChannelServing.{install_done}
use Rattle.rec_core.proofs.channel.Channel.install.Goals as goal

pub returns-clause-answers : goal.returns-clause-answers
returns-clause-answers c = λ size channel.
    let old = channel_parts c.args.self.now in
    let filter : IsFilter (arc_value c.in_ok-share.share) = record {
      valid = rw c.deref.ensures at c.insns-valid.ensures.valid;
      in_range = rw c.deref.ensures at c.insns-valid.ensures.in_range;
    } in
    subst (λ program. DoesEvent size old (record old { slot = c.install.new.self }) (OfInstall channel program)
    (Installed c.in-Ok.field-0.version c.in-Ok.field-0.mark) []) c.in_ok-share.ensures
    (install_done c.later_versions_leave_the_frames.ensures.kept size channel old c.install.new.self (arc_value c.in_ok-share.share) c.in-Ok.field-0.version
    c.in-Ok.field-0.mark
    c.in-Ok.ensures.room filter c.in-Ok.ensures.place.0 c.in-Ok.ensures.place.1 c.in-Ok.ensures.added)
