use Rattle.std.proofs.Common.{ℕ, subst, sym}
use Rattle.std.specs.Arc.{arc_value}
use Rattle.rec_core.specs.declared.event.Event.{Event}
use Rattle.rec_core.specs.World.EventData.{OfTake, OfTime, OfInstall, OfSend, OfClose}
use Rattle.rec_core.specs.Steps.{AnswersEvent, Serves}
use Rattle.rec_core.specs.Views.{channel_parts, event_data}
use Rattle.rec_core.proofs.EventsServed.{serves_quietly, no_output_take, no_output_time, no_output_install, no_output_send, no_output_close}
use Rattle.rec_core.proofs.channel.Channel.serve.Goals as goal

pub returns-in-Take-clause-serves : goal.returns-in-Take-clause-serves
returns-in-Take-clause-serves g c =
    let old = channel_parts c.args.self.now in
    let new = channel_parts c.take.new.self in
    subst (λ (e : Event). (size : ℕ) → Serves size old new c.args.writer.now c.args.writer.now (event_data e) c.take.result) (sym c.in-Take.is)
    (serves_quietly old new c.args.writer.now (OfTake c.in-Take.channel c.in-Take.frame) c.take.result c.requires.held
    (no_output_take c.in-Take.channel c.in-Take.frame)
    (λ size. subst (λ f. AnswersEvent size old new (OfTake c.in-Take.channel f) c.take.result) c.frame.ensures.same
    (c.take.ensures.answers size c.in-Take.channel)))

pub returns-in-Time-clause-serves : goal.returns-in-Time-clause-serves
returns-in-Time-clause-serves g c =
    let old = channel_parts c.args.self.now in
    let new = channel_parts c.meet_time.new.self in
    subst (λ (e : Event). (size : ℕ) → Serves size old new c.args.writer.now c.args.writer.now (event_data e) c.meet_time.result) (sym c.in-Time.is)
    (serves_quietly old new c.args.writer.now (OfTime c.in-Time.channel c.in-Time.counter) c.meet_time.result c.requires.held
    (no_output_time c.in-Time.channel c.in-Time.counter) (λ size. c.meet_time.ensures.answers size c.in-Time.channel))

pub returns-in-Install-clause-serves : goal.returns-in-Install-clause-serves
returns-in-Install-clause-serves g c =
    let old = channel_parts c.args.self.now in
    let new = channel_parts c.install.new.self in
    subst (λ (e : Event). (size : ℕ) → Serves size old new c.args.writer.now c.args.writer.now (event_data e) c.install.result) (sym c.in-Install.is)
    (serves_quietly old new c.args.writer.now (OfInstall c.in-Install.channel (arc_value c.in-Install.program)) c.install.result c.requires.held
    (no_output_install c.in-Install.channel (arc_value c.in-Install.program))
    (λ size. c.install.ensures.answers size c.in-Install.channel))

pub returns-in-Send-clause-serves : goal.returns-in-Send-clause-serves
returns-in-Send-clause-serves g c =
    subst (λ (e : Event). (size : ℕ) → Serves size (channel_parts c.args.self.now) (channel_parts c.send.new.self) c.args.writer.now c.args.writer.now
    (event_data e) c.send.result) (sym c.in-Send.is)
    (serves_quietly (channel_parts c.args.self.now) (channel_parts c.send.new.self) c.args.writer.now (OfSend c.in-Send.channel) c.send.result c.requires.held
    (no_output_send c.in-Send.channel) (λ size. c.send.ensures.answers size c.in-Send.channel))

pub returns-in-Write-clause-serves : goal.returns-in-Write-clause-serves
returns-in-Write-clause-serves g c =
    subst (λ (e : Event). (size : ℕ) → Serves size (channel_parts c.args.self.now) (channel_parts c.write.new.self) c.args.writer.now c.write.new.writer
    (event_data e) c.write.result) (sym c.in-Write.is)
    (λ size. c.write.ensures.serves size c.in-Write.channel)

pub returns-in-Close-clause-serves : goal.returns-in-Close-clause-serves
returns-in-Close-clause-serves g c =
    subst (λ (e : Event). (size : ℕ) → Serves size (channel_parts c.args.self.now) (channel_parts c.close.new.self) c.args.writer.now c.args.writer.now
    (event_data e) c.close.result) (sym c.in-Close.is)
    (serves_quietly (channel_parts c.args.self.now) (channel_parts c.close.new.self) c.args.writer.now (OfClose c.in-Close.channel) c.close.result
    c.requires.held (no_output_close c.in-Close.channel) (λ size. c.close.ensures.answers size c.in-Close.channel))
