use Rattle.std.proofs.Common.{◌∙◌, ap, subst, Err, IfOk, set}
use Rattle.rec_core.specs.declared.fault.CoreFault.TheVariants.{NoChannel}
use Rattle.rec_core.specs.Worlds.{CoreState, StepsCut, WritesOnlyWhileItWorks}
use Rattle.rec_core.specs.Views.{channel_parts, core_of, event_data}
use Rattle.rec_core.proofs.Cores.{found_at, found_held, found_known, core_steps, core_stays, core_of_none}
use Rattle.rec_core.proofs.WorldSteps.{step_alone}
use Rattle.rec_core.proofs.EventsServed.{fails_then, stays_failed, works_then}
use Rattle.rec_core.proofs.world.World.step.Goals as goal

pub returns-in_default-clause-cut : goal.returns-in_default-clause-cut
returns-in_default-clause-cut g c =
    subst (λ (k : CoreState). StepsCut k k (event_data c.args.event.now) (Err NoChannel)) c.self.view_is
    (core_of_none c.self.inside.channels.items c.as_slice.result.now c.self.inside.writer c.channel.result (event_data c.args.event.now)
    c.as_slice.ensures.value c.channel.ensures c.in_default.ensures.none)

pub returns-in_default-clause-step : goal.returns-in_default-clause-step
returns-in_default-clause-step g c = step_alone c.args.self.now c.args.self.now (event_data c.args.event.now) (Err NoChannel)
    (returns-in_default-clause-cut g c)

pub serve-requires-clause-held : goal.serve-requires-clause-held
serve-requires-clause-held g c =
    let items = c.self.inside.channels.items in
    let found = found_at items c.as_slice.result.now c.in-Some.at c.channel.result c.index_mut-channel.result.now (event_data c.args.event.now)
    c.as_slice.ensures.value c.in-Some.ensures.within c.in-Some.ensures.found c.channel.ensures c.index_mut-channel.ensures.value in
    found_held items c.self.inside.writer c.in-Some.at c.index_mut-channel.result.now (event_data c.args.event.now) c.self.invariant found

pub serve-requires-clause-known : goal.serve-requires-clause-known
serve-requires-clause-known g c =
    let items = c.self.inside.channels.items in
    let found = found_at items c.as_slice.result.now c.in-Some.at c.channel.result c.index_mut-channel.result.now (event_data c.args.event.now)
    c.as_slice.ensures.value c.in-Some.ensures.within c.in-Some.ensures.found c.channel.ensures c.index_mut-channel.ensures.value in
    found_known items c.self.inside.writer c.in-Some.at c.index_mut-channel.result.now (event_data c.args.event.now) c.self.invariant found

pub invariant_of-self : goal.invariant_of-self
invariant_of-self g c =
    let items = c.self.inside.channels.items in
    let event = event_data c.args.event.now in
    let channel = c.index_mut-channel.result.now in
    let found = found_at items c.as_slice.result.now c.in-Some.at c.channel.result channel event c.as_slice.ensures.value c.in-Some.ensures.within
    c.in-Some.ensures.found c.channel.ensures c.index_mut-channel.ensures.value in
    let serve = c.serve.ensures in
    core_stays items c.self.inside.writer c.serve.new.writer c.in-Some.at channel c.serve.new.self event c.serve.result found serve.spec serve.channels
    (core_steps items c.self.inside.writer c.serve.new.writer c.in-Some.at channel c.serve.new.self event c.serve.result found serve.spec serve.front
    serve.version serve.serves)
    c.self.invariant

pub returns-clause-cut : goal.returns-clause-cut
returns-clause-cut g c =
    let items = c.self.inside.channels.items in
    let event = event_data c.args.event.now in
    let channel = c.index_mut-channel.result.now in
    let found = found_at items c.as_slice.result.now c.in-Some.at c.channel.result channel event c.as_slice.ensures.value c.in-Some.ensures.within
    c.in-Some.ensures.found c.channel.ensures c.index_mut-channel.ensures.value in
    let serve = c.serve.ensures in
    subst (λ (k : CoreState). StepsCut k (core_of (set items c.in-Some.at c.serve.new.self) c.serve.new.writer) event c.serve.result) c.self.view_is
    (core_steps items c.self.inside.writer c.serve.new.writer c.in-Some.at channel c.serve.new.self event c.serve.result found serve.spec serve.front
    serve.version serve.serves)

pub returns-clause-step : goal.returns-clause-step
returns-clause-step g c =
    step_alone c.args.self.now (core_of (set c.self.inside.channels.items c.in-Some.at c.serve.new.self) c.serve.new.writer) (event_data c.args.event.now)
    c.serve.result (returns-clause-cut g c)

pub returns-clause-failed : goal.returns-clause-failed
returns-clause-failed g c = fails_then 0 (channel_parts c.index_mut-channel.result.now) (channel_parts c.serve.new.self) c.self.inside.writer
    c.serve.new.writer (event_data c.args.event.now) c.serve.result (c.serve.ensures.serves 0)

pub returns-clause-silent : goal.returns-clause-silent
returns-clause-silent g c =
    let same = ap (λ (k : CoreState). k.writer) c.self.view_is in
    λ failed. stays_failed 0 (channel_parts c.index_mut-channel.result.now) (channel_parts c.serve.new.self) c.self.inside.writer c.serve.new.writer
    (event_data c.args.event.now) c.serve.result (c.serve.ensures.serves 0)
    (ap (λ (k : CoreState). k.writer.failed) c.self.view_is ∙ failed) ∙ same

pub returns-clause-works : goal.returns-clause-works
returns-clause-works g c =
    let items = c.self.inside.channels.items in
    let event = event_data c.args.event.now in
    let channel = c.index_mut-channel.result.now in
    let found = found_at items c.as_slice.result.now c.in-Some.at c.channel.result channel event c.as_slice.ensures.value c.in-Some.ensures.within
    c.in-Some.ensures.found c.channel.ensures c.index_mut-channel.ensures.value in
    subst (λ (k : CoreState). IfOk c.serve.result (WritesOnlyWhileItWorks k.writer.failed)) c.self.view_is
    (works_then (channel_parts channel) (channel_parts c.serve.new.self) c.self.inside.writer c.serve.new.writer event c.serve.result
    (found_held items c.self.inside.writer c.in-Some.at channel event c.self.invariant found) c.serve.ensures.serves)
