use Rattle.std.proofs.Common.{List, Result, ◌∙◌, ◌++◌, ◌∷◌, [], refl, ap, subst, sym, arith, take}
use Rattle.std.proofs.lemmas.List.{take_all}
use Rattle.rec_writer.specs.Writers.{WriterState}
use Rattle.rec_core.specs.declared.reply.Reply.{Reply}
use Rattle.rec_core.specs.declared.fault.CoreFault.{CoreFault}
use Rattle.rec_core.specs.World.{EventData}
use Rattle.rec_core.specs.Worlds.{RunsCut}
use Rattle.rec_core.specs.Views.{event_data, events_data}
use Rattle.rec_core.proofs.ListPlaces.{map_more}
use Rattle.rec_core.proofs.WorldSteps.{runs_none, runs_more, run_alone}
use Rattle.rec_core.proofs.run.run_world.Goals as goal

pub events-init : goal.events-init
events-init g c = (
  subst (λ (answers : List (Result Reply CoreFault)). RunsCut c.args.world.now c.args.world.now [] answers) (sym c.in_ok-answers.ensures.items)
      (runs_none c.args.world.now),
  (λ failed. refl),
  refl,
  c.in_ok-answers.ensures.len,
  omega (arith, c.in_ok-answers.ensures.exact),
)

pub events-preserved : goal.events-preserved
events-preserved g c =
    let inv = c.events.invariant in
    let push = c.push_reserved.ensures in
    let start = c.args.world.now in
    let next = c.step.new.self in
    let before = take c.events.event-index c.args.events.now in
    let more = map_more event_data c.args.events.now c.events.event-index c.event-item.result (omega arith) c.event-item.is in (
      subst (λ (events : List EventData). RunsCut start next events c.push_reserved.new.self.items) (sym more)
          (subst (λ (answers : List (Result Reply CoreFault)). RunsCut start next (events_data before ++ event_data c.event-item.result ∷ []) answers)
          (sym push.items)
          (runs_more start c.events.world next (events_data before) c.events.answers.items (event_data c.event-item.result) c.step.result inv.0
          c.step.ensures.cut)),
      (λ failed. c.step.ensures.silent (ap (λ (w : WriterState). w.failed) (inv.1 failed) ∙ failed) ∙ inv.1 failed),
      c.step.ensures.version ∙ inv.2,
      omega (arith, push.len, inv.3),
      omega (arith, push.capacity, inv.4),
    )

pub returns-clause-cut : goal.returns-clause-cut
returns-clause-cut g c =
    let whole = ap events_data (take_all c.events.event-index c.args.events.now (omega arith)) in
    subst (λ (events : List EventData). RunsCut c.args.world.now c.events.world events c.events.answers.items) whole c.events.invariant.0

pub returns-clause-run : goal.returns-clause-run
returns-clause-run g c = run_alone c.args.world.now c.events.world (events_data c.args.events.now) c.events.answers.items (returns-clause-cut g c)
