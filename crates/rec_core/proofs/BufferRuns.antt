-- Steps of channels with buffers are steps of the core's world, or leave it as it is.
use Rattle.std.proofs.Common.{ℕ, ◌≡◌, List, [], ◌∷◌, ◌++◌, Some, refl, sym, ◌∙◌, ap, subst, map}
use Rattle.std.specs.Prelude.{slice_get, slice_set}
use Rattle.std.proofs.lemmas.List.{append-nil, map-set}
use Rattle.rec_lane.specs.Pieces.{PieceData}
use Rattle.rec_core.specs.declared.reply.Reply.{Reply}
use Rattle.rec_core.specs.declared.reply.Reply.TheVariants.{Took, Installed, Sent, Wrote, Closed as HasClosed}
use Rattle.rec_core.specs.World.{ChannelState, WorldState, EventData, event_channel, opening_channel, ChannelDoes}
use Rattle.rec_core.specs.World.EventData.{OfTake, OfInstall, OfSend, OfWrite, OfClose}
use Rattle.rec_core.specs.Buffers.{FlowState, FlowWorld, FlowSpec, Move, flow_id, ClosesFlow, FlowDoes, FlowStepAt, FlowRun, LeadTo, return_places}
use Rattle.rec_core.specs.Buffers.{opening_flow, opening_flows, without_buffers, specs_of_flows, IsUnrefusedRun}
use Rattle.rec_core.specs.Buffers.Move.{TakesBuffer, AsksSource, OffersFrame, ClosesAtEnd, ClosesAtMost, SendsPiece, GoesOn, WritesPiece, GivesBack, Installs}
use Rattle.rec_core.proofs.ListPlaces.{set_unseen, there_map}
use Rattle.rec_core.proofs.WorldRuns.{Runs, world, nowhere, then_on, at_place, one_after_another}

abbrev channels_in : FlowWorld → List ChannelState
channels_in w = map (λ (f : FlowState). f.channel) w.flows

-- some events lead from the one world to the other
abbrev Goes : ℕ → WorldState → WorldState → Type 0
Goes ring v w = (events : List EventData) × Runs ring v events w

-- the world after a step of the channel at an index
abbrev after : FlowWorld → ℕ → FlowState → List PieceData → FlowWorld
after old at g more = record { flows = slice_set old.flows at g; out = old.out ++ more }

module _ (ring : ℕ) (old : FlowWorld) (at : ℕ) (f : FlowState) (there : slice_get old.flows at ≡ Some f) where
  -- the channel is as it was, and nothing is written
  unseen : (g : FlowState) (more : List PieceData) → g.channel ≡ f.channel → more ≡ [] → Goes ring (without_buffers old) (without_buffers (after old at g more))
  unseen g more same none =
      let e : world (channels_in old) old.out ≡ without_buffers (after old at g more) =
      ap (λ ps. world (channels_in old) ps) (sym (ap (λ ps. old.out ++ ps) none ∙ append-nil old.out))
      ∙ ap (λ cs. world cs (old.out ++ more)) (sym (set_unseen (λ (h : FlowState). h.channel) old.flows at f g there same)) in
      ([], subst (λ w. Runs ring (without_buffers old) [] w) e (nowhere ring (without_buffers old)))

  -- the channel did what an event asks for
  seen : (g : FlowState) (d : ChannelState) (event : EventData) (reply : Reply) (more : List PieceData) → g.channel ≡ d
      → f.channel.settings.channel ≡ event_channel event → ChannelDoes ring f.channel event reply d more
      → Goes ring (without_buffers old) (without_buffers (after old at g more))
  seen g d event reply more is named does =
      let next = world (slice_set (channels_in old) at d) (old.out ++ more) in
      let e : next ≡ without_buffers (after old at g more) =
      ap (λ c. world (slice_set (channels_in old) at c) (old.out ++ more)) (sym is)
      ∙ ap (λ cs. world cs (old.out ++ more)) (sym (map-set (λ (h : FlowState). h.channel) old.flows at g)) in (
        event ∷ [],
        subst (λ w. Runs ring (without_buffers old) (event ∷ []) w) e
            (then_on ring (without_buffers old) next next event [] reply
            (at_place ring (channels_in old) old.out at f.channel d event reply more
            (there_map (λ (h : FlowState). h.channel) old.flows at f there) named does)
            (nowhere ring next)),
      )

  -- the same where the event writes nothing
  quietly : (g : FlowState) (d : ChannelState) (event : EventData) (reply : Reply) (more : List PieceData) → g.channel ≡ d
      → f.channel.settings.channel ≡ event_channel event → ChannelDoes ring f.channel event reply d [] → more ≡ []
      → Goes ring (without_buffers old) (without_buffers (after old at g more))
  quietly g d event reply more is named does none =
      subst (λ ps. Goes ring (without_buffers old) (without_buffers (after old at g ps))) (sym none) (seen g d event reply [] is named does)

  closing : (g : FlowState) (more : List PieceData) → ClosesFlow ring f g → more ≡ []
      → Goes ring (without_buffers old) (without_buffers (after old at g more))
  closing g more closes none =
      quietly g closes.3 (OfClose (flow_id f)) (HasClosed closes.0 closes.1) more (ap (λ (h : FlowState). h.channel) closes.6) refl closes.4 none

  stepped : (places : ℕ) (g : FlowState) (move : Move) (more : List PieceData) → FlowDoes ring places f move g more
      → Goes ring (without_buffers old) (without_buffers (after old at g more))
  stepped places g TakesBuffer more does = unseen g more (ap (λ (h : FlowState). h.channel) does.4) does.5
  stepped places g AsksSource more does = unseen g more (ap (λ (h : FlowState). h.channel) does.3) does.4
  stepped places g OffersFrame more does =
      quietly g does.6 (OfTake (flow_id f) does.0) (Took does.1 does.2 does.3) more (ap (λ (h : FlowState). h.channel) does.11) refl does.9 does.12
  stepped places g ClosesAtEnd more does = closing g more does.1 does.2
  stepped places g ClosesAtMost more does = closing g more does.3 does.4
  stepped places g SendsPiece more does =
      quietly g does.1 (OfSend (flow_id f)) (Sent does.0) more (ap (λ (h : FlowState). h.channel) does.4) refl does.3 does.5
  stepped places g GoesOn more does = unseen g more (ap (λ (h : FlowState). h.channel) does.3) does.4
  stepped places g WritesPiece more does =
      seen g does.1 (OfWrite (flow_id f)) (Wrote does.0) more (ap (λ (h : FlowState). h.channel) does.4) refl does.3
  stepped places g GivesBack more does = unseen g more (ap (λ (h : FlowState). h.channel) does.2) does.3
  stepped places g Installs more does =
      quietly g does.3 (OfInstall (flow_id f) does.0) (Installed does.1 does.2) more (ap (λ (h : FlowState). h.channel) does.5) refl does.4 does.6

went : (ring places : ℕ) (old new : FlowWorld) (at : ℕ) (move : Move) → FlowStepAt ring places old at move new
    → Goes ring (without_buffers old) (without_buffers new)
went ring places old new at move step =
    subst (λ w. Goes ring (without_buffers old) (without_buffers w)) (sym step.6) (stepped ring old at step.0 step.3 places step.1 move step.2 step.5)

went_on : (ring places : ℕ) (old new : FlowWorld) (moves : List Move) → FlowRun ring places old moves new
    → Goes ring (without_buffers old) (without_buffers new)
went_on ring places old new [] run =
    subst (λ w. Goes ring (without_buffers old) (without_buffers w)) (sym run) ([], nowhere ring (without_buffers old))
went_on ring places old new (move ∷ moves) run =
    let first = went ring places old run.1 run.0 move run.2 in
    let rest = went_on ring places run.1 new moves run.3 in (
      first.0 ++ rest.0,
      one_after_another ring (without_buffers old) (without_buffers run.1) (without_buffers new) first.0 rest.0 first.1 rest.1,
    )

-- the opening worlds are the same
opening_channels : (ring spare : ℕ) (specs : List FlowSpec)
    → map (λ (f : FlowState). f.channel) (map (opening_flow ring spare) specs) ≡ map opening_channel (specs_of_flows specs)
opening_channels ring spare [] = refl
opening_channels ring spare (s ∷ specs) = ap (λ cs. opening_channel s.spec ∷ cs) (opening_channels ring spare specs)

pub forgotten : (ring spare : ℕ) (specs : List FlowSpec) (moves : List Move) (new : FlowWorld) → LeadTo ring spare specs moves new
    → IsUnrefusedRun ring (specs_of_flows specs) (without_buffers new)
forgotten ring spare specs moves new lead =
    let run = subst (λ cs. Goes ring (world cs []) (without_buffers new)) (opening_channels ring spare specs)
    (went_on ring (return_places ring spare) (opening_flows ring spare specs) new moves lead) in
    (run.0, run.1.0, run.1.1)
