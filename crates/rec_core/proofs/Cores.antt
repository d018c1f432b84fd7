-- A step of a core, over the channels and the writer that its fields are.
use Rattle.std.proofs.Common.{ℕ, ◌≡◌, ◌≢◌, ◌<◌, true, List, length, Some, Result, Err, get_or, sym, ◌∙◌, ap, subst, All}
use Rattle.std.specs.Prelude.{slice_get, slice_set}
use Rattle.std.proofs.lemmas.List.{map-set}
use Rattle.std.proofs.lemmas.Option.{same_Some, slice_get-get_or}
use Rattle.rec_lane.specs.Parts.{BeginsList}
use Rattle.rec_lane.specs.declared.spec.LaneSpec.{LaneSpec}
use Rattle.rec_writer.specs.Numbers.{numbered_channels}
use Rattle.rec_writer.specs.Writers.{WriterState, Knows}
use Rattle.rec_core.specs.declared.channel.Channel.{Channel}
use Rattle.rec_core.specs.declared.reply.Reply.{Reply}
use Rattle.rec_core.specs.declared.fault.CoreFault.{CoreFault}
use Rattle.rec_core.specs.declared.fault.CoreFault.TheVariants.{NoChannel}
use Rattle.rec_core.specs.World.{EventData, event_channel}
use Rattle.rec_core.specs.Worlds.{ChannelParts, AreHeldParts, StepsCut, channels_of_parts, IsCore}
use Rattle.rec_core.specs.Steps.{Serves}
use Rattle.rec_core.specs.Views.{channel_parts, all_parts, core_of}
use Rattle.rec_core.proofs.ListPlaces.{set_unseen, there_map}
use Rattle.rec_core.proofs.WorldSteps.{served, of_none, step_alone, core_after, known_at, held_at}

-- the channel was found in these channels
pub record Found (channels : List Channel) (at : ℕ) (channel : Channel) (event : EventData) : Type 0 where
  pub there : slice_get (all_parts channels) at ≡ Some (channel_parts channel)
  pub named : channel.spec.channel ≡ event_channel event

pub found_at : (channels slice : List Channel) (at id : ℕ) (channel : Channel) (event : EventData)
    → slice ≡ channels → at < length slice → slice_get (channels_of_parts (all_parts slice)) at ≡ Some id → id ≡ event_channel event
    → channel ≡ get_or channels at channel
    → Found channels at channel event
found_at channels slice at id channel event same within found of is =
    let here : slice_get channels at ≡ Some channel = slice_get-get_or channels at channel (subst (λ xs. at < length xs) same within)
    ∙ ap (λ x. Some x) (sym is) in
    let parts : slice_get (all_parts channels) at ≡ Some (channel_parts channel) = there_map channel_parts channels at channel here in
    let ids : slice_get (channels_of_parts (all_parts channels)) at ≡ Some channel.spec.channel =
    there_map (λ (p : ChannelParts). p.settings.channel) (all_parts channels) at (channel_parts channel) parts in
    record {
      there = parts;
      named = same_Some channel.spec.channel id (sym ids ∙ (ap (λ xs. slice_get (channels_of_parts (all_parts xs)) at) (sym same) ∙ found)) ∙ of;
    }

pub found_held : (channels : List Channel) (writer : WriterState) (at : ℕ) (channel : Channel) (event : EventData) → IsCore (core_of channels writer)
    → Found channels at channel event → AreHeldParts (channel_parts channel)
found_held channels writer at channel event is found = held_at (core_of channels writer) at (channel_parts channel) is found.there

pub found_known : (channels : List Channel) (writer : WriterState) (at : ℕ) (channel : Channel) (event : EventData) → IsCore (core_of channels writer)
    → Found channels at channel event → Knows writer channel.spec.channel
found_known channels writer at channel event is found = known_at (core_of channels writer) at (channel_parts channel) is found.there

pub core_steps : (channels : List Channel) (old new : WriterState) (at : ℕ) (channel after : Channel) (event : EventData) (answer : Result Reply CoreFault)
    → Found channels at channel event
    → after.spec ≡ channel.spec → (new.failed ≡ true → BeginsList channel.ring.pieces after.ring.pieces) → new.version ≡ old.version
    → ((size : ℕ) → Serves size (channel_parts channel) (channel_parts after) old new event answer)
    → StepsCut (core_of channels old) (core_of (slice_set channels at after) new) event answer
core_steps channels old new at channel after event answer found spec grows version serves =
    subst (λ ps. StepsCut (core_of channels old) (record { channels = ps; writer = new }) event answer) (sym (map-set channel_parts channels at after))
    (served (all_parts channels) old new at (channel_parts channel) (channel_parts after) event answer found.there found.named
    (ap (λ (l : LaneSpec). l.channel) spec) grows version serves)

pub core_stays : (channels : List Channel) (old new : WriterState) (at : ℕ) (channel after : Channel) (event : EventData) (answer : Result Reply CoreFault)
    → Found channels at channel event → after.spec ≡ channel.spec → numbered_channels new.numbers ≡ numbered_channels old.numbers
    → StepsCut (core_of channels old) (core_of (slice_set channels at after) new) event answer
    → IsCore (core_of channels old) → IsCore (core_of (slice_set channels at after) new)
core_stays channels old new at channel after event answer found spec numbers steps is =
    let ids : channels_of_parts (all_parts (slice_set channels at after)) ≡ channels_of_parts (all_parts channels) =
    ap channels_of_parts (map-set channel_parts channels at after)
    ∙ set_unseen (λ (p : ChannelParts). p.settings.channel) (all_parts channels) at (channel_parts channel) (channel_parts after) found.there
    (ap (λ (l : LaneSpec). l.channel) spec) in
    core_after (core_of channels old) (core_of (slice_set channels at after) new) event answer numbers ids
    (step_alone (core_of channels old) (core_of (slice_set channels at after) new) event answer steps) is

pub core_of_none : (channels slice : List Channel) (writer : WriterState) (id : ℕ) (event : EventData)
    → slice ≡ channels → id ≡ event_channel event → All (λ (other : ℕ). other ≢ id) (channels_of_parts (all_parts slice))
    → StepsCut (core_of channels writer) (core_of channels writer) event (Err NoChannel)
core_of_none channels slice writer id event same of none =
    of_none (all_parts channels) writer event
    (subst (λ n. All (λ (other : ℕ). other ≢ n) (channels_of_parts (all_parts channels))) of
    (subst (λ xs. All (λ (other : ℕ). other ≢ id) (channels_of_parts (all_parts xs))) same none))
