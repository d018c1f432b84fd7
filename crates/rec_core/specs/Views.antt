-- The code's values as data.
use Rattle.std.specs.Prelude.{List, map}
use Rattle.std.specs.Arc.{arc_value}
use Rattle.rec_lane.specs.Settings.{spec_data as lane_data}
use Rattle.rec_lane.specs.Views.{pieces_data}
use Rattle.rec_core.specs.declared.spec.ChannelSpec.{ChannelSpec}
use Rattle.rec_core.specs.declared.event.Event.{Event}
use Rattle.rec_core.specs.declared.event.Event.TheVariants.{Take, Time, Install, Send, Write, Close}
use Rattle.rec_core.specs.declared.channel.Channel.{Channel}
use Rattle.rec_core.specs.Openings.{SpecData}
use Rattle.rec_core.specs.World.{EventData}
use Rattle.rec_core.specs.World.EventData.{OfTake, OfTime, OfInstall, OfSend, OfWrite, OfClose}
use Rattle.rec_writer.specs.Writers.{WriterState}
use Rattle.rec_core.specs.Worlds.{ChannelParts, CoreState}

-- what a channel is set to
abbrev pub channel_spec_data : ChannelSpec → SpecData
channel_spec_data spec =
    record { settings = lane_data spec.lane; program = arc_value spec.program; max = spec.max }

abbrev pub specs_data : List ChannelSpec → List SpecData
specs_data specs = map channel_spec_data specs

-- an event
abbrev pub event_data : Event → EventData
event_data (Take channel frame) = OfTake channel frame
event_data (Time channel counter) = OfTime channel counter
event_data (Install channel program) = OfInstall channel (arc_value program)
event_data (Send channel) = OfSend channel
event_data (Write channel) = OfWrite channel
event_data (Close channel) = OfClose channel

abbrev pub events_data : List Event → List EventData
events_data events = map event_data events

-- a channel of the core
abbrev pub channel_parts : Channel → ChannelParts
channel_parts c = record {
  settings = lane_data c.spec;
  max = c.max;
  slot = c.slot;
  lane = c.lane;
  places = c.ring.places;
  ring = c.ring.pieces;
  pending = pieces_data c.pending.items;
}

abbrev pub all_parts : List Channel → List ChannelParts
all_parts channels = map channel_parts channels

-- a core of these channels and this writer
abbrev pub core_of : List Channel → WriterState → CoreState
core_of channels writer = record { channels = all_parts channels; writer = writer }
