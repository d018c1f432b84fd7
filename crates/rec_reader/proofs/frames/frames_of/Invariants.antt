use Rattle.std.proofs.Common.{◌≡◌, take, map}
use Rattle.ch11_packet.specs.Views.{read_frame_data}
use Rattle.rec_reader.specs.ChannelFrames.{channel_frames}
use Rattle.rec_reader.specs.Views.{packets_data}
use Rattle.rec_reader.proofs.frames.frames_of.Given as goal

abbrev pub invariant-packets : goal.invariant-packets
invariant-packets l =
    map read_frame_data l.frames.items ≡ channel_frames l.channel (packets_data (take l.packet-index l.packet-items))
