use Rattle.std.proofs.Common.{◌≡◌, ◌++◌, map}
use Rattle.ch11_packet.specs.Views.{read_frame_data}
use Rattle.rec_reader.proofs.frames.push_frames.Given as goal

abbrev pub invariant-frames : goal.invariant-frames
invariant-frames l =
    map read_frame_data l.frames.items ++ l.frame-iterator ≡ map read_frame_data l.initial.frames.items ++ l.initial.frame-iterator
