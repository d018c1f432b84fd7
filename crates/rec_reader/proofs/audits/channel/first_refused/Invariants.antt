use Rattle.std.proofs.Common.{◌≡◌, ◌≤◌, ◌++◌, List, length, All}
use Rattle.ch11_packet.specs.FramesRead.{ReadFrameData}
use Rattle.rec_reader.specs.Audits.{Accepts}
use Rattle.rec_reader.proofs.audits.channel.first_refused.Given as goal

-- the frames so far are accepted, and this is their number
abbrev pub invariant-frames : goal.invariant-frames
invariant-frames l =
    (before : List ReadFrameData) × (l.frames ≡ before ++ l.frame-iterator) × (l.number ≡ length before) × All (Accepts l.program) before
    × (length l.frames ≤ 65535)
