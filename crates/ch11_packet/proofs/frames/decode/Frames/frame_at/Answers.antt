use Rattle.std.proofs.Common.{List, ◌∙◌, arith}
use Rattle.std.proofs.lemmas.Iterator.Consumers.{nth_from_yields_List, YieldsList-from_first}
use Rattle.ch11_packet.specs.FramesRead.{ReadFrameData}
use Rattle.ch11_packet.specs.Views.{read_frame_data}
use Rattle.ch11_packet.proofs.frames.decode.Frames.frame_at.Goals as goal

pub returns : goal.returns
returns c = record {
  at = nth_from_yields_List c.nth.result _ c.from.result c.nth.ensures.ran
      (YieldsList-from_first read_frame_data (λ (walk : List ReadFrameData). walk) c.args.self.now c.walk.ensures.all)
      ∙ grind (arith, c.from.ensures);
}
