use Rattle.std.proofs.Common.{ap, ◌∙◌, sym, subst}
use Rattle.pcapng_blocks.specs.Views.{options_data}
use Rattle.ch11_packet.specs.Views.{read_frame_data}
use Rattle.rec_export.specs.Frames.{text_of}
use Rattle.rec_export.proofs.FrameOptions.{AreFew, frame_options_fit}
use Rattle.rec_export.proofs.frame.write_frame.Goals as goal

pub write_captured-requires-clause-options : goal.write_captured-requires-clause-options
write_captured-requires-clause-options g c =
    (subst AreFew (sym (ap options_data c.as_slice.ensures.value ∙ c.frame_options-options.ensures))
    (frame_options_fit (text_of c.args.comment) (read_frame_data c.args.frame.now) c.requires c.args.frame.now.in_range)).are

pub write_captured-requires-clause-fits : goal.write_captured-requires-clause-fits
write_captured-requires-clause-fits g c =
    (subst AreFew (sym (ap options_data c.as_slice.ensures.value ∙ c.frame_options-options.ensures))
    (frame_options_fit (text_of c.args.comment) (read_frame_data c.args.frame.now) c.requires c.args.frame.now.in_range)).few
