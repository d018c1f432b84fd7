use Rattle.std.proofs.Common.{[], refl, sym, true≢false}
use Rattle.std.proofs.KnownBytes.{Appends-nil}
use Rattle.ch11_packet.specs.Classes.{data_in}
use Rattle.ch11_packet.specs.Views.{header_data}
use Rattle.rec_reader.proofs.Extracting.{counts_begun, counts_next, counts_nothing}
use Rattle.rec_reader.proofs.Feeds.{takes_next}
use Rattle.rec_reader.proofs.extract.extract_frames.Goals as goal

pub frames-preserved : goal.frames-preserved
frames-preserved g c = (
  takes_next _ _ _ _ _ _ _ c.frames.invariant.0 c.in-Some-read.ensures.steps c.in_ok-extract_frame.ensures.feed,
  counts_next _ _ _ _ _ _ _ c.frames.invariant.1 c.in-Some-read.ensures.steps c.in_ok-extract_frame.ensures.counts,
)

pub frames-init : goal.frames-init
frames-init g c = (record { bytes = []; taken = Appends-nil _; whole = refl }, counts_begun _ _)

pub returns-in_default-clause-counts : goal.returns-in_default-clause-counts
returns-in_default-clause-counts g c =
    counts_nothing _ c.args.packet.now.what (data_in (header_data c.args.packet.now.header) c.args.packet.now.body.now)
    (λ count is. true≢false (sym (c.in_default.ensures.some.1 (count, is))))
