use Rattle.std.proofs.Common.{[], ◌∷◌, ap, ◌∙◌}
use Rattle.std.proofs.lemmas.List.Concat.{flat_map-append}
use Rattle.rec_reader.specs.ChannelFrames.{channel_frames, feed_part, feed_of}
use Rattle.rec_reader.proofs.Extracting.{counts_packet}
use Rattle.rec_reader.proofs.laws.a_feed_is_made_packet_by_packet.Goals as goal

pub returns-clause-feed : goal.returns-clause-feed
returns-clause-feed c = λ channel packets packet.
    ap feed_of (flat_map-append _ packets (packet ∷ []))
    ∙ flat_map-append feed_part (channel_frames channel packets) (channel_frames channel (packet ∷ []))

pub returns-clause-counts : goal.returns-clause-counts
returns-clause-counts c = λ channel old held new packets packet some more. counts_packet old held new channel packets packet some more
