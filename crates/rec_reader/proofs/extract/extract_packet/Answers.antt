use Rattle.rec_reader.proofs.Extracting.{counts_elsewhere}
use Rattle.rec_reader.proofs.extract.extract_packet.Goals as goal

pub returns-else-packet-channel-clause-counts : goal.returns-else-packet-channel-clause-counts
returns-else-packet-channel-clause-counts g c = counts_elsewhere _ c.args.packet.now.header.channel c.args.channel _ c.if-packet-channel.false
