use Rattle.rec_pieces.proofs.ChannelsListed.{listed_are_named}
use Rattle.rec_pieces.proofs.laws.listed_channels_are_those_of_packets.Goals as goal

pub returns : goal.returns
returns c = listed_are_named
