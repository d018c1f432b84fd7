-- The body of a piece so far.
use Rattle.std.specs.Prelude.{◌≤◌, []}
use Rattle.ch11_packet.specs.declared.header.TheConstants.{MAX_ETHERNET_PACKET_LEN}
use Rattle.ch11_packet.specs.Frames.{data_len}
use Rattle.ch11_merge.specs.declared.piece.PieceSoFar.{PieceSoFar}

-- it has its first word, and isn't longer than a packet may be
abbrev pub IsBodySoFar : PieceSoFar → Type 0
IsBodySoFar piece = (data_len [] ≤ piece.len) × (piece.len ≤ MAX_ETHERNET_PACKET_LEN)
