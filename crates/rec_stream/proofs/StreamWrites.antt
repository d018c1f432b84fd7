-- A recording that is written as a stream, packet after packet.
use Rattle.std.proofs.Common.{ℕ, List, Option, inl}
use Rattle.std.specs.Prelude.{Ok, Err, Result, MatchResult}
use Rattle.ch11_clock.specs.declared.origin.Origin.{Origin as ClockOrigin}
use Rattle.ch11_file.specs.declared.setup.FileSetup.{FileSetup}
use Rattle.rec_reader.specs.Packets.{PacketData}
use Rattle.rec_reader.specs.Readers.{HasRead, ReaderState}
use Rattle.rec_whole.specs.declared.names.FileNames.{FileNames}
use Rattle.rec_stream.specs.declared.counts.StreamCounts.{StreamCounts}
use Rattle.rec_stream.specs.declared.end.StreamEnd.{StreamEnd}
use Rattle.rec_stream.specs.declared.end.StreamEnd.TheVariants.{Memory}
use Rattle.rec_stream.specs.declared.stage.Stage.{Stage}
use Rattle.rec_stream.specs.StreamBlocks.{StreamFacts}
use Rattle.rec_stream.specs.StreamChannels.{IsStreamSetup}
use Rattle.rec_stream.specs.StreamEnds.{PacketsFail, StreamFails, WritesPackets, WritesStream, stream_facts}
use Rattle.rec_stream.specs.SentStates.{StreamSent}
use Rattle.rec_stream.specs.Sending.{StreamStands}
use Rattle.rec_stream.proofs.Standing.{setup_fails, some_hold}

-- the packets so far were read, and their stream went out
pub record HasStreamed (facts : StreamFacts) (recording : List ℕ) (before held : Option (List ℕ)) (sent : StreamSent) (stage : Stage)
    (reader : ReaderState) : Type 0 where
  pub packets : List PacketData
  pub given : HasRead recording packets reader
  pub stands : StreamStands facts before held sent stage packets

pub streamed_some : (facts : StreamFacts) (recording : List ℕ) (before held : Option (List ℕ)) (sent : StreamSent) (stage : Stage)
    (reader : ReaderState) → HasStreamed facts recording before held sent stage reader → PacketsFail facts recording before held Memory
streamed_some facts recording before held sent stage reader has =
    inl (some_hold facts recording before held sent stage has.packets reader has.given has.stands)

pub by_setup : (names : FileNames) (rules : List ClockOrigin) (recording : List ℕ) (before held : Option (List ℕ)) (setup : FileSetup)
    (result : Result StreamCounts StreamEnd) → IsStreamSetup names setup
    → MatchResult result (WritesPackets (stream_facts setup rules) recording before held) (PacketsFail (stream_facts setup rules) recording before held)
    → MatchResult result (WritesStream names rules recording before held) (StreamFails names rules recording before held)
by_setup names rules recording before held setup (Ok counts) is wrote = (setup, is, wrote)
by_setup names rules recording before held setup (Err end) is failed = setup_fails names rules recording before held setup end is failed
