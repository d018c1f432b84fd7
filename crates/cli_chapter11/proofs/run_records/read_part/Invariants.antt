use Rattle.std.proofs.Common.{ℕ, ◌≡◌, List, []}
use Rattle.rec_reader.specs.Packets.{PacketData, packets_len}
use Rattle.rec_reader.specs.Readers.{HasRead}
use Rattle.rec_runs.specs.RunsRead.{RunStandsFor}
use Rattle.cli_chapter11.specs.RunParts.{IsJudgedSoFar}
use Rattle.cli_chapter11.proofs.run_records.read_part.Given as goal

-- the packets so far are read, judged and taken
abbrev pub invariant-packets : goal.invariant-packets
invariant-packets g l =
    (recording : List ℕ) → HasRead recording [] l.fn.reader → (own : List PacketData) × HasRead recording own l.reader
    × IsJudgedSoFar own l.auditor l.failed × (l.end ≡ packets_len own)
    × ((earlier : List (List PacketData)) → RunStandsFor l.fn.records earlier [] → RunStandsFor l.records earlier own)
