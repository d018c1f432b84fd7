-- The whole file of a recording whose bytes are known.
use Rattle.std.proofs.Common.{ℕ, ◌≡◌, List, [], Option, None, Some, sym, subst}
use Rattle.ch11_clock.specs.declared.origin.Origin.{Origin}
use Rattle.ch11_file.specs.declared.setup.FileSetup.{FileSetup}
use Rattle.ch11_file.specs.declared.counts.FileCounts.{FileCounts}
use Rattle.ch11_file.specs.FileBlocks.{FileBlock, file_bytes}
use Rattle.ch11_file.specs.WholeFile.{IsWholeFile}
use Rattle.rec_reader.specs.declared.fault.ReadFaultKind.{ReadFaultKind}
use Rattle.rec_reader.specs.Packets.{PacketData}
use Rattle.rec_reader.specs.Reading.{Reads}
use Rattle.rec_pieces.specs.Listings.{other_of}
use Rattle.rec_whole.specs.declared.names.FileNames.{FileNames}
use Rattle.rec_whole.specs.FilesFound.{HasNoFault, HaveSameChannels}
use Rattle.rec_whole.specs.WholeRecordings.{WritesRecording, facts_with}
use Rattle.test_whole.specs.WholeFileOf.{IsWholeFileOf}

-- ---- what the laws say

abbrev pub FilesAreRead : Type 0
FilesAreRead = (recording : List ℕ) (packets : List PacketData) (rules : List Origin) (most : ℕ) (setup : FileSetup) (blocks : List FileBlock)
    → Reads recording packets None → IsWholeFile (facts_with packets rules most setup) blocks
    → (found : List PacketData) × Reads (file_bytes blocks) found None

abbrev pub FilesHaveChannels : Type 0
FilesHaveChannels = (recording : List ℕ) (packets : List PacketData) (rules : List Origin) (most : ℕ) (setup : FileSetup) (blocks : List FileBlock)
    → Reads recording packets None → IsWholeFile (facts_with packets rules most setup) blocks
    → (found : List PacketData) (fault : Option ReadFaultKind) → Reads (file_bytes blocks) found fault → (fault ≡ None) × HaveSameChannels packets found

abbrev pub FilesHaveNoFault : Type 0
FilesHaveNoFault = (recording : List ℕ) (packets : List PacketData) (rules : List Origin) (most : ℕ) (setup : FileSetup) (blocks : List FileBlock)
    → Reads recording packets None → IsWholeFile (facts_with packets rules most setup) blocks → other_of packets ≡ None
    → (found : List PacketData) → Reads (file_bytes blocks) found None → HasNoFault packets → HasNoFault found

-- ---- the file

file_of : FilesAreRead → FilesHaveChannels → FilesHaveNoFault → (recording file : List ℕ) (packets : List PacketData) (names : FileNames)
    (rules : List Origin) (most : ℕ) (counts : FileCounts) → Reads recording packets None
    → WritesRecording packets names rules most (Some []) (Some file) counts → IsWholeFileOf recording names rules most file
file_of are_read same no_fault recording file packets names rules most counts reads written =
    let stands = written.stands in
    let read = are_read recording packets rules most written.setup stands.blocks reads stands.whole in
    record {
      packets = packets;
      reads = reads;
      counts = counts;
      written = written;
      found = read.0;
      read = subst (λ bs. Reads bs read.0 None) (sym stands.grows) read.1;
      same = (same recording packets rules most written.setup stands.blocks reads stands.whole read.0 None read.1).1;
      no_fault = no_fault recording packets rules most written.setup stands.blocks reads stands.whole written.all_name read.0 read.1;
    }

-- so of an output that was empty
pub file_written : FilesAreRead → FilesHaveChannels → FilesHaveNoFault → (recording before file : List ℕ) (packets : List PacketData) (names : FileNames)
    (rules : List Origin) (most : ℕ) (counts : FileCounts) → before ≡ [] → Reads recording packets None
    → WritesRecording packets names rules most (Some before) (Some file) counts → IsWholeFileOf recording names rules most file
file_written are_read same no_fault recording before file packets names rules most counts none reads written =
    file_of are_read same no_fault recording file packets names rules most counts reads
    (subst (λ l. WritesRecording packets names rules most (Some l) (Some file) counts) none written)
