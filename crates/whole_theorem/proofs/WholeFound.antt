-- What is found in a recording is found in its whole file.
use Rattle.std.proofs.Common.{ℕ, ◌≡◌, List, [], ◌∷◌, ◌++◌, length, drop, Option, None, Some, refl, sym, ap, subst, ◌∙◌}
use Rattle.std.specs.List.{AllZip}
use Rattle.std.specs.Io.KnownBytes.{Appends}
use Rattle.std.proofs.lemmas.List.{drop_at}
use Rattle.eth_frame.specs.Source.{Left}
use Rattle.ch11_clock.specs.declared.origin.Origin.{Origin}
use Rattle.ch11_file.specs.declared.setup.FileSetup.{FileSetup}
use Rattle.ch11_file.specs.declared.counts.FileCounts.{FileCounts}
use Rattle.ch11_file.specs.FileBlocks.{FileBlock, file_bytes}
use Rattle.ch11_file.specs.WholeFile.{IsWholeFile}
use Rattle.rec_reader.specs.declared.fault.ReadFaultKind.{ReadFaultKind}
use Rattle.rec_reader.specs.Packets.{PacketData}
use Rattle.rec_reader.specs.Reading.{Reads}
use Rattle.rec_reader.specs.ChannelFrames.{channel_frames}
use Rattle.rec_pieces.specs.Listings.{other_of}
use Rattle.rec_run.specs.Control.{Given}
use Rattle.rec_run.specs.declared.job.Job.{Job}
use Rattle.rec_run.specs.declared.report.ChannelReport.{ChannelReport}
use Rattle.rec_theorem.specs.Theorem.{FindsJob, FindsNoOthers, Finds}
use Rattle.rec_whole.specs.declared.names.FileNames.{FileNames}
use Rattle.rec_whole.specs.FilesFound.{HasNoFault}
use Rattle.rec_whole.specs.WholeRecordings.{facts_with}
use Rattle.whole_theorem.specs.WholeTheorem.{HasWritten}

-- ---- what the laws say

abbrev pub OneReading : Type 0
OneReading = (bytes : List ℕ) (packets others : List PacketData) (fault other : Option ReadFaultKind) → Reads bytes packets fault → Reads bytes others other
    → (packets ≡ others) × (fault ≡ other)

abbrev pub FilesAreRead : Type 0
FilesAreRead = (recording : List ℕ) (packets : List PacketData) (rules : List Origin) (most : ℕ) (setup : FileSetup) (blocks : List FileBlock)
    → Reads recording packets None → IsWholeFile (facts_with packets rules most setup) blocks
    → (found : List PacketData) × Reads (file_bytes blocks) found None

abbrev pub FilesHaveNoFault : Type 0
FilesHaveNoFault = (recording : List ℕ) (packets : List PacketData) (rules : List Origin) (most : ℕ) (setup : FileSetup) (blocks : List FileBlock)
    → Reads recording packets None → IsWholeFile (facts_with packets rules most setup) blocks → other_of packets ≡ None
    → (found : List PacketData) → Reads (file_bytes blocks) found None → HasNoFault packets → HasNoFault found

abbrev pub FilesHaveAllFrames : Type 0
FilesHaveAllFrames = (recording : List ℕ) (packets : List PacketData) (rules : List Origin) (most : ℕ) (setup : FileSetup) (blocks : List FileBlock)
    → Reads recording packets None → IsWholeFile (facts_with packets rules most setup) blocks → other_of packets ≡ None
    → (found : List PacketData) → Reads (file_bytes blocks) found None → (channel : ℕ) → channel_frames channel found ≡ channel_frames channel packets

-- ---- the bytes

same_behind : (front xs ys : List ℕ) → front ++ xs ≡ front ++ ys → xs ≡ ys
same_behind front xs ys same = sym (drop_at front xs (length front) refl) ∙ ap (drop (length front)) same ∙ drop_at front ys (length front) refl

grown : (before held : Option (List ℕ)) (ahead file bytes : List ℕ) → before ≡ Some ahead → held ≡ Some (ahead ++ file) → Appends before held bytes
    → file ≡ bytes
grown before held ahead file bytes first last grows =
    same_behind ahead file bytes (subst (λ h. Appends (Some ahead) h bytes) last (subst (λ b. Appends b held bytes) first grows))

-- ---- what is found

module _ {S : Type 0} (left : S → Option Left) where
  job_found : (packets found : List PacketData) (changes : List Given) (job : Job S) (report : ChannelReport S)
      → ((channel : ℕ) → channel_frames channel found ≡ channel_frames channel packets)
      → FindsJob left packets changes job report → FindsJob left found changes job report
  job_found packets found changes job report same finds = record {
    frames = finds.frames;
    all = finds.all;
    found = same job.spec.channel ∙ finds.found;
    programs = finds.programs;
  }

  jobs_found : (packets found : List PacketData) (changes : List Given) (jobs : List (Job S)) (reports : List (ChannelReport S))
      → ((channel : ℕ) → channel_frames channel found ≡ channel_frames channel packets)
      → AllZip (FindsJob left packets changes) jobs reports → AllZip (FindsJob left found changes) jobs reports
  jobs_found packets found changes [] [] same each = tt
  jobs_found packets found changes [] (r ∷ rs) same each = absurd each
  jobs_found packets found changes (j ∷ js) [] same each = absurd each
  jobs_found packets found changes (j ∷ js) (r ∷ rs) same each =
      (job_found packets found changes j r same each.0, jobs_found packets found changes js rs same each.1)

  none_found : (packets found : List PacketData) (jobs : List (Job S)) → ((channel : ℕ) → channel_frames channel found ≡ channel_frames channel packets)
      → FindsNoOthers jobs packets → FindsNoOthers jobs found
  none_found packets found jobs same none = λ channel other. same channel ∙ none channel other

  pub whole_found : {V : Type 0} (contents : V → Option (List ℕ)) → OneReading → FilesAreRead → FilesHaveNoFault → FilesHaveAllFrames
      → (jobs : List (Job S)) (reports : List (ChannelReport S)) (changes : List Given) (bytes : List ℕ) → Finds left jobs reports changes bytes
      → (names : FileNames) (rules : List Origin) (most : ℕ) (first last : V) (counts : FileCounts) (ahead file : List ℕ)
      → HasWritten contents bytes names rules most first last counts ahead file → Finds left jobs reports changes file
  whole_found contents one are_read no_fault all jobs reports changes bytes finds names rules most first last counts ahead file written =
      let w = written.written in
      let stands = w.stands in
      let packets = written.packets in
      let of = (finds.reading.only packets None written.reads).0 in
      let read = are_read bytes packets rules most w.setup stands.blocks written.reads stands.whole in
      let is : file ≡ file_bytes stands.blocks = grown (contents first) (contents last) ahead file (file_bytes stands.blocks)
      written.held_before written.held_after stands.grows in
      let reads : Reads file read.0 None = subst (λ bs. Reads bs read.0 None) (sym is) read.1 in
      let same : (channel : ℕ) → channel_frames channel read.0 ≡ channel_frames channel finds.packets = λ channel.
      all bytes packets rules most w.setup stands.blocks written.reads stands.whole w.all_name read.0 read.1 channel
      ∙ ap (channel_frames channel) (sym of) in
      record {
        packets = read.0;
        reading = record { reads = reads; only = λ others other its. one file read.0 others None other reads its };
        each = jobs_found finds.packets read.0 changes jobs reports same finds.each;
        no_others = none_found finds.packets read.0 jobs same finds.no_others;
        approved = no_fault bytes packets rules most w.setup stands.blocks written.reads stands.whole w.all_name read.0 read.1
            (subst HasNoFault of finds.approved);
      }
