-- From what a run says of its jobs to what is found of them.
-- idea: what a run says of each job is what the law of readings asks of a channel; its frames are then found, and the
-- endings and the changes of the control say which they are.
use Rattle.std.proofs.Common.{◌≢◌, ℕ, suc, ◌^◌, ◌≡◌, ◌<◌, inl, inr, Bool, List, [], ◌∷◌, ◌++◌, length, take, drop}
use Rattle.std.proofs.Common.{Option, None, Some, All, Contains, refl, sym, ap, subst, ◌∙◌, arith}
use Rattle.std.specs.Prelude.{IfSome}
use Rattle.std.specs.Arc.{arc_value}
use Rattle.std.specs.List.{Any, AllZip}
use Rattle.std.specs.Io.KnownBytes.{Appends}
use Rattle.std.proofs.lemmas.List.{append-nil, take_at, drop_at}
use Rattle.std.proofs.lemmas.List.Elements.{All-nil, All-cons, All-head, All-tail, All-weaker}
use Rattle.eth_frame.specs.Frame.{FrameData}
use Rattle.eth_frame.specs.Source.{Left}
use Rattle.eth_frame.specs.declared.source.SourceEnding.{SourceEnding}
use Rattle.rec_channel.specs.History.{Version, IsHistory}
use Rattle.rec_lane.specs.Offered.{AreAccepted}
use Rattle.rec_lane.specs.Parts.{BeginsList}
use Rattle.rec_lane.specs.Pieces.{LaneSettings, PieceData, channel_of}
use Rattle.rec_writer.specs.Encoding.{writer_output}
use Rattle.rec_writer.specs.Recording.{RecordedChannel, IsRecording}
use Rattle.rec_writer.specs.declared.fault.WriteFault.{WriteFault}
use Rattle.rec_reader.specs.Packets.{PacketData}
use Rattle.rec_reader.specs.ChannelFrames.{channel_frames}
use Rattle.rec_reader.proofs.ListSplits.{first_of, later_of, first_or_later, none_in}
use Rattle.rec_run.specs.Control.{IsChanged}
use Rattle.rec_run.specs.Control.{Given, Answered}
use Rattle.rec_run.specs.Endings.{AreFirst, AreTaken, AreAll, EndsAs}
use Rattle.rec_run.specs.Jobs.{channels_of_jobs}
use Rattle.rec_run.specs.Recorded.{IsCutShort}
use Rattle.rec_run.specs.Reports.{history_of, IsReport, AreReports}
use Rattle.rec_run.specs.declared.ending.Ending.{Ending}
use Rattle.rec_run.specs.declared.ending.Ending.TheVariants.{SourceEnd, SourceFault, Memory, CountFull, Stopped}
use Rattle.rec_run.specs.declared.job.Job.{Job}
use Rattle.rec_run.specs.declared.report.ChannelReport.{ChannelReport}
use Rattle.rec_run.specs.declared.report.Done.{Done}
use Rattle.rec_run.specs.declared.report.Report.{Report}
use Rattle.rec_theorem.specs.Recordable.{IsRecordable, AreRecordable}
use Rattle.rec_theorem.specs.Found.{read_frames, HasNoOthers, IsApproved, HasAccepted, BeginsAccepted, ReadsBack, ReadsBackCut}
use Rattle.rec_theorem.specs.Cut.{IsCutRecording}
use Rattle.rec_theorem.specs.Theorem.{HasRecorded, HasBeenCut, HasTaken, FindsJob, FindsNoOthers, Finds, IsAnswered, BeginsJob, FindsCut}

-- ---- the frames that were taken

-- a beginning of a list is as many of its elements as it has
begins_taken : {X : Type 0} (taken told : List X) (n : ℕ) → n ≡ length taken → BeginsList taken told → taken ≡ take n told
begins_taken taken told n count begins = sym (ap (λ l. take n l) (sym begins.1) ∙ take_at taken begins.0 n (sym count))

-- frames that the source said first are as many of its first ones
first_taken : (before : Option Left) (taken : List FrameData) (n : ℕ) → n ≡ length taken → AreFirst before taken
    → IfSome before (λ told. taken ≡ take n told.frames)
first_taken None taken n count first = tt
first_taken (Some told) taken n count first = begins_taken taken told.frames n count first

-- all that a source said begin what it said
all_first : (before : Option Left) (frames : List FrameData) (ending : SourceEnding) → AreAll before frames ending → AreFirst before frames
all_first None frames ending all = tt
all_first (Some told) frames ending all = ([], append-nil frames ∙ sym all.0)

-- and are no fewer
all_taken : (before : Option Left) (frames : List FrameData) (ending : SourceEnding) → AreAll before frames ending
    → IfSome before (λ told. frames ≡ told.frames)
all_taken None frames ending all = tt
all_taken (Some told) frames ending all = sym all.0

-- and so do those before what it says now
taken_first : (before after : Option Left) (frames : List FrameData) → AreTaken before frames after → AreFirst before frames
taken_first None after frames taken = tt
taken_first (Some told) None frames taken = absurd taken
taken_first (Some told) (Some rest) frames taken = (rest.frames, sym taken.0)

module _ {S : Type 0} (left : S → Option Left) (failures : S → ℕ) (ended_as : S → Option SourceEnding) where
  -- however a channel ended, its frames are the first that the source said
  ends_first : (ending : Ending) (before after : S) (frames : List FrameData) (max : ℕ) → EndsAs left failures ended_as ending before after frames max
      → AreFirst (left before) frames
  ends_first SourceEnd before after frames max ends = all_first (left before) frames _ ends.1
  ends_first (SourceFault fault) before after frames max ends = elim ends.2 [
    | inl all ↦ all_first (left before) frames _ all
    | inr failed ↦ failed.1.first
  ]
  ends_first Memory before after frames max ends = taken_first (left before) (left after) frames ends
  ends_first CountFull before after frames max ends = taken_first (left before) (left after) frames ends.1
  ends_first Stopped before after frames max ends = ends

  -- where the source ended by itself, they are all that it said
  ended_all : (before after : S) (frames : List FrameData) (max : ℕ) → EndsAs left failures ended_as SourceEnd before after frames max
      → IfSome (left before) (λ told. frames ≡ told.frames)
  ended_all before after frames max ends = all_taken (left before) frames _ ends.1

  -- ---- channels and their jobs

  -- the channel of a job's report can be recorded
  report_recordable : (job : Job S) (r : ChannelReport S) (c : RecordedChannel) → IsReport left failures ended_as job r c → IsRecordable c
  report_recordable job r c report = record {
    settings = report.settings_fit;
    framed = report.framed;
    few_frames = report.few_frames;
    timed = report.timed;
    history = subst (λ n. IsHistory n c.history) report.offered_is report.history;
    few_versions = report.few;
  }

  -- so can those of all reports
  pub reports_recordable : (jobs : List (Job S)) (reports : List (ChannelReport S)) (channels : List RecordedChannel)
      → AreReports left failures ended_as jobs reports channels → AreRecordable channels
  reports_recordable [] [] [] are = All-nil IsRecordable
  reports_recordable [] [] (c ∷ cs) are = absurd are
  reports_recordable [] (r ∷ rs) cs are = absurd are
  reports_recordable (j ∷ js) [] cs are = absurd are
  reports_recordable (j ∷ js) (r ∷ rs) [] are = absurd are
  reports_recordable (j ∷ js) (r ∷ rs) (c ∷ cs) are =
      All-cons IsRecordable c cs (report_recordable j r c are.0) (reports_recordable js rs cs are.1)

  -- the job of a channel ID has a channel
  pub channel_there : (jobs : List (Job S)) (reports : List (ChannelReport S)) (channels : List RecordedChannel) (id : ℕ)
      → AreReports left failures ended_as jobs reports channels → Contains (channels_of_jobs jobs) id
      → Any (λ (c : RecordedChannel). c.settings.channel ≡ id) channels
  channel_there [] [] [] id are has = absurd (none_in id has)
  channel_there [] [] (c ∷ cs) id are has = absurd are
  channel_there [] (r ∷ rs) cs id are has = absurd are
  channel_there (j ∷ js) [] cs id are has = absurd are
  channel_there (j ∷ js) (r ∷ rs) [] id are has = absurd are
  channel_there (j ∷ js) (r ∷ rs) (c ∷ cs) id are has = elim (first_or_later j.spec.channel (channels_of_jobs js) id has) [
    | inl here ↦ (0, c, omega arith, refl, ap (λ (s : LaneSettings). s.channel) are.0.settings_are ∙ here)
    | inr later ↦ (
        let found = channel_there js rs cs id are.1 later in
        let within = found.2 in
        (suc found.0, found.1, omega (arith, within), found.3, found.4))
  ]

  -- a channel ID that no job has is that of no channel
  none_there : (jobs : List (Job S)) (reports : List (ChannelReport S)) (channels : List RecordedChannel) (id : ℕ)
      → AreReports left failures ended_as jobs reports channels → ¬ Contains (channels_of_jobs jobs) id
      → All (λ (c : RecordedChannel). c.settings.channel ≢ id) channels
  none_there [] [] [] id are none = All-nil (λ (c : RecordedChannel). c.settings.channel ≢ id)
  none_there [] [] (c ∷ cs) id are none = absurd are
  none_there [] (r ∷ rs) cs id are none = absurd are
  none_there (j ∷ js) [] cs id are none = absurd are
  none_there (j ∷ js) (r ∷ rs) [] id are none = absurd are
  none_there (j ∷ js) (r ∷ rs) (c ∷ cs) id are none =
      All-cons (λ (d : RecordedChannel). d.settings.channel ≢ id) c cs
      (λ same. none (subst (Contains (channels_of_jobs (j ∷ js))) (sym (ap (λ (s : LaneSettings). s.channel) are.0.settings_are) ∙ same)
      (first_of j.spec.channel (channels_of_jobs js))))
      (none_there js rs cs id are.1 (λ later. none (later_of j.spec.channel (channels_of_jobs js) id later)))

  pub finds_no_others : (packets : List PacketData) (jobs : List (Job S)) (reports : List (ChannelReport S)) (channels : List RecordedChannel)
      → AreReports left failures ended_as jobs reports channels → HasNoOthers channels packets → FindsNoOthers jobs packets
  finds_no_others packets jobs reports channels are none = λ channel apart. none channel (none_there jobs reports channels channel are apart)

  -- ---- what is found of a job

  module _ (one : (history : List Version) (frames kept other : List FrameData) → AreAccepted history frames kept → AreAccepted history frames other
      → kept ≡ other) where
    -- the accepted frames of a channel are those that its report counts
    taken_of : (job : Job S) (r : ChannelReport S) (c : RecordedChannel) (kept : List FrameData) → AreAccepted c.history c.frames kept
        → IsReport left failures ended_as job r c → HasTaken left job r
    taken_of job r c kept accepted report = record {
      taken = c.frames;
      counted = sym report.offered_is;
      first = first_taken (left job.source) c.frames r.offered report.offered_is (ends_first r.ending job.source r.source c.frames job.max report.ends);
      kept = kept;
      accepted = subst (λ h. AreAccepted h c.frames kept) report.history_is accepted;
      kept_is = ap length (one c.history c.frames kept report.kept accepted report.accepted) ∙ sym report.kept_is;
    }

    finds_job : (packets : List PacketData) (changes : List Given) (answers : List Answered) (job : Job S) (r : ChannelReport S) (c : RecordedChannel)
        → HasAccepted packets c → IsReport left failures ended_as job r c
        → IsChanged job.spec.channel (arc_value job.program) (history_of r) changes answers → FindsJob left packets changes job r
    unfolding taken_of
    finds_job packets changes answers job r c has report changed = record {
      frames = taken_of job r c has.kept has.accepted report;
      all = λ ended. ended_all job.source r.source c.frames job.max
          (subst (λ ending. EndsAs left failures ended_as ending job.source r.source c.frames job.max) ended report.ends);
      found = subst (λ (s : LaneSettings). channel_frames s.channel packets ≡ read_frames s has.kept) report.settings_are has.found;
      programs = changed.programs_are;
    }

    pub finds_each : (packets : List PacketData) (changes : List Given) (answers : List Answered) (jobs : List (Job S)) (reports : List (ChannelReport S))
        (channels : List RecordedChannel) → All (HasAccepted packets) channels → AreReports left failures ended_as jobs reports channels
        → AllZip (λ (j : Job S) (r : ChannelReport S). IsChanged j.spec.channel (arc_value j.program) (history_of r) changes answers) jobs reports
        → AllZip (FindsJob left packets changes) jobs reports
    finds_each packets changes answers [] [] [] all are changed = tt
    finds_each packets changes answers [] [] (c ∷ cs) all are changed = absurd are
    finds_each packets changes answers [] (r ∷ rs) cs all are changed = absurd are
    finds_each packets changes answers (j ∷ js) [] cs all are changed = absurd are
    finds_each packets changes answers (j ∷ js) (r ∷ rs) [] all are changed = absurd are
    finds_each packets changes answers (j ∷ js) (r ∷ rs) (c ∷ cs) all are changed = (
      finds_job packets changes answers j r c (All-head (HasAccepted packets) c cs all) are.0 changed.0,
      finds_each packets changes answers js rs cs (All-tail (HasAccepted packets) c cs all) are.1 changed.1,
    )

    begins_job : (packets : List PacketData) (job : Job S) (r : ChannelReport S) (c : RecordedChannel) → BeginsAccepted packets c
        → IsReport left failures ended_as job r c → BeginsJob left packets job r
    unfolding taken_of
    begins_job packets job r c has report = record {
      frames = taken_of job r c has.kept has.accepted report;
      begins = subst (λ (s : LaneSettings). BeginsList (channel_frames s.channel packets) (read_frames s has.kept)) report.settings_are has.begins;
    }

    pub begins_each : (packets : List PacketData) (jobs : List (Job S)) (reports : List (ChannelReport S)) (channels : List RecordedChannel)
        → All (BeginsAccepted packets) channels → AreReports left failures ended_as jobs reports channels → AllZip (BeginsJob left packets) jobs reports
    begins_each packets [] [] [] all are = tt
    begins_each packets [] [] (c ∷ cs) all are = absurd are
    begins_each packets [] (r ∷ rs) cs all are = absurd are
    begins_each packets (j ∷ js) [] cs all are = absurd are
    begins_each packets (j ∷ js) (r ∷ rs) [] all are = absurd are
    begins_each packets (j ∷ js) (r ∷ rs) (c ∷ cs) all are = (
      begins_job packets j r c (All-head (BeginsAccepted packets) c cs all) are.0,
      begins_each packets js rs cs (All-tail (BeginsAccepted packets) c cs all) are.1,
    )

-- ---- the bytes that an output took

-- what was added to known bytes is what stands behind them
same_bytes : (before bytes others : List ℕ) (first held : Option (List ℕ)) → first ≡ Some before → held ≡ Some (before ++ bytes) → Appends first held others
    → others ≡ bytes
same_bytes before bytes others first held was is appends =
    let moved : Appends (Some before) (Some (before ++ bytes)) others =
    subst (λ o. Appends (Some before) o others) is (subst (λ o. Appends o held others) was appends) in
    sym (drop_at before others (length before) refl) ∙ (ap (drop (length before)) (sym moved) ∙ drop_at before bytes (length before) refl)

-- ---- runs

-- accepted frames are one list; a recording is read back, and so is one that was cut short
abbrev OneAccepted : Type 0
OneAccepted = (history : List Version) (frames kept other : List FrameData) → AreAccepted history frames kept → AreAccepted history frames other → kept ≡ other

abbrev AllReadBack : Type 0
AllReadBack = (version : ℕ) (channels : List RecordedChannel) (bytes : List ℕ) → version < 2 ^ 8 → AreRecordable channels → IsRecording version channels bytes
    → ReadsBack channels bytes

abbrev AllCutReadBack : Type 0
AllCutReadBack = (version : ℕ) (channels : List RecordedChannel) (bytes : List ℕ) → version < 2 ^ 8 → AreRecordable channels
    → IsCutRecording version channels bytes → ReadsBackCut channels bytes

module _ {S C W : Type 0} (left : S → Option Left) (failures : S → ℕ) (ended_as : S → Option SourceEnding) (given : C → List Given) (answered : C
    → List Answered) (ended : C → Bool) (contents : W → Option (List ℕ)) where
  -- the theorem of a run that ended
  pub run_found : AllReadBack → OneAccepted → (jobs : List (Job S)) (version : ℕ) (control : C) (out : W) (done : Done S C W) (before bytes : List ℕ)
      → (recorded : HasRecorded left failures ended_as given answered ended contents jobs version control out done before bytes)
      → Finds left jobs done.report.channels.items recorded.controlled.changes bytes
  run_found read one jobs version control out done before bytes recorded =
      let run = recorded.recorded in
      let same = same_bytes before bytes run.bytes (contents out) (contents done.out) recorded.held_before recorded.held_after run.written in
      let are = reports_recordable left failures ended_as jobs done.report.channels.items run.channels run.reports_are in
      let back = read version run.channels bytes run.version_fits are (subst (IsRecording version run.channels) same run.recording) in
      record {
        packets = back.packets;
        reading = back.reading;
        each = finds_each left failures ended_as one back.packets recorded.controlled.changes recorded.controlled.answers jobs done.report.channels.items
            run.channels back.frames run.reports_are recorded.controlled.changed;
        no_others = finds_no_others left failures ended_as back.packets jobs done.report.channels.items run.channels run.reports_are back.no_others;
        approved = back.approved;
      }

module _ {S W : Type 0} (left : S → Option Left) (failures : S → ℕ) (ended_as : S → Option SourceEnding) (contents : W → Option (List ℕ)) where
  -- what is known of the jobs is known of their channels
  cut_recording : (jobs : List (Job S)) (version : ℕ) (first held : Option (List ℕ)) (fault : WriteFault) (report : Report S) (bytes : List ℕ)
      → (cut : IsCutShort left failures ended_as jobs version first held fault report) → writer_output version cut.pieces ++ cut.cut ≡ bytes
      → IsCutRecording version cut.channels bytes
  cut_recording jobs version first held fault report bytes cut same = record {
    pieces = cut.pieces;
    begun = cut.begun;
    cut = cut.cut;
    cut_is = cut.cut_is;
    bytes_are = sym same;
    named = All-weaker (λ (p : PieceData). Contains (channels_of_jobs jobs) (channel_of p))
        (λ (p : PieceData). Any (λ (c : RecordedChannel). c.settings.channel ≡ channel_of p) cut.channels)
        (λ p has. channel_there left failures ended_as jobs report.channels.items cut.channels (channel_of p) cut.reports_are has) (cut.pieces ++ cut.begun)
        cut.named;
    begin = cut.begin;
  }

  -- the theorem of a run in which the output failed
  pub cut_found : AllCutReadBack → OneAccepted → (jobs : List (Job S)) (version : ℕ) (first last : W) (fault : WriteFault) (report : Report S)
      (before bytes : List ℕ)
      → HasBeenCut left failures ended_as contents jobs version first last fault report before bytes → FindsCut left jobs report.channels.items bytes
  cut_found read one jobs version first last fault report before bytes failed =
      let cut = failed.cut in
      let same = same_bytes before bytes (writer_output version cut.pieces ++ cut.cut) (contents first) (contents last) failed.held_before failed.held_after
      cut.written in
      let are = reports_recordable left failures ended_as jobs report.channels.items cut.channels cut.reports_are in
      let back = read version cut.channels bytes cut.version_fits are
      (cut_recording jobs version (contents first) (contents last) fault report bytes cut same) in
      record {
        packets = back.packets;
        fault = back.fault;
        cut = back.cut;
        reading = back.reading;
        each = begins_each left failures ended_as one back.packets jobs report.channels.items cut.channels back.frames cut.reports_are;
        no_others = finds_no_others left failures ended_as back.packets jobs report.channels.items cut.channels cut.reports_are back.no_others;
      }

-- what is found is what the calls answer, since there is no other reading
pub are_answered : {S : Type 0} (left : S → Option Left) (jobs : List (Job S)) (reports : List (ChannelReport S)) (changes : List Given) (bytes : List ℕ)
    → Finds left jobs reports changes bytes → IsAnswered left jobs reports changes bytes
are_answered left jobs reports changes bytes finds = record {
  no_fault = λ before kind reads. let same = (finds.reading.only before (Some kind) reads).1 in cc;
  each = λ recording reads. subst (λ ps. AllZip (FindsJob left ps changes) jobs reports) (finds.reading.only recording None reads).0 finds.each;
  no_others = λ recording reads. subst (FindsNoOthers jobs) (finds.reading.only recording None reads).0 finds.no_others;
  approved = λ recording reads. subst IsApproved (finds.reading.only recording None reads).0 finds.approved;
}
