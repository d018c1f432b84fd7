-- What a recording that ended is, and what one that was cut short has left.
use Rattle.std.specs.Prelude.{ℕ, ◌≡◌, ◌<◌, ◌^◌, Bool, true, List, [], ◌∷◌, ◌++◌, length, map, All}
use Rattle.std.specs.Prelude.{Contains, Option}
use Rattle.std.specs.List.{filter, AllZip}
use Rattle.std.specs.Arc.{arc_value}
use Rattle.std.specs.Io.KnownBytes.{Appends}
use Rattle.eth_frame.specs.Source.{Left}
use Rattle.eth_frame.specs.declared.source.SourceEnding.{SourceEnding}
use Rattle.rec_core.specs.Ties.{IsRunOfWorld}
use Rattle.rec_lane.specs.Parts.{BeginsList}
use Rattle.rec_lane.specs.Pieces.{PieceData, channel_of, ArePieces}
use Rattle.rec_writer.specs.Encoding.{writer_output}
use Rattle.rec_writer.specs.Recording.{RecordedChannel, is_of, IsRecording}
use Rattle.rec_writer.specs.Writers.{IsCutPiece}
use Rattle.rec_writer.specs.declared.fault.WriteFault.{WriteFault}
use Rattle.rec_writer.specs.declared.fault.WriteFault.TheVariants.{Output}
use Rattle.rec_run.specs.Control.{IsChanged, Given, Answered}
use Rattle.rec_run.specs.Writer.{shown, bytes_of}
use Rattle.rec_run.specs.Endings.{IsOver}
use Rattle.rec_run.specs.Jobs.{channels_of_jobs, core_specs}
use Rattle.rec_run.specs.Reports.{history_of, AreReports}
use Rattle.rec_run.specs.declared.control.change.Answer.TheVariants.{NoChannel}
use Rattle.rec_run.specs.declared.job.Job.{Job}
use Rattle.rec_run.specs.declared.report.ChannelReport.{ChannelReport}
use Rattle.rec_run.specs.declared.report.Report.{Report}

-- the bytes are the beginning of the packet of the piece that was begun, if any
abbrev pub IsCutOf : (version : ℕ) → (pieces begun : List PieceData) → List ℕ → Type 0
IsCutOf version pieces [] cut = cut ≡ []
IsCutOf version pieces (p ∷ []) cut = IsCutPiece version pieces p cut
IsCutOf version pieces (p ∷ q ∷ ps) cut = ⊥

-- those of the pieces that are of the channel begin the pieces of the channel
abbrev pub BeginsChannel : List PieceData → RecordedChannel → Type 0
BeginsChannel taken c =
    (all : List PieceData)
    × ArePieces c.settings c.frames c.times c.history all
    × BeginsList (filter (is_of c.settings.channel) taken) all

module _ {S : Type 0}
    (left : S → Option Left) (failures : S → ℕ) (ended_as : S → Option SourceEnding) where
  -- a recording that ended: since its output held `first`, it took the recording of these channels,
  -- one for each job, and each channel is over
  pub record IsRecorded
      (jobs : List (Job S)) (version : ℕ) (first held : Option (List ℕ)) (report : Report S)
      : Type 0 where
    pub version_fits : version < 2 ^ 8
    pub channels : List RecordedChannel
    pub bytes : List ℕ
    pub recording : IsRecording version channels bytes
    pub written : Appends first held bytes
    pub reports_are : AreReports left failures ended_as jobs report.channels.items channels
    pub over : All (λ (r : ChannelReport S). IsOver r.ending) report.channels.items
    pub pieces_is : report.pieces ≡ shown (length recording.0)
    pub bytes_is : report.bytes ≡ shown (length bytes)

  -- a recording that ended is a run of the model of the core, with rings of this size: its channels
  -- and the pieces of its bytes are those of a run from the opening world of these jobs
  pub record IsRecordedRun
      (jobs : List (Job S)) (version ring : ℕ) (first held : Option (List ℕ)) (report : Report S)
      : Type 0 where
    pub recorded : IsRecorded jobs version first held report
    pub run : IsRunOfWorld ring (core_specs jobs) recorded.channels recorded.recording.0

  -- a recording that was cut short: its output took these pieces, and then the beginning of the
  -- piece after them, if one was begun; and what was taken of each channel begins its pieces
  pub record IsCutShort
      (jobs : List (Job S)) (version : ℕ) (first held : Option (List ℕ)) (fault : WriteFault)
      (report : Report S) : Type 0 where
    pub version_fits : version < 2 ^ 8
    pub channels : List RecordedChannel
    pub pieces : List PieceData
    pub begun : List PieceData
    pub cut : List ℕ
    pub cut_is : IsCutOf version pieces begun cut
    pub written : Appends first held (writer_output version pieces ++ cut)
    pub fault_is : fault ≡ Output (shown (length pieces)) (length cut)
    pub reports_are : AreReports left failures ended_as jobs report.channels.items channels
    pub named : All (λ (p : PieceData). Contains (channels_of_jobs jobs) (channel_of p))
        (pieces ++ begun)
    pub begin : All (BeginsChannel (pieces ++ begun)) channels
    pub pieces_is : report.pieces ≡ shown (length pieces)
    pub bytes_is : report.bytes ≡ bytes_of version pieces

module _ {C : Type 0} (given : C → List Given) (answered : C → List Answered) (ended : C
    → Bool) where
  -- the control has ended: since before, it gave these changes and was told these answers, each
  -- that of the channel's history; where no job has the channel, that there is none
  pub record IsControlled {S : Type 0}
      (before after : C) (jobs : List (Job S)) (reports : List (ChannelReport S)) : Type 0 where
    pub has_ended : ended after ≡ true
    pub changes : List Given
    pub answers : List Answered
    pub given_is : given after ≡ given before ++ changes
    pub told_is : answered after ≡ answered before ++ answers
    pub paired : map (λ (g : Given). g.channel) changes ≡ map (λ (a : Answered). a.channel) answers
    pub changed : AllZip (λ (j : Job S) (r : ChannelReport S).
        IsChanged j.spec.channel (arc_value j.program) (history_of r) changes answers) jobs reports
    pub others : All (λ (a : Answered).
        ¬ Contains (channels_of_jobs jobs) a.channel → a.answer ≡ NoChannel) answers
