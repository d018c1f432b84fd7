-- From what the threads have left to what was recorded.
-- idea: channel by channel what the worker did, what the writer took of it and the slot's history are put together: the
-- comparisons after the joins say that the history served the versions met, so the frames met what it has in force.
use Rattle.std.proofs.Common.{◌≡◌, ℕ, zero, suc, ◌<◌, ◌≤◌, List, [], ◌∷◌, ◌++◌, length, map, get_or}
use Rattle.std.proofs.Common.{Option, None, Some, All, arith, refl, ◌∙◌, ap, sym, subst}
use Rattle.std.specs.Prelude.{Contains}
use Rattle.std.specs.List.{filter, AllZip, Any}
use Rattle.std.specs.Io.KnownBytes.{Appends, Keeps}
use Rattle.std.proofs.lemmas.Bool.{both_ways}
use Rattle.std.proofs.lemmas.List.{append-nil, length-map, get_or-map}
use Rattle.std.proofs.lemmas.List.Elements.{All-cons, All-rest, All-head}
use Rattle.eth_frame.specs.Source.{Left}
use Rattle.eth_frame.specs.declared.source.SourceEnding.{SourceEnding}
use Rattle.rec_lane.specs.Offered.{OfferedFrame, frames_of, times_of, accepted, AllMet}
use Rattle.rec_lane.specs.Pieces.{PieceData, channel_of, channel_pieces, ArePieces}
use Rattle.rec_lane.specs.Settings.{spec_data}
use Rattle.rec_writer.specs.Encoding.{writer_output}
use Rattle.rec_writer.specs.Recording.{RecordedChannel, is_of}
use Rattle.rec_writer.specs.Writers.{WriterState, FinishFails}
use Rattle.rec_writer.specs.declared.fault.WriteFault.{WriteFault}
use Rattle.rec_writer.specs.declared.fault.WriteFault.TheVariants.{Output, Failed as FailedBefore}
use Rattle.rec_run.specs.Writer.{shown}
use Rattle.rec_run.specs.Endings.{EndsAs, TimesEndAs, IsOver}
use Rattle.rec_run.specs.Endings.{IsOverThen, HasEnding, worker_ending_of}
use Rattle.rec_run.specs.Jobs.{channels_of_jobs}
use Rattle.rec_run.specs.Threads.{JoinedOf, AreOver, AreEnded}
use Rattle.rec_run.specs.Threads.{WroteAll, WrotePart}
use Rattle.rec_run.specs.Jobs.{IsJob, AreInRange}
use Rattle.rec_run.specs.Recorded.{IsRecorded, IsCutShort, BeginsChannel}
use Rattle.rec_run.specs.Reports.{history_of, Tells, IsReport, AreReports}
use Rattle.rec_run.specs.VersionsMet.{AreServed}
use Rattle.rec_run.specs.Verdicts.{TellsOf}
use Rattle.rec_run.specs.WorkerRuns.{versions_met, Ran, RanAs}
use Rattle.rec_run.specs.declared.control.change.Logged.{Logged}
use Rattle.rec_run.specs.declared.ending.Ending.{Ending}
use Rattle.rec_run.specs.declared.ending.WorkerEnd.{WorkerEnd}
use Rattle.rec_run.specs.declared.ending.WorkerEnd.TheVariants.{Ended, Link, History}
use Rattle.rec_run.specs.declared.job.Job.{Job}
use Rattle.rec_run.specs.declared.threads.joins.Joined.{Joined}
use Rattle.rec_run.specs.declared.report.ChannelReport.{ChannelReport}
use Rattle.rec_run.specs.declared.report.Report.{Report}
use Rattle.rec_run.proofs.Finishes.{begins_trans}

-- ---- endings

with_ending : (end : WorkerEnd) → HasEnding end → (ending : Ending) × (end ≡ Ended ending)
with_ending (Ended ending) is = (ending, refl)
with_ending Link is = absurd is
with_ending History is = absurd is

pub over_is_ended : (end : WorkerEnd) → IsOverThen end → HasEnding end
over_is_ended (Ended ending) over = tt
over_is_ended Link over = absurd over
over_is_ended History over = absurd over

over_ending : (end : WorkerEnd) → IsOverThen end → IsOver (worker_ending_of end)
over_ending (Ended ending) over = over
over_ending Link over = absurd over
over_ending History over = absurd over

-- ---- one channel

module _ {S : Type 0} (left : S → Option Left) (failures : S → ℕ) (ended_as : S → Option SourceEnding) (log : List Logged) (pieces : List PieceData) where
  pub record OneChannel (job : Job S) (j : Joined S) (r : ChannelReport S) : Type 0 where
    pub channel : RecordedChannel
    pub report : IsReport left failures ended_as job r channel
    pub id_is : channel.settings.channel ≡ job.spec.channel
    pub begins : BeginsChannel pieces channel
    pub whole : j.remaining ≡ 0 → IsOverThen j.done.end → ArePieces channel.settings channel.frames channel.times channel.history
        (filter (is_of channel.settings.channel) pieces)
    pub over : IsOverThen j.done.end → IsOver r.ending

  one_channel : (job : Job S) (j : Joined S) (r : ChannelReport S) → IsJob job → JoinedOf left failures ended_as pieces job j → Tells j log r
      → HasEnding j.done.end → OneChannel job j r
  one_channel job j r is of tells ended =
      let e = with_ending j.done.end ended in
      let ran : Ran left failures ended_as (spec_data job.spec) job.max e.0 job.source j.done.source (versions_met j.done.met.items) of.sent j.done.offered
      j.done.kept =
      subst (λ x. RanAs left failures ended_as (spec_data job.spec) job.max x job.source j.done.source (versions_met j.done.met.items) of.sent j.done.offered
      j.done.kept) e.1 of.ran
      in
      let h = history_of r in
      let count : r.offered ≡ length ran.offered = tells.offered_is ∙ ran.count_is in
      let met : AllMet h ran.offered = ran.known h (subst (λ n. AreServed h n (versions_met j.done.met.items)) count tells.served) in
      let ending : r.ending ≡ e.0 = tells.ending_is ∙ ap (λ x. worker_ending_of x) e.1 in
      let all = channel_pieces (spec_data job.spec) ran.offered in
      let long : length (frames_of ran.offered) ≡ length ran.offered = length-map ran.offered (λ (f : OfferedFrame). f.frame) in
      let within : length ran.offered ≤ job.max = ran.within in
      let most = is.most in
      record {
        channel = record { settings = spec_data job.spec; frames = frames_of ran.offered; times = times_of ran.offered; history = h };
        report = record {
          settings_are = refl;
          settings_fit = is.settings;
          history_is = refl;
          history = tells.history;
          few = tells.few;
          programs_are = tells.programs_are;
          marks_are = tells.marks_are;
          channel_is = tells.channel_is ∙ of.channel_is;
          framed = ran.framed;
          timed = length-map ran.offered (λ (f : OfferedFrame). f.times) ∙ sym long;
          untimed = ran.untimed;
          times_are = λ some. subst (λ x. TimesEndAs x (left job.source) (times_of ran.offered)) (sym ending) (ran.timed some);
          few_frames = omega (arith, long, within, most);
          offered_is = count ∙ sym long;
          within = omega (arith, within, count);
          kept = accepted ran.offered;
          accepted = (ran.offered, met, refl, refl);
          kept_is = tells.kept_is ∙ ran.kept_is;
          ends = subst (λ s. EndsAs left failures ended_as r.ending job.source s (frames_of ran.offered) job.max) (sym tells.source_is)
              (subst (λ x. EndsAs left failures ended_as x job.source j.done.source (frames_of ran.offered) job.max) (sym ending) ran.ends);
        };
        id_is = refl;
        begins = (all, (ran.offered, met, refl, refl, refl), begins_trans (filter (is_of job.spec.channel) pieces) of.sent all of.begins ran.begins);
        whole = λ none over. (ran.offered, met, refl, sym (of.whole none ∙ ran.whole (subst (λ x. IsOverThen x) e.1 over)), refl);
        over = λ over. subst (λ x. IsOver x) (sym tells.ending_is) (over_ending j.done.end over);
      }

  -- ---- all channels

  pub record AllChannels (jobs : List (Job S)) (js : List (Joined S)) (rs : List (ChannelReport S)) : Type 0 where
    pub channels : List RecordedChannel
    pub reports : AreReports left failures ended_as jobs rs channels
    pub ids : map (λ (c : RecordedChannel). c.settings.channel) channels ≡ channels_of_jobs jobs
    pub begin : All (BeginsChannel pieces) channels
    pub whole : AreOver js → All (λ (c : RecordedChannel). ArePieces c.settings c.frames c.times c.history (filter (is_of c.settings.channel) pieces)) channels
    pub over : AreOver js → All (λ (r : ChannelReport S). IsOver r.ending) rs

  none_of : {X : Type 0} (P : X → Type 0) → All P []
  none_of P k d low = absurd (omega (arith, low))

  head_of : {X : Type 0} (P : X → Type 0) (x : X) (xs : List X) → All P (x ∷ xs) → P x
  head_of P x xs all = All-head P x xs all

  rest_of : {X : Type 0} (P : X → Type 0) (x : X) (xs : List X) → All P (x ∷ xs) → All P xs
  rest_of P x xs all = All-rest P x xs (x ∷ xs) refl all

  pub all_channels : (jobs : List (Job S)) (js : List (Joined S)) (rs : List (ChannelReport S)) → All IsJob jobs
      → AllZip (JoinedOf left failures ended_as pieces) jobs js → AllZip (TellsOf log) js rs → AreEnded js → AllChannels jobs js rs
  all_channels [] [] [] are of tells ended = record {
    channels = [];
    reports = tt;
    ids = refl;
    begin = none_of (BeginsChannel pieces);
    whole = λ over. none_of (λ (c : RecordedChannel). ArePieces c.settings c.frames c.times c.history (filter (is_of c.settings.channel) pieces));
    over =
        λ over. none_of (λ (r : ChannelReport S). IsOver r.ending);
  }
  all_channels [] [] (r ∷ rs) are of tells ended = absurd tells
  all_channels [] (j ∷ js) rs are of tells ended = absurd of
  all_channels (job ∷ jobs) [] rs are of tells ended = absurd of
  all_channels (job ∷ jobs) (j ∷ js) [] are of tells ended = absurd tells
  all_channels (job ∷ jobs) (j ∷ js) (r ∷ rs) are of tells ended =
      let one = one_channel job j r (head_of IsJob job jobs are) of.0 tells.0 (head_of (λ (x : Joined S). HasEnding x.done.end) j js ended) in
      let more = all_channels jobs js rs (rest_of IsJob job jobs are) of.1 tells.1 (rest_of (λ (x : Joined S). HasEnding x.done.end) j js ended) in
      let Over : Joined S → Type 0 = λ x. (x.remaining ≡ 0) × IsOverThen x.done.end in
      record {
        channels = one.channel ∷ more.channels;
        reports = (one.report, more.reports);
        ids = ap (λ c. c ∷ map (λ (x : RecordedChannel). x.settings.channel) more.channels) one.id_is ∙ ap (λ cs. job.spec.channel ∷ cs) more.ids;
        begin = All-cons (BeginsChannel pieces) one.channel more.channels one.begins more.begin;
        whole = λ over.
            let here = head_of Over j js over in
            All-cons (λ (c : RecordedChannel). ArePieces c.settings c.frames c.times c.history (filter (is_of c.settings.channel) pieces))
            one.channel more.channels
            (one.whole here.0 here.1) (more.whole (rest_of Over j js over));
        over = λ over. All-cons (λ (x : ChannelReport S). IsOver x.ending) r rs (one.over (head_of Over j js over).1) (more.over (rest_of Over j js over));
      }

-- ---- names

nth : {X : Type 0} (xs : List X) (i : ℕ) → i < length xs → (x : X) × (get_or xs i x ≡ x)
nth [] i low = absurd (omega (arith, low))
nth (x ∷ xs) zero low = (x, refl)
nth (x ∷ xs) (suc i) low = nth xs i (omega (arith, low))

named_one : (channels : List RecordedChannel) (ids : List ℕ) (id : ℕ) → map (λ (c : RecordedChannel). c.settings.channel) channels ≡ ids → Contains ids id
    → Any (λ (c : RecordedChannel). c.settings.channel ≡ id) channels
named_one channels ids id is at =
    let f : RecordedChannel → ℕ = λ c. c.settings.channel in
    let low : at.0 < length channels = (let n = length-map channels f in let m : length (map f channels) ≡ length ids = ap (λ xs. length xs) is in
    omega (arith, n, m, at.1)) in
    let c = nth channels at.0 low in
    (at.0, c.0, low, c.1, sym (ap f c.1) ∙ sym (get_or-map f channels at.0 c.0 id low) ∙ ap (λ xs. get_or xs at.0 id) is ∙ at.2)

-- ---- what the output took

keep_appends : (first held out : Option (List ℕ)) (bytes : List ℕ) → Appends first held bytes → Keeps held out → Appends first out bytes
keep_appends None held out bytes a k = tt
keep_appends (Some xs) None out bytes a k = absurd a
keep_appends (Some xs) (Some ys) None bytes a k = absurd k
keep_appends (Some xs) (Some ys) (Some zs) bytes a k = k ∙ a

appends_same : (first held : Option (List ℕ)) (bytes other : List ℕ) → bytes ≡ other → Appends first held bytes → Appends first held other
appends_same first held bytes other is a = subst (λ bs. Appends first held bs) is a

are_ended : {S : Type 0} (js : List (Joined S)) → AreOver js → AreEnded js
are_ended js over = λ k d low. over_is_ended (get_or js k d).done.end (over k d low).1

module _ {S : Type 0} (left : S → Option Left) (failures : S → ℕ) (ended_as : S
    → Option SourceEnding) (log : List Logged) (jobs : List (Job S)) (js : List (Joined S)) (report : Report S)
    (first out : Option (List ℕ)) (writer : WriterState) (fit : AreInRange jobs writer.version) (keeps : Keeps writer.held out)
    (whole_is : report.pieces ≡ writer.whole) where
  pub recorded : WroteAll left failures ended_as first jobs js writer report.bytes → AllZip (TellsOf log) js report.channels.items → AreOver js
      → IsRecorded left failures ended_as jobs writer.version first out report
  recorded wrote tells over =
      let all = all_channels left failures ended_as log wrote.pieces jobs js report.channels.items fit.jobs_fit wrote.joined_are tells (are_ended js over) in
      record {
        version_fits = fit.version_fits;
        channels = all.channels;
        bytes = writer_output writer.version wrote.pieces;
        recording = (
          wrote.pieces,
          refl,
          record {
            named = λ k d low. named_one all.channels (channels_of_jobs jobs) (channel_of (get_or wrote.pieces k d))
                all.ids (wrote.named k d low);
            each = all.whole over;
          },
        );
        written = keep_appends first writer.held out _ (appends_same first writer.held _ _ (append-nil (writer_output writer.version wrote.pieces))
            wrote.written.held_is) keeps;
        reports_are = all.reports;
        over = all.over over;
        pieces_is = whole_is ∙ wrote.written.whole_is;
        bytes_is = wrote.counted;
      }

  -- all pieces went out, and the flush failed
  pub cut_at_flush : (fault : WriteFault) → WroteAll left failures ended_as first jobs js writer report.bytes → AllZip (TellsOf log) js report.channels.items
      → AreOver js → FinishFails writer fault
      → IsCutShort left failures ended_as jobs writer.version first out fault report
  cut_at_flush (Output whole bytes) wrote tells over fails =
      let all = all_channels left failures ended_as log wrote.pieces jobs js report.channels.items fit.jobs_fit wrote.joined_are tells (are_ended js over) in
      record {
        version_fits = fit.version_fits;
        channels = all.channels;
        pieces = wrote.pieces;
        begun = [];
        cut = [];
        cut_is = refl;
        written = keep_appends first writer.held out _ wrote.written.held_is keeps;
        fault_is = ap (λ x. Output x bytes) (fails.1 ∙ wrote.written.whole_is) ∙ ap (λ x. Output (shown (length wrote.pieces)) x) fails.2;
        reports_are = all.reports;
        named = subst (λ ps. All (λ (p : PieceData). Contains (channels_of_jobs jobs) (channel_of p)) ps) (sym (append-nil wrote.pieces)) wrote.named;
        begin = subst (λ ps. All (BeginsChannel ps) all.channels) (sym (append-nil wrote.pieces)) all.begin;
        pieces_is = whole_is ∙ wrote.written.whole_is;
        bytes_is = wrote.counted;
      }
  cut_at_flush (FailedBefore whole bytes) wrote tells over fails = absurd (both_ways writer.failed wrote.works fails.0)

  -- a piece went out in part
  pub cut_at_piece : (fault : WriteFault) → WrotePart left failures ended_as first jobs js writer report.bytes fault
      → AllZip (TellsOf log) js report.channels.items → AreEnded js
      → IsCutShort left failures ended_as jobs writer.version first out fault report
  cut_at_piece fault wrote tells ended =
      let all = all_channels left failures ended_as log (wrote.pieces ++ wrote.piece ∷ []) jobs js report.channels.items fit.jobs_fit wrote.joined_are tells
      ended in
      record {
        version_fits = fit.version_fits;
        channels = all.channels;
        pieces = wrote.pieces;
        begun = wrote.piece ∷ [];
        cut = wrote.cut;
        cut_is = wrote.cut_is;
        written = keep_appends first writer.held out _ wrote.written.held_is keeps;
        fault_is = wrote.fault_is ∙ ap (λ x. Output x writer.bytes) wrote.written.whole_is
            ∙ ap (λ x. Output (shown (length wrote.pieces)) x) wrote.written.bytes_is;
        reports_are = all.reports;
        named = wrote.named;
        begin = all.begin;
        pieces_is = whole_is ∙ wrote.written.whole_is;
        bytes_is = wrote.counted;
      }
