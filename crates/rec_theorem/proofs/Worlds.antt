-- The channels of a world to which events led can be recorded, and an output that failed has the
-- beginning of their recording.
-- idea: numbers in range stay so with each event, since each count grows by one and is bounded by what it counts; so the
-- channels of every world that events lead to are those of a recording.
use Rattle.std.proofs.Common.{Some, true, ℕ, ◌^◌, ◌≡◌, ◌<◌, inl, inr, List, [], ◌∷◌, ◌++◌, length, map, All, refl, sym, ◌∙◌, subst, arith}
use Rattle.std.specs.Prelude.{slice_set, Result, Ok, Err}
use Rattle.std.specs.List.{Any}
use Rattle.std.proofs.lemmas.Bool.{cases_Bool}
use Rattle.std.proofs.lemmas.List.{append-nil, length-map, map-append}
use Rattle.std.proofs.lemmas.List.Elements.{All-nil, All-cons, All-head, All-tail, All-append, All-map, All-weaker}
use Rattle.eth_frame.specs.Frame.{IsFrame}
use Rattle.ch11_packet.specs.Profiles.Profile.{WithSum}
use Rattle.ch11_packet.specs.PacketLen.{written_len}
use Rattle.ch11_packet.proofs.Lengths.{length-packet}
use Rattle.rec_channel.specs.History.{IsHistory}
use Rattle.rec_lane.specs.Offered.{OfferedFrame, frames_of}
use Rattle.rec_lane.specs.Pieces.{PieceData, channel_of, channel_pieces}
use Rattle.rec_writer.specs.Encoding.{piece_bytes, piece_header, writer_output}
use Rattle.rec_writer.specs.Recording.{RecordedChannel}
use Rattle.rec_writer.specs.Writers.{WriterState}
use Rattle.rec_core.specs.declared.reply.Reply.{Reply}
use Rattle.rec_core.specs.declared.reply.Reply.TheVariants.{Took, Timed, Installed, Sent, Wrote, Closed as HasClosed}
use Rattle.rec_lane.proofs.Noting.{with_frames_same}
use Rattle.rec_core.specs.declared.fault.CoreFault.{CoreFault}
use Rattle.rec_core.specs.declared.fault.CoreFault.TheVariants.{NoChannel}
use Rattle.rec_core.specs.Openings.{SpecData}
use Rattle.rec_core.specs.World.{ChannelState, WorldState, EventData, ChannelDoes, IsInOrder, WorldStep}
use Rattle.rec_core.specs.World.{WorldRun, opening_channel, opening_world, piece_written, world_after}
use Rattle.rec_core.specs.World.EventData.{OfTake, OfTime, OfInstall, OfSend, OfWrite, OfClose}
use Rattle.rec_core.specs.Worlds.{CoreState, StandsForWorld}
use Rattle.rec_core.specs.Written.{RunsFromOpening, recorded_channel, recorded_channels, IsCutShort}
use Rattle.ch11_packet.proofs.ChangedLists.{set_cases, all_there, all_from_there}
use Rattle.rec_core.proofs.ListPlaces.{set_unseen, map_there, there_map, Any_there}
use Rattle.rec_core.proofs.ChannelsInOrder.{LaterLeave}
use Rattle.rec_core.proofs.ChannelServing.{OfTheirChannel, BeginAll}
use Rattle.rec_core.proofs.Written.{Named, SoundWorld, ids, reached, held_after}
use Rattle.rec_run.specs.Recorded.{IsCutOf, BeginsChannel}
use Rattle.rec_run.specs.Jobs.{AreLaneSettings}
use Rattle.rec_theorem.specs.Recordable.{IsRecordable, AreRecordable}
use Rattle.rec_theorem.specs.Cut.{IsCutRecording}
use Rattle.rec_theorem.specs.Events.{IsSpec, IsEvent}

-- ---- numbers stay in range

-- the channel's settings, its greatest number of frames and its frames are in range
record IsFit (c : ChannelState) : Type 0 where
  settings : AreLaneSettings c.settings
  most : c.max < 2 ^ 64
  framed : All IsFrame (frames_of c.offered)

-- one more frame
framed_more : (fs : List OfferedFrame) (f : OfferedFrame) → All IsFrame (frames_of fs) → IsFrame f.frame → All IsFrame (frames_of (fs ++ f ∷ []))
framed_more fs f all is =
    subst (All IsFrame) (sym (map-append (λ (x : OfferedFrame). x.frame) fs (f ∷ [])))
    (All-append IsFrame (frames_of fs) (f.frame ∷ []) all (All-cons IsFrame f.frame [] is (All-nil IsFrame)))

-- what a channel does keeps it in range, by cases on the event
fit_after : (ring : ℕ) (c : ChannelState) (event : EventData) (reply : Reply) (d : ChannelState) (more : List PieceData)
    → ChannelDoes ring c event reply d more → IsEvent event → IsFit c → IsFit d
fit_after ring c (OfTake channel frame) (Took number version value) d more does is fit =
    subst IsFit (sym does.8) (record {
      settings = fit.settings;
      most = fit.most;
      framed = framed_more c.offered does.0 fit.framed (subst IsFrame (sym does.4) is);
    })
fit_after ring c (OfTime channel counter) Timed d more does is fit =
    subst IsFit (sym does.1) (record {
      settings = fit.settings;
      most = fit.most;
      framed = subst (All IsFrame) (sym (with_frames_same c.settings.span c.offered counter)) fit.framed;
    })
fit_after ring c (OfInstall channel program) (Installed version mark) d more does is fit =
    subst IsFit (sym does.4) (record { settings = fit.settings; most = fit.most; framed = fit.framed })
fit_after ring c (OfSend channel) (Sent which) d more does is fit =
    subst IsFit (sym does.4) (record { settings = fit.settings; most = fit.most; framed = fit.framed })
fit_after ring c (OfWrite channel) (Wrote bytes) d more does is fit =
    subst IsFit (sym does.4) (record { settings = fit.settings; most = fit.most; framed = fit.framed })
fit_after ring c (OfClose channel) (HasClosed offered kept) d more does is fit =
    subst IsFit (sym does.3) (record { settings = fit.settings; most = fit.most; framed = fit.framed })
fit_after ring c _ _ d more does is fit = absurd does

-- each channel of the world is in range
abbrev FitWorld : WorldState → Type 0
FitWorld w = All IsFit w.channels

-- one channel more in range
set_fit : (channels : List ChannelState) (at : ℕ) (d : ChannelState) → All IsFit channels → IsFit d → All IsFit (slice_set channels at d)
set_fit channels at d all fit = all_from_there IsFit (slice_set channels at d) (λ k x is. elim (set_cases channels at d k x is) as (λ _. IsFit x) [
  | inl same ↦ subst IsFit (sym same.1) fit
  | inr elsewhere ↦ all_there IsFit channels k x all elsewhere.1
])

-- so a step keeps a world in range, and events do
step_fit : (ring : ℕ) (old : WorldState) (event : EventData) (answer : Result Reply CoreFault) (new : WorldState) → WorldStep ring old event answer new
    → IsEvent event → FitWorld old → FitWorld new
step_fit ring old event (Ok reply) new step is fit =
    subst FitWorld (sym step.6)
    (set_fit old.channels step.0 step.2 fit (fit_after ring step.1 event reply step.2 step.3 step.5 is
    (all_there IsFit old.channels step.0 step.1 fit step.4.there)))
step_fit ring old event (Err NoChannel) new step is fit = subst FitWorld (sym step.1) fit
step_fit ring old event (Err fault) new step is fit = subst FitWorld (sym step.4) fit

run_fit : (ring : ℕ) (events : List EventData) (answers : List (Result Reply CoreFault)) (old new : WorldState) → WorldRun ring old events answers new
    → All IsEvent events → FitWorld old → FitWorld new
run_fit ring [] [] old new run are fit = subst FitWorld (sym run) fit
run_fit ring [] (answer ∷ answers) old new run are fit = absurd run
run_fit ring (event ∷ events) [] old new run are fit = absurd run
run_fit ring (event ∷ events) (answer ∷ answers) old new run are fit =
    run_fit ring events answers run.0 new run.2 (All-tail IsEvent event events are)
    (step_fit ring old event answer run.0 run.1 (All-head IsEvent event events are) fit)

-- the opening world is in range
opening_fit : (specs : List SpecData) → All IsSpec specs → All IsFit (map opening_channel specs)
opening_fit specs are =
    All-map IsFit opening_channel specs
    (All-weaker IsSpec (λ (s : SpecData). IsFit (opening_channel s)) (λ s is. record { settings = is.settings; most = is.most; framed = All-nil IsFrame })
    specs are)

-- a channel in range and in order can be recorded: it has at most as many frames as it may have
channel_recordable : (c : ChannelState) → IsFit c → IsInOrder c → IsRecordable (recorded_channel c)
channel_recordable c fit order =
    let long = length-map c.offered (λ (f : OfferedFrame). f.frame) in
    let within = order.within in
    let most = fit.most in
    record {
      settings = fit.settings;
      framed = fit.framed;
      few_frames = omega (arith, long, within, most);
      timed = length-map c.offered (λ (f : OfferedFrame). f.times) ∙ sym long;
      history = subst (λ n. IsHistory n c.history) (sym long) order.history;
      few_versions = order.few;
    }

-- the channels of a world to which events led can be recorded
pub world_recordable : (ring : ℕ) (specs : List SpecData) (new : WorldState) → (run : RunsFromOpening ring specs new) → All IsSpec specs → All IsEvent run.0
    → All IsInOrder new.channels → AreRecordable (recorded_channels new)
world_recordable ring specs new run are events orders =
    let fit = run_fit ring run.0 run.1 (opening_world specs) new run.4 events (opening_fit specs are) in
    All-map IsRecordable recorded_channel new.channels
    (all_from_there (λ (c : ChannelState). IsRecordable (recorded_channel c)) new.channels
    (λ k c is. channel_recordable c (all_there IsFit new.channels k c fit is) (all_there IsInOrder new.channels k c orders is)))

-- ---- one more piece

-- an event more
run_more : (ring : ℕ) (events : List EventData) (answers : List (Result Reply CoreFault)) (old mid new : WorldState) (event : EventData)
    (answer : Result Reply CoreFault)
    → WorldRun ring old events answers mid → WorldStep ring mid event answer new → WorldRun ring old (events ++ event ∷ []) (answers ++ answer ∷ []) new
run_more ring [] [] old mid new event answer run step = (new, subst (λ w. WorldStep ring w event answer new) run step, refl)
run_more ring [] (a ∷ answers) old mid new event answer run step = absurd run
run_more ring (e ∷ events) [] old mid new event answer run step = absurd run
run_more ring (e ∷ events) (a ∷ answers) old mid new event answer run step = (run.0, run.1, run_more ring events answers run.0 mid new event answer run.2 step)

-- the world in which the piece whose packet was begun is written, too
abbrev completed : WorldState → (at : ℕ) → ChannelState → PieceData → WorldState
completed w at c piece = world_after w at (piece_written c) (piece ∷ [])

-- that world is reached by writing the piece, which stands in its channel's ring
completes : (ring : ℕ) (specs : List SpecData) (before : List ℕ) (writer : WriterState) (w : WorldState) → RunsFromOpening ring specs w
    → (s : IsCutShort before writer w) → RunsFromOpening ring specs (completed w s.at s.channel s.piece)
completes ring specs before writer w run s =
    let channel = s.channel.settings.channel in
    let bytes = written_len WithSum (length (piece_bytes s.piece)) in
    let step : WorldStep ring w (OfWrite channel) (Ok (Wrote bytes)) (completed w s.at s.channel s.piece) = (
      s.at,
      s.channel,
      piece_written s.channel,
      s.piece ∷ [],
      record { there = s.there; named = refl },
      (s.piece, s.next, s.sent, λ version sequence. length-packet WithSum (piece_header s.piece version sequence) (piece_bytes s.piece), refl, refl),
      refl,
    ) in (
      run.0 ++ OfWrite channel ∷ [],
      run.1 ++ Ok (Wrote bytes) ∷ [],
      run.2,
      run.3,
      run_more ring run.0 run.1 (opening_world specs) w (completed w s.at s.channel s.piece) (OfWrite channel) (Ok (Wrote bytes)) run.4 step,
    )

-- ---- what was written of the channels

-- each written piece is of one of the channels
named_recorded : (w : WorldState) → SoundWorld w → All (λ (piece : PieceData). Any (λ (c : RecordedChannel). c.settings.channel ≡ channel_of piece)
    (recorded_channels w)) w.out
named_recorded w s =
    All-weaker (Named (ids w)) (λ (piece : PieceData). Any (λ (c : RecordedChannel). c.settings.channel ≡ channel_of piece) (recorded_channels w))
    (λ piece n.
    let from = map_there (λ (c : ChannelState). c.settings.channel) w.channels n.0 (channel_of piece) n.1 in
    Any_there (λ (c : RecordedChannel). c.settings.channel ≡ channel_of piece) (recorded_channels w) n.0 (recorded_channel from.0)
    (there_map recorded_channel w.channels n.0 from.0 from.1) from.2)
    w.out s.named

-- and those of each channel begin its pieces
begin_recorded : (w : WorldState) → SoundWorld w → All (BeginsChannel w.out) (recorded_channels w)
begin_recorded w s =
    All-map (BeginsChannel w.out) recorded_channel w.channels
    (all_from_there (λ (c : ChannelState). BeginsChannel w.out (recorded_channel c)) w.channels
    (λ k c is. let sound = s.each k c is in (channel_pieces c.settings c.offered, (c.offered, sound.order.met, refl, refl, refl), sound.begins)))

-- what a world has written of its channels, and then perhaps a part of a piece, is a recording that
-- was cut short
taken_cut : (version : ℕ) (channels : List RecordedChannel) (w after : WorldState) (begun : List PieceData) (cut : List ℕ) → SoundWorld after
    → after.out ≡ w.out ++ begun → recorded_channels after ≡ channels → IsCutOf version w.out begun cut
    → IsCutRecording version channels (writer_output version w.out ++ cut)
taken_cut version channels w after begun cut sound out same is = record {
  pieces = w.out;
  begun = begun;
  cut = cut;
  cut_is = is;
  bytes_are = refl;
  named = subst (All (λ (piece : PieceData). Any (λ (c : RecordedChannel). c.settings.channel ≡ channel_of piece) channels)) out
      (subst (λ cs. All (λ (piece : PieceData). Any (λ (c : RecordedChannel). c.settings.channel ≡ channel_of piece) cs) after.out) same
      (named_recorded after sound));
  begin = subst (λ ps. All (BeginsChannel ps) channels) out (subst (All (BeginsChannel after.out)) same (begin_recorded after sound));
}

module _ (leave : LaterLeave) (theirs : OfTheirChannel) (begin : BeginAll) (ring : ℕ) (specs : List SpecData) (before : List ℕ) (core : CoreState)
    (w : WorldState) (run : RunsFromOpening ring specs w) where
  -- where the output failed, one piece was begun
  failed_cut : (s : IsCutShort before core.writer w) → IsCutRecording core.writer.version (recorded_channels w)
      (writer_output core.writer.version w.out ++ s.cut)
  failed_cut s =
      let after = completed w s.at s.channel s.piece in
      taken_cut core.writer.version (recorded_channels w) w after (s.piece ∷ []) s.cut
      (reached leave theirs begin ring specs after (completes ring specs before core.writer w run s)) refl
      (set_unseen recorded_channel w.channels s.at s.channel (piece_written s.channel) s.there refl) s.is_cut

  -- and where it works, none was
  working_cut : (cut : List ℕ) → cut ≡ [] → IsCutRecording core.writer.version (recorded_channels w) (writer_output core.writer.version w.out ++ cut)
  working_cut cut none = taken_cut core.writer.version (recorded_channels w) w w [] cut (reached leave theirs begin ring specs w run) (sym (append-nil w.out))
      refl none

  -- so at any time the output has the beginning of a recording
  pub world_cut : ((core.writer.failed ≡ true) → IsCutShort before core.writer w) → StandsForWorld ring (Some before) core w
      → (bytes : List ℕ) × (core.writer.held ≡ Some (before ++ bytes)) × IsCutRecording core.writer.version (recorded_channels w) bytes
  world_cut short stands = elim (cases_Bool core.writer.failed) [
    | inl fails ↦ (let s = short fails in (writer_output core.writer.version w.out ++ s.cut, s.held_is, failed_cut s))
    | inr works ↦ (
      writer_output core.writer.version w.out ++ stands.cut,
      held_after before (writer_output core.writer.version w.out ++ stands.cut) core.writer.held stands.written.held_is,
      working_cut stands.cut (stands.none_cut works),
    )
  ]
