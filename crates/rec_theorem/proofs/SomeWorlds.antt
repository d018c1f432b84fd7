-- Channels that can be recorded are those of a world in which all is closed and written.
use Rattle.std.proofs.Common.{ℕ, ◌≡◌, ◌-◌, ◌<◌, List, [], ◌∷◌, ◌++◌, length, map, take, drop, Some, All, get_or, refl, sym, ap, subst, arith}
use Rattle.std.specs.Prelude.{slice_get}
use Rattle.std.specs.List.{AllZip, flat_map}
use Rattle.std.proofs.lemmas.List.{take-append-drop}
use Rattle.std.proofs.lemmas.List.Elements.{All-nil, All-cons, All-head, All-tail, All-append, All-map, All-weaker}
use Rattle.eth_frame.specs.Frame.{FrameData, IsFrame}
use Rattle.rec_channel.specs.History.{Version}
use Rattle.rec_channel.specs.Slots.{programs_in}
use Rattle.rec_lane.specs.Pieces.{PieceData, channel_of}
use Rattle.rec_writer.specs.Numbers.{AreDistinctChannels}
use Rattle.rec_writer.specs.Recording.{RecordedChannel, AreOfChannels}
use Rattle.rec_core.specs.Openings.{SpecData, AreSpecs, channels_of_specs}
use Rattle.rec_core.specs.Ties.{takes_of, moves_from, moves_of, close_of, passes_of, events_of, unrefused, IsTimedBySpan, IsOfSpec, IsRunOfWorld}
use Rattle.rec_core.specs.World.{WorldState}
use Rattle.rec_core.specs.World.EventData.{OfTake, OfTime, OfInstall, OfSend, OfWrite}
use Rattle.rec_core.specs.Written.{RunsFromOpening, AreEnded, recorded_channels}
use Rattle.rec_core.proofs.ChannelServing.{OfTheirChannel}
use Rattle.rec_theorem.specs.Events.{IsEvent}
use Rattle.rec_theorem.specs.Existence.{channel_ids, first_program, spec_of, specs_of}
use Rattle.rec_theorem.specs.Recordable.{IsRecordable, AreRecordable}
use Rattle.rec_theorem.proofs.JoinedLists.{All_front, All_back, All_flat}
use Rattle.rec_theorem.proofs.SomePieces.{SomeOffered, some_pieces}

-- a recording is a run
abbrev RecordingIsRun : Type 0
RecordingIsRun = (ring : ℕ) (specs : List SpecData) (channels : List RecordedChannel) (pieces : List PieceData)
    → 0 < ring → AreSpecs specs → AllZip IsOfSpec specs channels → AreOfChannels channels pieces → IsRunOfWorld ring specs channels pieces

-- ---- what a core is set to

same_ids : (channels : List RecordedChannel) → channels_of_specs (specs_of channels) ≡ channel_ids channels
same_ids [] = refl
same_ids (c ∷ cs) = ap (λ ids. c.settings.channel ∷ ids) (same_ids cs)

first_there : (history : List Version) → 0 < length history → slice_get (programs_in history) 0 ≡ Some (first_program history)
first_there [] some = absurd (omega (arith, some))
first_there (v ∷ vs) some = refl

of_spec : (c : RecordedChannel) → IsRecordable c → IsTimedBySpan c → IsOfSpec (spec_of c) c
of_spec c is untimed = record {
  settings_are = refl;
  program_is = first_there c.history is.history.some;
  past = is.history;
  within = omega arith;
  few = is.few_versions;
  untimed = untimed;
}

of_specs : (channels : List RecordedChannel) → AreRecordable channels → All IsTimedBySpan channels
    → AllZip IsOfSpec (specs_of channels) channels
of_specs [] are untimed = tt
of_specs (c ∷ cs) are untimed = (
  of_spec c (All-head IsRecordable c cs are) (All-head IsTimedBySpan c cs untimed),
  of_specs cs (All-tail IsRecordable c cs are) (All-tail IsTimedBySpan c cs untimed),
)

-- ---- the events, whose frames are those of the channels

are_takes : (channel : ℕ) (frames : List FrameData) (times : List (List ℕ)) → All IsFrame frames → All IsEvent (takes_of channel frames times)
are_takes channel [] times framed = All-nil IsEvent
are_takes channel (f ∷ fs) [] framed = All-cons IsEvent (OfTake channel f) (takes_of channel fs []) (All-head IsFrame f fs framed)
    (are_takes channel fs [] (All-tail IsFrame f fs framed))
are_takes channel (f ∷ fs) (ts ∷ times) framed =
    let marks = map (λ (counter : ℕ). OfTime channel counter) ts in
    All-cons IsEvent (OfTake channel f) (marks ++ takes_of channel fs times) (All-head IsFrame f fs framed)
    (All-append IsEvent marks (takes_of channel fs times) (All-map IsEvent (λ (counter : ℕ). OfTime channel counter) ts (λ k d within. tt))
    (are_takes channel fs times (All-tail IsFrame f fs framed)))

are_moves : (channel number : ℕ) (frames : List FrameData) (times : List (List ℕ)) (later : List Version) → All IsFrame frames
    → All IsEvent (moves_from channel number frames times later)
are_moves channel number frames times [] framed = are_takes channel frames times framed
are_moves channel number frames times (v ∷ vs) framed =
    let n = v.mark - number in
    let parts : All IsFrame (take n frames ++ drop n frames) = subst (All IsFrame) (sym (take-append-drop n frames)) framed in
    let rest = moves_from channel v.mark (drop n frames) (drop n times) vs in
    All-append IsEvent (takes_of channel (take n frames) (take n times)) (OfInstall channel v.program ∷ rest)
    (are_takes channel (take n frames) (take n times) (All_front IsFrame (take n frames) (drop n frames) parts))
    (All-cons IsEvent (OfInstall channel v.program) rest tt (are_moves channel v.mark (drop n frames) (drop n times) vs
    (All_back IsFrame (take n frames) (drop n frames) parts)))

are_passes : (piece : PieceData) → All IsEvent (passes_of piece)
are_passes piece = All-cons IsEvent (OfSend (channel_of piece)) (OfWrite (channel_of piece) ∷ []) tt
    (All-cons IsEvent (OfWrite (channel_of piece)) [] tt (All-nil IsEvent))

are_events : (channels : List RecordedChannel) (pieces : List PieceData) → AreRecordable channels → All IsEvent (events_of channels pieces)
are_events channels pieces are =
    All-append IsEvent (flat_map moves_of channels) (map close_of channels ++ flat_map passes_of pieces)
    (All_flat IsEvent moves_of channels (All-weaker IsRecordable (λ (c : RecordedChannel). All IsEvent (moves_of c))
    (λ c is. are_moves c.settings.channel 0 c.frames c.times (drop 1 c.history) is.framed) channels are))
    (All-append IsEvent (map close_of channels) (flat_map passes_of pieces)
    (All-map IsEvent close_of channels (λ k d within. tt))
    (All_flat IsEvent passes_of pieces (λ k d within. are_passes (get_or pieces k d))))

-- ---- the world

pub some_world : RecordingIsRun → SomeOffered → OfTheirChannel → (ring : ℕ) (channels : List RecordedChannel) → 0 < ring → AreRecordable channels
    → All IsTimedBySpan channels → AreSpecs (specs_of channels)
    → (new : WorldState) × (run : RunsFromOpening ring (specs_of channels) new) × All IsEvent run.0 × AreEnded new × (recorded_channels new ≡ channels)
some_world law some theirs ring channels room are untimed specs =
    let pieces = some_pieces some theirs channels are (subst (λ ids. AreDistinctChannels ids) (same_ids channels) specs.distinct) in
    let run = law ring (specs_of channels) channels pieces.0 room specs (of_specs channels are untimed) pieces.1 in (
      run.new,
      (events_of channels pieces.0, unrefused run.replies, run.are_specs, run.filters, run.run),
      are_events channels pieces.0 are,
      run.ended,
      run.channels_are,
    )
