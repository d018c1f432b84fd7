-- A recording is a run of the model world.
-- idea: first all takes, installs and closes of one channel after the other, then a send and a write for each piece in the
-- order of the recording; what a lane has left is all pieces behind those that are written, so each write is the next one.
use Rattle.std.proofs.Common.{ℕ, ◌≡◌, ◌<◌, ◌≤◌, List, [], ◌∷◌, ◌++◌, length, Some, refl, sym, ◌∙◌, ap, subst, All, map}
use Rattle.std.specs.Prelude.{slice_get}
use Rattle.std.specs.List.{flat_map, Any, AllZip}
use Rattle.std.proofs.lemmas.List.{append-nil, append_assoc, length-map, set_at}
use Rattle.std.proofs.lemmas.List.Elements.{All-cons, All-nil, All-head, All-tail, All-map}
use Rattle.std.proofs.lemmas.Option.{slice_get_read}
use Rattle.bpf_insn.specs.Bytes.{AreInRange}
use Rattle.bpf_verify.specs.Validity.{Valid}
use Rattle.rec_channel.specs.History.{Version, IsHistory}
use Rattle.rec_lane.specs.Offered.{OfferedFrame, frames_of, times_of, AreUntimed}
use Rattle.rec_lane.specs.Pieces.{PieceData, LaneSettings, channel_of, channel_pieces, ArePieces}
use Rattle.eth_frame.specs.Frame.{FrameData}
use Rattle.rec_writer.specs.Numbers.{AreDistinctChannels}
use Rattle.rec_writer.specs.Recording.{RecordedChannel, AreOfChannels}
use Rattle.rec_core.specs.Openings.{SpecData, AreSpecs, IsFilter, channels_of_specs}
use Rattle.rec_core.specs.World.{ChannelState, EventData, opening_channel, opening_world}
use Rattle.rec_core.specs.Written.{IsEndedChannel, recorded_channel}
use Rattle.rec_core.specs.Ties.{moves_of, close_of, passes_of, events_of, IsOfSpec, IsRunOfWorld}
use Rattle.ch11_packet.proofs.ChangedLists.{all_there, all_from_there}
use Rattle.rec_core.proofs.ListPlaces.{map_same, map_there, get_behind}
use Rattle.rec_core.proofs.Written.{of}
use Rattle.rec_core.proofs.WorldRuns.{Runs, world, Makes, nowhere, one_after_another}
use Rattle.rec_core.proofs.Moves.{Lane, IsLane, recorded_lane, moved_lane, closed_lane, lane_moved, lane_closed}
use Rattle.rec_core.proofs.SendsAndWrites.{HaveLens, lane_id, lane_pieces, after, passed_one, next_of_lane}

-- ---- lanes

-- all pieces of the lane stand in these pieces, in order
abbrev IsWhole : List PieceData → Lane → Type 0
IsWhole pieces lane = of (lane_id lane) pieces ≡ lane_pieces lane

record Lanes (specs : List SpecData) (channels : List RecordedChannel) (pieces : List PieceData) : Type 0 where
  pub lanes : List Lane
  pub specs_are : map (λ (l : Lane). l.spec) lanes ≡ specs
  pub channels_are : map recorded_lane lanes ≡ channels
  pub each : All IsLane lanes
  pub whole : All (IsWhole pieces) lanes

abbrev HasPieces : List PieceData → RecordedChannel → Type 0
HasPieces pieces c = ArePieces c.settings c.frames c.times c.history (of c.settings.channel pieces)

abbrev lane_of : SpecData → RecordedChannel → List OfferedFrame → Lane
lane_of spec c offered = record { spec = spec; offered = offered; history = c.history }

same_channel : (spec : SpecData) (c : RecordedChannel) (offered : List OfferedFrame) → c.settings ≡ spec.settings → frames_of offered ≡ c.frames
    → times_of offered ≡ c.times → recorded_lane (lane_of spec c offered) ≡ c
same_channel spec c offered settings frames times =
    ap (λ (s : LaneSettings). let made : RecordedChannel =
    record { settings = s; frames = frames_of offered; times = times_of offered; history = c.history } in made) (sym settings)
    ∙ (ap (λ (fs : List FrameData). let made : RecordedChannel =
    record { settings = c.settings; frames = fs; times = times_of offered; history = c.history } in made) frames
    ∙ ap (λ (ts : List (List ℕ)). let made : RecordedChannel =
    record { settings = c.settings; frames = c.frames; times = ts; history = c.history } in made) times)

is_lane : (spec : SpecData) (c : RecordedChannel) (pieces : List PieceData) → IsOfSpec spec c → (has : HasPieces pieces c) → IsLane (lane_of spec c has.0)
is_lane spec c pieces is has =
    let count : length c.frames ≡ length has.0 = ap (λ (fs : List FrameData). length fs) (sym has.2) ∙ length-map has.0 (λ (f : OfferedFrame). f.frame) in
    record {
      program_is = is.program_is;
      past = subst (λ n. IsHistory n c.history) count is.past;
      within = subst (λ n. n ≤ spec.max) count is.within;
      few = is.few;
      met = has.1;
      untimed = λ none. subst AreUntimed (sym has.4) (is.untimed (ap (λ (s : LaneSettings). s.span) is.settings_are ∙ none));
    }

lanes_of : (specs : List SpecData) (channels : List RecordedChannel) (pieces : List PieceData) → AllZip IsOfSpec specs channels
    → All (HasPieces pieces) channels → Lanes specs channels pieces
lanes_of [] [] pieces zip all = record { lanes = []; specs_are = refl; channels_are = refl; each = All-nil IsLane; whole = All-nil (IsWhole pieces) }
lanes_of [] (c ∷ cs) pieces zip all = absurd zip
lanes_of (s ∷ ss) [] pieces zip all = absurd zip
lanes_of (s ∷ ss) (c ∷ cs) pieces zip all =
    let has = All-head (HasPieces pieces) c cs all in
    let more = lanes_of ss cs pieces zip.1 (All-tail (HasPieces pieces) c cs all) in
    let lane = lane_of s c has.0 in
    let whole : IsWhole pieces lane = subst (λ (t : LaneSettings). of t.channel pieces ≡ channel_pieces t has.0) zip.0.settings_are (sym has.3) in
    record {
      lanes = lane ∷ more.lanes;
      specs_are = ap (λ ts. s ∷ ts) more.specs_are;
      channels_are = ap (λ d. d ∷ map recorded_lane more.lanes) (same_channel s c has.0 zip.0.settings_are has.2 has.4) ∙ ap (λ ds. c ∷ ds) more.channels_are;
      each = All-cons IsLane lane more.lanes (is_lane s c pieces zip.0 has) more.each;
      whole = All-cons (IsWhole pieces) lane more.lanes whole more.whole;
    }

-- ---- one lane after another

each_lane : (ring : ℕ) (f g : Lane → ChannelState) (events : Lane → List EventData) (P : Lane → Type 0)
    → ((lane : Lane) → P lane → Makes ring (events lane) (f lane) (g lane))
    → (lanes : List Lane) (before : List ChannelState) (out : List PieceData) → All P lanes
    → Runs ring (world (before ++ map f lanes) out) (flat_map events lanes) (world (before ++ map g lanes) out)
each_lane ring f g events P makes [] before out all = nowhere ring (world (before ++ []) out)
each_lane ring f g events P makes (lane ∷ lanes) before out all =
    let start = world (before ++ f lane ∷ map f lanes) out in
    let mid = world (before ++ g lane ∷ map f lanes) out in
    let here : Runs ring start (events lane) mid =
    subst (λ cs. Runs ring start (events lane) (world cs out)) (set_at before (f lane) (map f lanes) (g lane) (length before) refl)
    (makes lane (All-head P lane lanes all) (before ++ f lane ∷ map f lanes) out (length before) (get_behind before (f lane) (map f lanes))) in
    let rest : Runs ring mid (flat_map events lanes) (world (before ++ g lane ∷ map g lanes) out) =
    subst (λ cs. Runs ring mid (flat_map events lanes) (world cs out)) (append_assoc before (g lane ∷ []) (map g lanes))
    (subst (λ cs. Runs ring (world cs out) (flat_map events lanes) (world ((before ++ g lane ∷ []) ++ map g lanes) out))
    (append_assoc before (g lane ∷ []) (map f lanes))
    (each_lane ring f g events P makes lanes (before ++ g lane ∷ []) out (All-tail P lane lanes all))) in
    one_after_another ring start mid (world (before ++ g lane ∷ map g lanes) out) (events lane) (flat_map events lanes) here rest

-- ---- one piece after another

-- each piece is of some lane
abbrev AreNamed : List Lane → List PieceData → Type 0
AreNamed lanes pieces = All (λ (p : PieceData). (k : ℕ) × (lane : Lane) × (slice_get lanes k ≡ Some lane) × (channel_of p ≡ lane_id lane)) pieces

passed : HaveLens → (ring : ℕ) (lanes : List Lane) (all rest done : List PieceData) → 0 < ring → AreDistinctChannels (map lane_id lanes) → AreNamed lanes all
    → All (IsWhole all) lanes → done ++ rest ≡ all
    → Runs ring (world (map (after done) lanes) done) (flat_map passes_of rest) (world (map (after all) lanes) all)
passed lens ring lanes all [] done some distinct named whole is =
    subst (λ ps. Runs ring (world (map (after done) lanes) done) [] (world (map (after ps) lanes) ps)) (sym (append-nil done) ∙ is)
    (nowhere ring (world (map (after done) lanes) done))
passed lens ring lanes all (p ∷ rest) done some distinct named whole is =
    let at : slice_get all (length done) ≡ Some p = subst (λ ps. slice_get ps (length done) ≡ Some p) is (get_behind done p rest) in
    let found = all_there (λ (q : PieceData). (k : ℕ) × (lane : Lane) × (slice_get lanes k ≡ Some lane) × (channel_of q ≡ lane_id lane)) all (length done) p
    named at in
    let next = next_of_lane found.1 done p rest found.3 (ap (of (lane_id found.1)) is ∙ all_there (IsWhole all) lanes found.0 found.1 whole found.2) in
    one_after_another ring (world (map (after done) lanes) done) (world (map (after (done ++ p ∷ [])) lanes) (done ++ p ∷ []))
    (world (map (after all) lanes) all)
    (passes_of p) (flat_map passes_of rest)
    (passed_one lens ring lanes done p found.0 found.1 some distinct found.2 found.3 next)
    (passed lens ring lanes all rest (done ++ p ∷ []) some distinct named whole (append_assoc done (p ∷ []) rest ∙ is))

-- ---- a recording

abbrev ended_lane : Lane → ChannelState
ended_lane lane = closed_lane lane (length (lane_pieces lane))

begun_alike : (lanes : List Lane) → map opening_channel (map (λ (l : Lane). l.spec) lanes) ≡ map (λ (l : Lane). opening_channel l.spec) lanes
begun_alike [] = refl
begun_alike (lane ∷ lanes) = ap (λ cs. opening_channel lane.spec ∷ cs) (begun_alike lanes)

moves_alike : (lanes : List Lane) → flat_map moves_of (map recorded_lane lanes) ≡ flat_map (λ (l : Lane). moves_of (recorded_lane l)) lanes
moves_alike [] = refl
moves_alike (lane ∷ lanes) = ap (λ es. moves_of (recorded_lane lane) ++ es) (moves_alike lanes)

closes_alike : (lanes : List Lane) → map close_of (map recorded_lane lanes) ≡ flat_map (λ (l : Lane). close_of (recorded_lane l) ∷ []) lanes
closes_alike [] = refl
closes_alike (lane ∷ lanes) = ap (λ es. close_of (recorded_lane lane) ∷ es) (closes_alike lanes)

ids_alike : (lanes : List Lane) → map lane_id lanes ≡ channels_of_specs (map (λ (l : Lane). l.spec) lanes)
ids_alike [] = refl
ids_alike (lane ∷ lanes) = ap (λ ids. lane_id lane ∷ ids) (ids_alike lanes)

ended_alike : (lanes : List Lane) → map recorded_channel (map ended_lane lanes) ≡ map recorded_lane lanes
ended_alike [] = refl
ended_alike (lane ∷ lanes) = ap (λ cs. recorded_lane lane ∷ cs) (ended_alike lanes)

most_alike : (lanes : List Lane) → map (λ (c : ChannelState). c.max) (map ended_lane lanes) ≡ map (λ (s : SpecData). s.max) (map (λ (l : Lane). l.spec) lanes)
most_alike [] = refl
most_alike (lane ∷ lanes) = ap (λ ms. lane.spec.max ∷ ms) (most_alike lanes)

all_run : HaveLens → (ring : ℕ) (lanes : List Lane) (pieces : List PieceData) → 0 < ring → AreDistinctChannels (map lane_id lanes) → AreNamed lanes pieces
    → All IsLane lanes → All (IsWhole pieces) lanes
    → Runs ring (opening_world (map (λ (l : Lane). l.spec) lanes)) (events_of (map recorded_lane lanes) pieces) (world (map ended_lane lanes) pieces)
all_run lens ring lanes pieces some distinct named good whole =
    let begun = λ (l : Lane). opening_channel l.spec in
    let closed = λ (l : Lane). closed_lane l 0 in
    let moves = λ (l : Lane). moves_of (recorded_lane l) in
    let closes = λ (l : Lane). close_of (recorded_lane l) ∷ [] in
    let first : Runs ring (world (map begun lanes) []) (flat_map moves lanes) (world (map moved_lane lanes) []) =
    each_lane ring begun moved_lane moves IsLane (lane_moved ring) lanes [] [] good in
    let second : Runs ring (world (map moved_lane lanes) []) (flat_map closes lanes) (world (map closed lanes) []) =
    each_lane ring moved_lane closed closes IsLane (λ l is. lane_closed ring l) lanes [] [] good in
    let third : Runs ring (world (map closed lanes) []) (flat_map passes_of pieces) (world (map (after pieces) lanes) pieces) =
    passed lens ring lanes pieces pieces [] some distinct named whole refl in
    let same : map (after pieces) lanes ≡ map ended_lane lanes =
    map_same (after pieces) ended_lane lanes (λ j l is. ap (λ (ps : List PieceData). closed_lane l (length ps))
    (all_there (IsWhole pieces) lanes j l whole is)) in
    let last : Runs ring (world (map closed lanes) []) (flat_map passes_of pieces) (world (map ended_lane lanes) pieces) =
    subst (λ cs. Runs ring (world (map closed lanes) []) (flat_map passes_of pieces) (world cs pieces)) same third in
    let all = one_after_another ring (world (map begun lanes) []) (world (map moved_lane lanes) []) (world (map ended_lane lanes) pieces)
    (flat_map moves lanes) (flat_map closes lanes ++ flat_map passes_of pieces) first
    (one_after_another ring (world (map moved_lane lanes) []) (world (map closed lanes) []) (world (map ended_lane lanes) pieces) (flat_map closes lanes)
    (flat_map passes_of pieces) second last) in
    let events : flat_map moves lanes ++ (flat_map closes lanes ++ flat_map passes_of pieces) ≡ events_of (map recorded_lane lanes) pieces =
    ap (λ es. es ++ (flat_map closes lanes ++ flat_map passes_of pieces)) (sym (moves_alike lanes))
    ∙ ap (λ es. flat_map moves_of (map recorded_lane lanes) ++ (es ++ flat_map passes_of pieces)) (sym (closes_alike lanes)) in
    subst (λ es. Runs ring (opening_world (map (λ (l : Lane). l.spec) lanes)) es (world (map ended_lane lanes) pieces)) events
    (subst (λ cs. Runs ring (world cs []) (flat_map moves lanes ++ (flat_map closes lanes ++ flat_map passes_of pieces)) (world (map ended_lane lanes) pieces))
    (sym (begun_alike lanes)) all)

-- a piece of one of the channels is of one of the lanes
named_lane : (lanes : List Lane) (p : PieceData) → Any (λ (c : RecordedChannel). c.settings.channel ≡ channel_of p) (map recorded_lane lanes)
    → (k : ℕ) × (lane : Lane) × (slice_get lanes k ≡ Some lane) × (channel_of p ≡ lane_id lane)
named_lane lanes p any =
    let cs = map recorded_lane lanes in
    let from = map_there recorded_lane lanes any.0 any.1 (slice_get_read cs (length cs) any.0 any.1 refl any.2 (sym any.3)) in
    (any.0, from.0, from.1, sym any.4 ∙ ap (λ (c : RecordedChannel). c.settings.channel) (sym from.2))

lane_filter : (lane : Lane) → IsLane lane → IsFilter lane.spec.program
lane_filter lane is =
    let from = map_there (λ (v : Version). v.program) lane.history 0 lane.spec.program is.program_is in
    subst IsFilter from.2 (record {
      valid = all_there (λ (v : Version). Valid v.program) lane.history 0 from.0 is.past.valid from.1;
      in_range = all_there (λ (v : Version). AreInRange v.program) lane.history 0 from.0 is.past.in_range from.1;
    })

module _ (lens : HaveLens) (ring : ℕ) (pieces : List PieceData) (some : 0 < ring) where
  of_lanes : (lanes : List Lane) → All IsLane lanes → All (IsWhole pieces) lanes → AreNamed lanes pieces → AreSpecs (map (λ (l : Lane). l.spec) lanes)
      → IsRunOfWorld ring (map (λ (l : Lane). l.spec) lanes) (map recorded_lane lanes) pieces
  of_lanes lanes good whole named specs =
      let run = all_run lens ring lanes pieces some (subst AreDistinctChannels (sym (ids_alike lanes)) specs.distinct) named good whole in
      record {
        are_specs = specs;
        filters = All-map (λ (s : SpecData). IsFilter s.program) (λ (l : Lane). l.spec) lanes
            (all_from_there (λ (l : Lane). IsFilter l.spec.program) lanes (λ k l is. lane_filter l (all_there IsLane lanes k l good is)));
        replies = run.0;
        new = world (map ended_lane lanes) pieces;
        run = run.1;
        channels_are = ended_alike lanes;
        most_are = most_alike lanes;
        ended = All-map IsEndedChannel ended_lane lanes (all_from_there (λ (l : Lane). IsEndedChannel (ended_lane l)) lanes
            (λ k l is. record { closed = refl; whole = refl }));
        sent = All-map (λ (c : ChannelState). c.sent ≡ c.written) ended_lane lanes
            (all_from_there (λ (l : Lane). (ended_lane l).sent ≡ (ended_lane l).written) lanes (λ k l is. refl));
        out_is = refl;
      }

  -- a recording is a run
  pub tied : (specs : List SpecData) (channels : List RecordedChannel) → AreSpecs specs → AllZip IsOfSpec specs channels → AreOfChannels channels pieces
      → IsRunOfWorld ring specs channels pieces
  tied specs channels are zip of_channels =
      let ls = lanes_of specs channels pieces zip of_channels.each in
      let named : AreNamed ls.lanes pieces = all_from_there (λ (p : PieceData). (k : ℕ) × (lane : Lane) × (slice_get ls.lanes k ≡ Some lane)
      × (channel_of p ≡ lane_id lane)) pieces
      (λ k p is. named_lane ls.lanes p (subst (λ cs. Any (λ (c : RecordedChannel). c.settings.channel ≡ channel_of p) cs) (sym ls.channels_are)
      (all_there (λ (q : PieceData). Any (λ (c : RecordedChannel). c.settings.channel ≡ channel_of q) channels) pieces k p of_channels.named is))) in
      subst (λ ss. IsRunOfWorld ring ss channels pieces) ls.specs_are
      (subst (λ cs. IsRunOfWorld ring (map (λ (l : Lane). l.spec) ls.lanes) cs pieces) ls.channels_are
      (of_lanes ls.lanes ls.each ls.whole named (subst AreSpecs (sym ls.specs_are) are)))
