-- What a run has written of each channel.
-- idea: of each channel what was written begins its pieces, and an event keeps that, for its own channel and for the
-- others; so it holds of every world that events lead to, and where all is written the beginning is the whole.
use Rattle.std.proofs.Common.{ℕ, suc, ◌≡◌, ◌≢◌, inl, inr, true, false, List, [], ◌∷◌, ◌++◌, length, Option}
use Rattle.std.proofs.Common.{None, Some, refl, sym, ◌∙◌, ap, subst, arith, map, All, cond, eq-eqb}
use Rattle.std.specs.Prelude.{slice_get, slice_set, ◌==◌, Result, Ok, Err}
use Rattle.std.specs.List.{AllZip, filter, Any}
use Rattle.std.proofs.lemmas.Bool.{cases_Bool, both_ways, eqb-true}
use Rattle.std.proofs.lemmas.List.{append-nil, append_assoc, length-append}
use Rattle.std.proofs.lemmas.List.Elements.{filter-append, All-append, All-cons, All-nil, All-map, All-weaker, All-head, All-tail}
use Rattle.std.proofs.lemmas.Option.{same_Some, none-some}
use Rattle.rec_lane.specs.Offered.{OfferedFrame, frames_of, times_of, noted_with}
use Rattle.rec_lane.specs.Parts.{BeginsList}
use Rattle.rec_lane.specs.Pieces.{LaneSettings, PieceData, channel_of, channel_pieces, pieces_so_far, ArePieces}
use Rattle.std.specs.Io.KnownBytes.{Appends}
use Rattle.rec_writer.specs.Encoding.{writer_output}
use Rattle.rec_writer.specs.Recording.{RecordedChannel, AreOfChannels, is_of}
use Rattle.rec_writer.specs.Numbers.{AreDistinctChannels}
use Rattle.rec_writer.specs.Writers.{WriterState, HasWritten, HoldsRecording}
use Rattle.rec_core.specs.declared.reply.Reply.{Reply}
use Rattle.rec_core.specs.declared.reply.Reply.TheVariants.{Took, Timed, Installed, Sent, Wrote, Closed as HasClosed}
use Rattle.rec_core.specs.declared.fault.CoreFault.{CoreFault}
use Rattle.rec_core.specs.declared.fault.CoreFault.TheVariants.{NoChannel}
use Rattle.rec_core.specs.Openings.{SpecData, AreSpecs, HaveFilters, IsFilter, channels_of_specs}
use Rattle.rec_core.specs.World.{ChannelState, WorldState, EventData, ChannelDoes, IsInOrder, WorldStep, WorldRun, produced, frame_taken}
use Rattle.rec_core.specs.World.{time_taken, program_installed, piece_sent, piece_written, channel_closed, opening_channel, opening_world}
use Rattle.rec_core.specs.World.EventData.{OfTake, OfTime, OfInstall, OfSend, OfWrite, OfClose}
use Rattle.rec_core.specs.Worlds.{CoreState, HoldsChannel, IsCutAtFront, StandsForWorld, StandsCutAt}
use Rattle.rec_core.specs.Written.{RunsFromOpening, WritesInOrder, WritesAll, IsEndedChannel, AreEnded}
use Rattle.rec_core.specs.Written.{recorded_channel, recorded_channels, IsCutShort, IsCutShortAt}
use Rattle.ch11_packet.proofs.ChangedLists.{set_cases, all_there, all_from_there}
use Rattle.rec_core.proofs.ListPlaces.{set_unseen, map_there, there_map, Any_there, distinct_at, zip_there, get_behind}
use Rattle.rec_core.proofs.ChannelsInOrder.{LaterLeave, in_order_taken, in_order_timed, in_order_installed, in_order_opening}
use Rattle.rec_lane.proofs.Beginnings.{frame_more}
use Rattle.rec_lane.proofs.Growth.{timed_grows}
use Rattle.rec_core.proofs.ChannelServing.{OfTheirChannel, BeginAll, begins_there, produced_begins, produced_is_of, produced_open, produced_closed}

-- the pieces of a channel
abbrev pub of : ℕ → List PieceData → List PieceData
of channel pieces = filter (is_of channel) pieces

-- what was written of the channel begins its pieces, and where it is open those that are certain; it
-- is as much as the channel says, and the channel is in order
pub record Sound (out : List PieceData) (c : ChannelState) : Type 0 where
  pub long : length (of c.settings.channel out) ≡ c.written
  pub begins : BeginsList (of c.settings.channel out) (channel_pieces c.settings c.offered)
  pub certain : c.closed ≡ false → BeginsList (of c.settings.channel out) (pieces_so_far c.settings c.offered)
  pub order : IsInOrder c

-- ---- a piece more

begins_next : {X : Type 0} (xs ys : List X) (x : X) → BeginsList xs ys → slice_get ys (length xs) ≡ Some x → BeginsList (xs ++ x ∷ []) ys
begins_next [] [] x b is = absurd (none-some x is)
begins_next [] (y ∷ ys) x b is = (ys, ap (λ z. z ∷ ys) (sym (same_Some y x is)))
begins_next (z ∷ zs) ys x b is =
    let r = begins_next zs (zs ++ b.0) x (b.0, refl) (subst (λ ws. slice_get ws (suc (length zs)) ≡ Some x) (sym b.1) is) in
    (r.0, ap (λ ws. z ∷ ws) r.1 ∙ b.1)

pub own_piece : (channel : ℕ) (out : List PieceData) (piece : PieceData) → channel_of piece ≡ channel
    → of channel (out ++ piece ∷ []) ≡ of channel out ++ piece ∷ []
own_piece channel out piece is =
    filter-append (is_of channel) out (piece ∷ [])
    ∙ ap (λ b. of channel out ++ cond b (piece ∷ []) []) (eq-eqb (channel_of piece) channel is)

pub other_piece : (channel : ℕ) (out : List PieceData) (piece : PieceData) → channel_of piece ≢ channel → of channel (out ++ piece ∷ []) ≡ of channel out
other_piece channel out piece differs = elim (cases_Bool (channel_of piece == channel)) as (λ _. of channel (out ++ piece ∷ []) ≡ of channel out) [
  | inl same ↦ absurd (differs (eqb-true (channel_of piece) channel same))
  | inr not_same ↦ filter-append (is_of channel) out (piece ∷ []) ∙ (ap (λ b. of channel out ++ cond b (piece ∷ []) []) not_same ∙ append-nil (of channel out))
]

-- ---- what an event does to a channel

-- it stays set as it was, writes pieces of that channel alone, and stays sound
record Effect (out : List PieceData) (c d : ChannelState) (more : List PieceData) : Type 0 where
  pub settings : d.settings ≡ c.settings
  pub own : All (λ (piece : PieceData). channel_of piece ≡ c.settings.channel) more
  pub sound : Sound out c → Sound (out ++ more) d

silent : (out : List PieceData) (c d e : ChannelState) (more : List PieceData) → d ≡ e → more ≡ [] → e.settings ≡ c.settings → (Sound out c → Sound out e)
    → Effect out c d more
silent out c d e more is none settings sound =
    subst (λ x. Effect out c x more) (sym is) (subst (λ ps. Effect out c e ps) (sym none) (record {
      settings = settings;
      own = All-nil (λ (piece : PieceData). channel_of piece ≡ c.settings.channel);
      sound = λ s. subst (λ ps. Sound ps e) (sym (append-nil out)) (sound s);
    }))

begins_through : (xs ys zs : List PieceData) → BeginsList xs ys → BeginsList ys zs → BeginsList xs zs
begins_through xs ys zs a b = (a.0 ++ b.0, sym (append_assoc xs a.0 b.0) ∙ (ap (λ ws. ws ++ b.0) a.1 ∙ b.1))

take_sound : BeginAll → (out : List PieceData) (c : ChannelState) (f : OfferedFrame) → c.closed ≡ false → (IsInOrder c → IsInOrder (frame_taken c f))
    → Sound out c → Sound out (frame_taken c f)
take_sound begin out c f not_closed order s =
    let written = of c.settings.channel out in
    let so_far = pieces_so_far c.settings c.offered in
    record {
      long = s.long;
      begins = begins_through written so_far _ (s.certain not_closed) (begin c.settings c.offered (f ∷ []));
      certain = λ is. begins_through written so_far _ (s.certain not_closed) (frame_more c.settings c.offered f);
      order = order s.order;
    }

noted_more : (settings : LaneSettings) (span : Option ℕ) (offered : List OfferedFrame) (counter : ℕ)
    → BeginsList (pieces_so_far settings offered) (pieces_so_far settings (noted_with span offered counter))
noted_more settings None offered counter = ([], append-nil (pieces_so_far settings offered))
noted_more settings (Some span) offered counter = let grows = timed_grows settings offered counter in (grows.0, sym grows.1)

time_sound : BeginAll → (out : List PieceData) (c : ChannelState) (counter : ℕ) → c.closed ≡ false → Sound out c → Sound out (time_taken c counter)
time_sound begin out c counter not_closed s =
    let written = of c.settings.channel out in
    let noted = noted_with c.settings.span c.offered counter in
    let certain : BeginsList written (pieces_so_far c.settings noted) =
    begins_through written (pieces_so_far c.settings c.offered) _ (s.certain not_closed) (noted_more c.settings c.settings.span c.offered counter) in
    record {
      long = s.long;
      begins = subst (λ fs. BeginsList written (channel_pieces c.settings fs)) (append-nil noted)
          (begins_through written (pieces_so_far c.settings noted) _ certain (begin c.settings noted []));
      certain = λ is. certain;
      order = in_order_timed c counter s.order;
    }

write_sound : BeginAll → (out : List PieceData) (c : ChannelState) (piece : PieceData) → channel_of piece ≡ c.settings.channel
    → slice_get (produced c) c.written ≡ Some piece → Sound out c → Sound (out ++ piece ∷ []) (piece_written c)
write_sound begin out c piece own next s =
    let mine = own_piece c.settings.channel out piece own in
    let longer = length-append (of c.settings.channel out) (piece ∷ []) in
    let count = ap (λ (ps : List PieceData). length ps) mine in
    let long = s.long in
    let at : slice_get (produced c) (length (of c.settings.channel out)) ≡ Some piece = subst (λ n. slice_get (produced c) n ≡ Some piece) (sym s.long) next in
    record {
      long = omega (arith, count, longer, long);
      begins = subst (λ ps. BeginsList ps (channel_pieces c.settings c.offered)) (sym mine)
          (begins_next (of c.settings.channel out) (channel_pieces c.settings c.offered) piece s.begins
          (begins_there (produced c) (channel_pieces c.settings c.offered) (length (of c.settings.channel out)) piece (produced_begins begin c) at));
      certain = λ is. subst (λ ps. BeginsList ps (pieces_so_far c.settings c.offered)) (sym mine)
          (begins_next (of c.settings.channel out) (pieces_so_far c.settings c.offered) piece (s.certain is)
          (subst (λ ps. slice_get ps (length (of c.settings.channel out)) ≡ Some piece) (produced_open c is) at));
      order = record { history = s.order.history; met = s.order.met; within = s.order.within; few = s.order.few };
    }

effect : LaterLeave → OfTheirChannel → BeginAll → (ring : ℕ) (out : List PieceData) (c : ChannelState) (event : EventData) (reply : Reply) (d : ChannelState)
    (more : List PieceData) → ChannelDoes ring c event reply d more → Effect out c d more
effect leave theirs begin ring out c (OfTake channel frame) (Took number version value) d more does =
    silent out c d (frame_taken c does.0) more does.8 does.9 refl (take_sound begin out c does.0 does.1 (in_order_taken c does.0 does.2 does.3))
effect leave theirs begin ring out c (OfTime channel counter) Timed d more does =
    silent out c d (time_taken c counter) more does.1 does.2 refl (time_sound begin out c counter does.0)
effect leave theirs begin ring out c (OfInstall channel program) (Installed version mark) d more does =
    silent out c d (program_installed c program) more does.4 does.5 refl
    (λ s. record { long = s.long; begins = s.begins; certain = s.certain; order = in_order_installed leave c program does.0 does.1 s.order })
effect leave theirs begin ring out c (OfSend channel) (Sent which) d more does =
    silent out c d (piece_sent c) more does.4 does.5 refl (λ s. record {
      long = s.long;
      begins = s.begins;
      certain = s.certain;
      order = record { history = s.order.history; met = s.order.met; within = s.order.within; few = s.order.few };
    })
effect leave theirs begin ring out c (OfWrite channel) (Wrote bytes) d more does =
    let own = produced_is_of theirs begin c c.written does.0 does.1 in
    subst (λ ps. Effect out c d ps) (sym does.5) (subst (λ x. Effect out c x (does.0 ∷ [])) (sym does.4) (record {
      settings = refl;
      own = All-cons (λ (piece : PieceData). channel_of piece ≡ c.settings.channel) does.0 [] own
          (All-nil (λ (piece : PieceData). channel_of piece ≡ c.settings.channel));
      sound = write_sound begin out c does.0 own does.1;
    }))
effect leave theirs begin ring out c (OfClose channel) (HasClosed offered kept) d more does =
    silent out c d (channel_closed c) more does.3 does.4 refl (λ s. record {
      long = s.long;
      begins = s.begins;
      certain = λ bad. absurd (both_ways true bad refl);
      order = record { history = s.order.history; met = s.order.met; within = s.order.within; few = s.order.few };
    })
effect leave theirs begin ring out c _ _ d more does = absurd does

none_of_other : (channel from : ℕ) (out more : List PieceData) → channel ≢ from → All (λ (piece : PieceData). channel_of piece ≡ from) more
    → of channel (out ++ more) ≡ of channel out
none_of_other channel from out [] differs own = ap (of channel) (append-nil out)
none_of_other channel from out (p ∷ ps) differs own =
    ap (of channel) (sym (append_assoc out (p ∷ []) ps))
    ∙ (none_of_other channel from (out ++ p ∷ []) ps differs (All-tail (λ (piece : PieceData). channel_of piece ≡ from) p ps own)
    ∙ other_piece channel out p (λ bad. differs (sym bad ∙ All-head (λ (piece : PieceData). channel_of piece ≡ from) p ps own)))

other_sound : (out more : List PieceData) (b : ChannelState) (from : ℕ) → b.settings.channel ≢ from → All (λ (piece : PieceData). channel_of piece ≡ from) more
    → Sound out b → Sound (out ++ more) b
other_sound out more b from differs own s =
    let same = none_of_other b.settings.channel from out more differs own in
    record {
      long = ap (λ (ps : List PieceData). length ps) same ∙ s.long;
      begins = subst (λ ps. BeginsList ps (channel_pieces b.settings b.offered)) (sym same) s.begins;
      certain = λ is. subst (λ ps. BeginsList ps (pieces_so_far b.settings b.offered)) (sym same) (s.certain is);
      order = s.order;
    }

-- ---- worlds

abbrev pub ids : WorldState → List ℕ
ids w = map (λ (c : ChannelState). c.settings.channel) w.channels

-- a piece is of one of these channels
abbrev pub Named : List ℕ → PieceData → Type 0
Named channels piece = (k : ℕ) × (slice_get channels k ≡ Some (channel_of piece))

-- each channel is sound, no two have one ID, and each piece is of one of them
pub record SoundWorld (w : WorldState) : Type 0 where
  pub distinct : AreDistinctChannels (ids w)
  pub each : (k : ℕ) (c : ChannelState) → slice_get w.channels k ≡ Some c → Sound w.out c
  pub named : All (Named (ids w)) w.out

changed : (old : WorldState) (k : ℕ) (c d : ChannelState) (more : List PieceData) → slice_get old.channels k ≡ Some c → Effect old.out c d more → SoundWorld old
    → SoundWorld (let new : WorldState = record { channels = slice_set old.channels k d; out = old.out ++ more } in new)
changed old k c d more there eff s =
    let unseen : map (λ (x : ChannelState). x.settings.channel) (slice_set old.channels k d) ≡ ids old =
    set_unseen (λ (x : ChannelState). x.settings.channel) old.channels k c d there (ap (λ (l : LaneSettings). l.channel) eff.settings) in
    let place = there_map (λ (x : ChannelState). x.settings.channel) old.channels k c there in
    record {
      distinct = subst AreDistinctChannels (sym unseen) s.distinct;
      each = λ j b is. elim (set_cases old.channels k d j b is) as (λ _. Sound (old.out ++ more) b) [
        | inl same ↦ subst (λ x. Sound (old.out ++ more) x) (sym same.1) (eff.sound (s.each k c there))
        | inr elsewhere ↦ other_sound old.out more b c.settings.channel
            (distinct_at (ids old) j k b.settings.channel c.settings.channel s.distinct
            (there_map (λ (x : ChannelState). x.settings.channel) old.channels j b elsewhere.1) place elsewhere.0)
            eff.own (s.each j b elsewhere.1)
      ];
      named = subst (λ cs. All (Named cs) (old.out ++ more)) (sym unseen)
          (All-append (Named (ids old)) old.out more s.named
          (All-weaker (λ (piece : PieceData). channel_of piece ≡ c.settings.channel) (Named (ids old)) (λ piece own. (k, place ∙ ap (λ n. Some n) (sym own)))
          more eff.own));
    }

same_world : (old new : WorldState) → new ≡ old → SoundWorld old → SoundWorld new
same_world old new same s = subst SoundWorld (sym same) s

step_sound : LaterLeave → OfTheirChannel → BeginAll → (ring : ℕ) (old : WorldState) (event : EventData) (answer : Result Reply CoreFault) (new : WorldState)
    → WorldStep ring old event answer new → SoundWorld old → SoundWorld new
step_sound leave theirs begin ring old event (Ok reply) new step s =
    same_world (record { channels = slice_set old.channels step.0 step.2; out = old.out ++ step.3 }) new step.6
    (changed old step.0 step.1 step.2 step.3 step.4.there (effect leave theirs begin ring old.out step.1 event reply step.2 step.3 step.5) s)
step_sound leave theirs begin ring old event (Err NoChannel) new step s = same_world old new step.1 s
step_sound leave theirs begin ring old event (Err fault) new step s = same_world old new step.4 s

run_sound : LaterLeave → OfTheirChannel → BeginAll → (ring : ℕ) (events : List EventData) (answers : List (Result Reply CoreFault)) (old new : WorldState)
    → WorldRun ring old events answers new → SoundWorld old → SoundWorld new
run_sound leave theirs begin ring [] [] old new run s = same_world old new run s
run_sound leave theirs begin ring [] (answer ∷ answers) old new run s = absurd run
run_sound leave theirs begin ring (event ∷ events) [] old new run s = absurd run
run_sound leave theirs begin ring (event ∷ events) (answer ∷ answers) old new run s =
    run_sound leave theirs begin ring events answers run.0 new run.2 (step_sound leave theirs begin ring old event answer run.0 run.1 s)

opening_ids : (specs : List SpecData) → map (λ (c : ChannelState). c.settings.channel) (map opening_channel specs) ≡ channels_of_specs specs
opening_ids [] = refl
opening_ids (s ∷ specs) = ap (λ cs. s.settings.channel ∷ cs) (opening_ids specs)

opening_sound : (specs : List SpecData) → AreSpecs specs → HaveFilters specs → SoundWorld (opening_world specs)
opening_sound specs are filters = record {
  distinct = subst AreDistinctChannels (sym (opening_ids specs)) are.distinct;
  each = λ k c is.
      let from = map_there opening_channel specs k c is in
      let filter = all_there (λ (s : SpecData). IsFilter s.program) specs k from.0 filters from.1 in
      subst (λ x. Sound [] x) from.2 (record {
        long = refl;
        begins = (channel_pieces from.0.settings [], refl);
        certain = λ _. (pieces_so_far from.0.settings [], refl);
        order = in_order_opening from.0 filter;
      });
  named = All-nil (Named (ids (opening_world specs)));
}

pub reached : LaterLeave → OfTheirChannel → BeginAll → (ring : ℕ) (specs : List SpecData) (new : WorldState) → RunsFromOpening ring specs new → SoundWorld new
reached leave theirs begin ring specs new r = run_sound leave theirs begin ring r.0 r.1 (opening_world specs) new r.4 (opening_sound specs r.2 r.3)

-- ---- what the laws say

pub channels_in_order : LaterLeave → OfTheirChannel → BeginAll → (ring : ℕ) (specs : List SpecData) (new : WorldState) → RunsFromOpening ring specs new
    → All IsInOrder new.channels
channels_in_order leave theirs begin ring specs new r =
    let s = reached leave theirs begin ring specs new r in
    all_from_there IsInOrder new.channels (λ k c is. (s.each k c is).order)

pub written_in_order : LaterLeave → OfTheirChannel → BeginAll → (ring : ℕ) (specs : List SpecData) (new : WorldState) → RunsFromOpening ring specs new
    → All (WritesInOrder new) new.channels
written_in_order leave theirs begin ring specs new r =
    let s = reached leave theirs begin ring specs new r in
    all_from_there (WritesInOrder new) new.channels (λ k c is. (s.each k c is).begins)

-- a beginning that is as long as the whole is the whole
begins_whole : {X : Type 0} (xs ys : List X) → BeginsList xs ys → length xs ≡ length ys → xs ≡ ys
begins_whole [] [] b same = refl
begins_whole [] (y ∷ ys) b same = absurd (omega (arith, same))
begins_whole (x ∷ xs) ys b same =
    let count = ap length b.1 in
    let rest = begins_whole xs (xs ++ b.0) (b.0, refl) (omega (arith, count, same)) in
    ap (λ zs. x ∷ zs) rest ∙ b.1

all_of : (w : WorldState) (c : ChannelState) → Sound w.out c → WritesAll w c
all_of w c s ended =
    let same = ap (λ (ps : List PieceData). length ps) (produced_closed c ended.closed) in
    let long = s.long in
    let whole = ended.whole in
    begins_whole (of c.settings.channel w.out) (channel_pieces c.settings c.offered) s.begins (omega (arith, same, long, whole))

pub written_whole : LaterLeave → OfTheirChannel → BeginAll → (ring : ℕ) (specs : List SpecData) (new : WorldState) → RunsFromOpening ring specs new
    → All (WritesAll new) new.channels
written_whole leave theirs begin ring specs new r =
    let s = reached leave theirs begin ring specs new r in
    all_from_there (WritesAll new) new.channels (λ k c is. all_of new c (s.each k c is))

pub recorded : LaterLeave → OfTheirChannel → BeginAll → (ring : ℕ) (specs : List SpecData) (new : WorldState) → RunsFromOpening ring specs new → AreEnded new
    → AreOfChannels (recorded_channels new) new.out
recorded leave theirs begin ring specs new r ended =
    let s = reached leave theirs begin ring specs new r in
    record {
      named = All-weaker (Named (ids new)) (λ (piece : PieceData). Any (λ (c : RecordedChannel). c.settings.channel ≡ channel_of piece) (recorded_channels new))
          (λ piece n.
          let from = map_there (λ (c : ChannelState). c.settings.channel) new.channels n.0 (channel_of piece) n.1 in
          Any_there (λ (c : RecordedChannel). c.settings.channel ≡ channel_of piece) (recorded_channels new) n.0 (recorded_channel from.0)
          (there_map recorded_channel new.channels n.0 from.0 from.1) from.2)
          new.out s.named;
      each = All-map (λ (c : RecordedChannel). ArePieces c.settings c.frames c.times c.history (filter (is_of c.settings.channel) new.out)) recorded_channel
          new.channels
          (all_from_there
          (λ (c : ChannelState). ArePieces c.settings (frames_of c.offered) (times_of c.offered) c.history (of c.settings.channel new.out)) new.channels
          (λ k c is.
          let sound = s.each k c is in
          (c.offered, sound.order.met, refl, sym (all_of new c sound (all_there IsEndedChannel new.channels k c ended is)), refl)));
    }

-- ---- a core

-- where each channel is ended, the output did not fail: else a piece stands in some ring
works_at_end : (size : ℕ) (before : List ℕ) (core : CoreState) (w : WorldState) → AreEnded w → StandsForWorld size (Some before) core w
    → core.writer.failed ≡ false
works_at_end size before core w ended s = elim (cases_Bool core.writer.failed) as (λ _. core.writer.failed ≡ false) [
  | inl fails ↦ (
      let i = (s.cut_at_front fails).1 in
      let z = zip_there (HoldsChannel size) core.channels w.channels i.at i.parts s.channels_are i.there in
      let q = z.2.queued in
      let whole = (all_there IsEndedChannel w.channels i.at z.0 ended z.1).whole in
      let all = ap (λ (ps : List PieceData). length ps) q.produced_is in
      let a = length-append q.gone (i.parts.ring ++ i.parts.pending) in
      let b = length-append i.parts.ring i.parts.pending in
      let first = ap (λ (ps : List PieceData). length ps) i.front in
      let written = q.written_is in
      absurd (omega (arith, whole, all, a, b, first, written)))
  | inr works ↦ works
]

-- what a writer put is a recording of the channels whose pieces it put
abbrev pub PutIsRecording : Type 0
PutIsRecording = (writer : WriterState) (before : List ℕ) (pieces : List PieceData) (channels : List RecordedChannel)
    → HasWritten (Some before) pieces [] writer → AreOfChannels channels pieces → HoldsRecording before writer channels

pub held_recording : PutIsRecording → (size : ℕ) (before : List ℕ) (core : CoreState) (w : WorldState)
    → AreEnded w → StandsForWorld size (Some before) core w → AreOfChannels (recorded_channels w) w.out
    → HoldsRecording before core.writer (recorded_channels w)
held_recording put size before core w ended s are =
    let none = s.none_cut (works_at_end size before core w ended s) in
    put core.writer before w.out (recorded_channels w) (subst (λ bytes. HasWritten (Some before) w.out bytes core.writer) none s.written) are

pub held_after : (before sent : List ℕ) (held : Option (List ℕ)) → Appends (Some before) held sent → held ≡ Some (before ++ sent)
held_after before sent None appends = absurd appends
held_after before sent (Some held) appends = ap (λ bs. Some bs) appends

-- a cut in the first piece of a channel's ring, as the world has it
short_at : (size : ℕ) (before : List ℕ) (core : CoreState) (w : WorldState) (channel : ℕ) (cut : List ℕ)
    → AllZip (HoldsChannel size) core.channels w.channels → HasWritten (Some before) w.out cut core.writer → IsCutAtFront core channel w.out cut
    → IsCutShortAt before core.writer w channel
short_at size before core w channel cut zip wrote i =
    let z = zip_there (HoldsChannel size) core.channels w.channels i.at i.parts zip i.there in
    let q = z.2.queued in
    let all : produced z.0 ≡ q.gone ++ i.piece ∷ (i.rest ++ i.parts.pending) = q.produced_is ∙ ap (λ ps. q.gone ++ (ps ++ i.parts.pending)) i.front in
    let first = ap (λ (ps : List PieceData). length ps) i.front in
    let written = q.written_is in
    let sent = q.sent_is in (
      record {
        cut = cut;
        held_is = held_after before (writer_output core.writer.version w.out ++ cut) core.writer.held wrote.held_is;
        whole_is = wrote.whole_is;
        bytes_are = wrote.bytes_is;
        at = i.at;
        channel = z.0;
        there = z.1;
        sent = omega (arith, written, sent, first);
        piece = i.piece;
        next = subst (λ n. slice_get (produced z.0) n ≡ Some i.piece) (sym q.written_is) (ap (λ ps. slice_get ps (length q.gone)) all
            ∙ get_behind q.gone i.piece (i.rest ++ i.parts.pending));
        is_cut = i.is_cut;
      },
      ap (λ (l : LaneSettings). l.channel) (sym z.2.settings_are) ∙ i.named,
    )

pub cut_short : (size : ℕ) (before : List ℕ) (core : CoreState) (w : WorldState) → StandsForWorld size (Some before) core w → core.writer.failed ≡ true
    → IsCutShort before core.writer w
cut_short size before core w s fails = (let front = s.cut_at_front fails in short_at size before core w front.0 s.cut s.channels_are s.written front.1).0

pub cut_short_at : (size : ℕ) (before : List ℕ) (core : CoreState) (w : WorldState) (channel : ℕ) → StandsCutAt size (Some before) core w channel
    → IsCutShortAt before core.writer w channel
cut_short_at size before core w channel s = short_at size before core w channel s.cut s.stands.channels_are s.written s.at_front
