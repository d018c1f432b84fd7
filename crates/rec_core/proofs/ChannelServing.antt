-- What the calls of a core's channel did to whatever channel it held.
-- idea: the parts of a channel don't say which frames it has met, so each call is shown for whatever frames and history
-- they may be of: the channel after it is that one with the frame, the version or the piece of the call.
use Rattle.std.proofs.Common.{ℕ, suc, zero, ◌+◌, ◌≡◌, ◌≢◌, ◌<◌, ◌⊎◌, inl, inr, true, false, if◌then◌else◌, List, []}
use Rattle.std.proofs.Common.{◌∷◌, ◌++◌, length, Option, None, Some, refl, sym, ◌∙◌, ap, subst, arith, All}
use Rattle.std.specs.Prelude.{slice_get}
use Rattle.std.proofs.lemmas.List.{append_assoc, append-nil, length-append}
use Rattle.std.proofs.lemmas.Bool.{cases_Bool}
use Rattle.std.proofs.lemmas.Option.{none-some}
use Rattle.bpf_insn.specs.declared.insn.Insn.{Insn}
use Rattle.bpf_machine.specs.Machine.{Runs}
use Rattle.eth_frame.specs.Frame.{FrameData, view}
use Rattle.rec_channel.specs.declared.limits.TheConstants.{MAX_VERSIONS}
use Rattle.rec_channel.specs.Slots.{SlotState, with_version, one_frame_later, programs_in}
use Rattle.rec_lane.specs.Offered.{OfferedFrame, noted_with}
use Rattle.rec_lane.specs.Parts.{BeginsList}
use Rattle.rec_lane.specs.Pieces.{LaneSettings, PieceData, channel_of, channel_pieces, pieces_so_far}
use Rattle.rec_lane.specs.Lanes.{LaneState, HasMet, offered_now, running}
use Rattle.rec_core.specs.declared.reply.Reply.{Reply}
use Rattle.rec_core.specs.declared.reply.Reply.TheVariants.{Timed, Installed, Sent, Wrote}
use Rattle.rec_core.specs.declared.fault.CoreFault.{CoreFault}
use Rattle.rec_core.specs.declared.fault.CoreFault.TheVariants.{Output}
use Rattle.rec_core.specs.Openings.{IsFilter}
use Rattle.rec_core.specs.World.{ChannelState, MeetsLast, HasPacketLen, ChannelDoes, ChannelRefuses, produced, which_of}
use Rattle.rec_core.specs.World.{frame_taken, time_taken, program_installed, piece_sent, piece_written}
use Rattle.rec_core.specs.World.EventData.{OfTake, OfTime, OfInstall, OfSend, OfWrite}
use Rattle.rec_core.specs.Worlds.{ChannelParts, HasLane, AreQueued, HoldsChannel, AreHeldParts}
use Rattle.rec_core.specs.Steps.{DoesEvent, RefusesEvent, Offers, NotOffered, Notes, lane_ready}
use Rattle.ch11_packet.proofs.ChangedLists.{all_there}
use Rattle.rec_core.proofs.ListPlaces.{get_behind}
use Rattle.rec_core.proofs.ChannelsInOrder.{IsOfHistory, LaterLeave, last_is_of_history, running_is, in_order_taken, in_order_timed, in_order_installed}
use Rattle.rec_lane.proofs.Noting.{with_length}

-- ---- what a channel holds

pub produced_open : (c : ChannelState) → c.closed ≡ false → produced c ≡ pieces_so_far c.settings c.offered
produced_open c is = ap (λ b. if b then channel_pieces c.settings c.offered else pieces_so_far c.settings c.offered) is

pub produced_closed : (c : ChannelState) → c.closed ≡ true → produced c ≡ channel_pieces c.settings c.offered
produced_closed c is = ap (λ b. if b then channel_pieces c.settings c.offered else pieces_so_far c.settings c.offered) is

-- the lane of a channel that has one
abbrev HasThisLane : LaneState → ChannelState → Type 0
HasThisLane lane c = (c.closed ≡ false) × (lane.settings ≡ c.settings) × HasMet lane c.offered

its_lane : (parts : ChannelParts) (c : ChannelState) (size : ℕ) (lane : LaneState) → parts.lane ≡ Some lane → HoldsChannel size parts c → HasThisLane lane c
its_lane parts c size lane is h = subst (λ l. HasLane l c) is h.lane_is

same_lane : (l : Option LaneState) (c d : ChannelState) → d.closed ≡ c.closed → d.settings ≡ c.settings → d.offered ≡ c.offered → HasLane l c → HasLane l d
same_lane None c d closed settings offered h = closed ∙ h
same_lane (Some lane) c d closed settings offered h = (closed ∙ h.0, h.1 ∙ sym settings, subst (λ fs. HasMet lane fs) (sym offered) h.2)

met_ready : (lane : LaneState) (offered : List OfferedFrame) → HasMet lane offered → HasMet (lane_ready lane) offered
met_ready lane offered m = record {
  offered_is = m.offered_is;
  kept_is = m.kept_is;
  counter_is = m.counter_is;
  current_is = m.current_is;
  pending_is = m.pending_is;
}

slot_offered : (parts : ChannelParts) (c : ChannelState) (size : ℕ) → HoldsChannel size parts c → parts.slot.offered ≡ length c.offered
slot_offered parts c size h = ap (λ (s : SlotState). s.offered) h.slot_is

-- ---- queues

-- further pieces are pending
queued_more : (c d : ChannelState) (ring pending given : List PieceData) → produced d ≡ produced c ++ given → d.written ≡ c.written → d.sent ≡ c.sent
    → AreQueued c ring pending → AreQueued d ring (pending ++ given)
queued_more c d ring pending given more written sent q = record {
  gone = q.gone;
  produced_is = more ∙ (ap (λ ps. ps ++ given) q.produced_is ∙ (append_assoc q.gone (ring ++ pending) given
      ∙ ap (λ ps. q.gone ++ ps) (append_assoc ring pending given)));
  written_is = written ∙ q.written_is;
  sent_is = sent ∙ q.sent_is;
}

-- ---- a frame

slot_later : (c : ChannelState) (f : OfferedFrame) → (let s : SlotState = record { history = c.history; offered = length c.offered + 1; max = c.max } in s)
    ≡ record { history = c.history; offered = length (c.offered ++ f ∷ []); max = c.max }
slot_later c f = ap (λ n. let s : SlotState = record { history = c.history; offered = n; max = c.max } in s) (sym (length-append c.offered (f ∷ [])))

same_frame : (lane : LaneState) (version : ℕ) (program ran : List Insn) (frame : FrameData) (value number : ℕ)
    → lane.offered ≡ number → running lane.current version program ≡ ran
    → offered_now lane version program frame value ≡ (let f : OfferedFrame =
    record { number = number; frame = frame; version = version; program = ran; value = value; times = [] } in f)
same_frame lane version program ran frame value number counted same =
    ap (λ n. let f : OfferedFrame =
    record { number = n; frame = frame; version = version; program = running lane.current version program; value = value; times = [] } in
    f) counted
    ∙ ap (λ p. let f : OfferedFrame = record { number = number; frame = frame; version = version; program = p; value = value; times = [] } in f) same

pub take_done : (size channel : ℕ) (old : ChannelParts) (lane met : LaneState) (drawn : SlotState) (pending : List PieceData) (frame : FrameData)
    (reply : Reply)
    → old.lane ≡ Some lane → lane.offered ≢ old.max
    → Offers old.slot drawn lane met old.pending pending frame reply
    → DoesEvent size old (record old { slot = drawn; lane = Some met; pending = pending }) (OfTake channel frame) reply []
take_done size channel old lane met drawn pending frame reply is room o c h =
    let has = its_lane old c size lane is h in
    let count : lane.offered ≡ length c.offered = has.2.offered_is in
    let below : length c.offered < c.max = let m = h.max_is in let within = h.in_order.within in omega (arith, count, m, within, room) in
    let there : slice_get (programs_in c.history) o.version ≡ Some o.program =
    subst (λ (s : SlotState). slice_get (programs_in s.history) o.version ≡ Some o.program) h.slot_is o.program_is in
    let same : running lane.current o.version o.program ≡ o.program =
    running_is c.history lane.current o.version o.program
    (subst (λ v. IsOfHistory c.history v) (sym has.2.current_is) (last_is_of_history c.history c.offered h.in_order.met)) there in
    let f : OfferedFrame = record { number = length c.offered; frame = frame; version = o.version; program = o.program; value = o.value; times = [] } in
    let is_f : offered_now (lane_ready lane) o.version o.program frame o.value ≡ f =
    same_frame (lane_ready lane) o.version o.program o.program frame o.value (length c.offered) count same in
    let meets : MeetsLast c f = record {
      number_is = refl;
      last = o.last ∙ ap (λ (s : SlotState). length s.history) h.slot_is;
      program_is = there;
      ran = (o.ran.0, subst (λ p. Runs p (view frame) o.ran.0 o.value) same o.ran.1);
      untimed = refl;
    } in
    let ready = met_ready lane c.offered has.2 in
    let now : HasMet met (c.offered ++ f ∷ []) = subst (λ (x : OfferedFrame). HasMet met (c.offered ++ x ∷ [])) is_f (o.meets c.offered ready) in
    let made : pieces_so_far lane.settings (c.offered ++ f ∷ []) ≡ pieces_so_far lane.settings c.offered ++ o.given =
    subst (λ (x : OfferedFrame). pieces_so_far lane.settings (c.offered ++ x ∷ []) ≡ pieces_so_far lane.settings c.offered ++ o.given) is_f
    (o.makes c.offered ready) in
    let more : produced (frame_taken c f) ≡ produced c ++ o.given =
    produced_open (frame_taken c f) has.0
    ∙ (ap (λ s. pieces_so_far s (c.offered ++ f ∷ [])) (sym has.1)
    ∙ (made
    ∙ (ap (λ s. pieces_so_far s c.offered ++ o.given) has.1
    ∙ ap (λ ps. ps ++ o.given) (sym (produced_open c has.0))))) in (
      frame_taken c f,
      (let r = o.reply_is in let number = slot_offered old c size h in
          subst (λ (answer : Reply). ChannelDoes size c (OfTake channel frame) answer (frame_taken c f) []) (sym r)
          (f, has.0, below, meets, refl, number, refl, refl, refl, refl)),
      record {
        settings_are = h.settings_are;
        max_is = h.max_is;
        slot_is = o.counted ∙ (ap one_frame_later h.slot_is ∙ slot_later c f);
        lane_is = (has.0, o.settings_stay ∙ has.1, now);
        size_is = h.size_is;
        queued = subst (λ ps. AreQueued (frame_taken c f) old.ring ps) (sym o.added)
            (queued_more c (frame_taken c f) old.ring old.pending o.given more refl refl h.queued);
        in_order = in_order_taken c f below meets h.in_order;
      },
    )

-- the parts hold the channel also with its lane's next buffer
still_held : (size : ℕ) (old : ChannelParts) (c : ChannelState) (lane met : LaneState) (drawn : SlotState) (pending : List PieceData) → old.lane ≡ Some lane
    → drawn ≡ old.slot → (met ≡ lane) ⊎ (met ≡ lane_ready lane) → pending ≡ old.pending → HoldsChannel size old c
    → HoldsChannel size (record old { slot = drawn; lane = Some met; pending = pending }) c
still_held size old c lane met drawn pending is slot either same h =
    let has = its_lane old c size lane is h in
    let now : HasThisLane met c = elim either as (λ _. HasThisLane met c) [
      | inl stays ↦ subst (λ (l : LaneState). HasThisLane l c) (sym stays) has
      | inr ready ↦ subst (λ (l : LaneState). HasThisLane l c) (sym ready) (has.0, has.1, met_ready lane c.offered has.2)
    ] in
    record {
      settings_are = h.settings_are;
      max_is = h.max_is;
      slot_is = slot ∙ h.slot_is;
      lane_is = now;
      size_is = h.size_is;
      queued = subst (λ ps. AreQueued c old.ring ps) (sym same) h.queued;
      in_order = h.in_order;
    }

pub take_refused : (size channel : ℕ) (old : ChannelParts) (lane met : LaneState) (drawn : SlotState) (pending : List PieceData) (frame : FrameData)
    (fault : CoreFault)
    → old.lane ≡ Some lane → lane.offered ≢ old.max
    → NotOffered old.slot drawn lane met old.pending pending fault
    → RefusesEvent size old (record old { slot = drawn; lane = Some met; pending = pending }) (OfTake channel frame) fault
take_refused size channel old lane met drawn pending frame fault is room n c h =
    let has = its_lane old c size lane is h in
    let count : lane.offered ≡ length c.offered = has.2.offered_is in
    let below : length c.offered < c.max = let m = h.max_is in let within = h.in_order.within in omega (arith, count, m, within, room) in (
      subst (λ (e : CoreFault). ChannelRefuses size c (OfTake channel frame) e) (sym n.fault_is) (has.0, below),
      still_held size old c lane met drawn pending is n.slot_stays n.lane_stays n.pending_stays h,
    )

-- ---- a time mark

pub time_done : (size channel : ℕ) (old : ChannelParts) (lane met : LaneState) (pending : List PieceData) (counter : ℕ) (reply : Reply)
    → old.lane ≡ Some lane → Notes lane met old.pending pending counter reply
    → DoesEvent size old (record old { lane = Some met; pending = pending }) (OfTime channel counter) reply []
time_done size channel old lane met pending counter reply is n c h =
    let has = its_lane old c size lane is h in
    let noted = noted_with c.settings.span c.offered counter in
    let ready = met_ready lane c.offered has.2 in
    let spans : lane.settings.span ≡ c.settings.span = ap (λ (s : LaneSettings). s.span) has.1 in
    let now : HasMet met noted = subst (λ s. HasMet met (noted_with s c.offered counter)) spans (n.meets c.offered ready) in
    let made : pieces_so_far lane.settings noted ≡ pieces_so_far lane.settings c.offered ++ n.given =
    subst (λ s. pieces_so_far lane.settings (noted_with s c.offered counter) ≡ pieces_so_far lane.settings c.offered ++ n.given) spans
    (n.makes c.offered ready) in
    let more : produced (time_taken c counter) ≡ produced c ++ n.given =
    produced_open (time_taken c counter) has.0
    ∙ (ap (λ s. pieces_so_far s noted) (sym has.1)
    ∙ (made
    ∙ (ap (λ s. pieces_so_far s c.offered ++ n.given) has.1
    ∙ ap (λ ps. ps ++ n.given) (sym (produced_open c has.0))))) in
    let count = with_length c.settings.span c.offered counter in (
      time_taken c counter,
      subst (λ (answer : Reply). ChannelDoes size c (OfTime channel counter) answer (time_taken c counter) []) (sym n.reply_is) (has.0, refl, refl),
      record {
        settings_are = h.settings_are;
        max_is = h.max_is;
        slot_is = h.slot_is ∙ ap (λ k. let s : SlotState = record { history = c.history; offered = k; max = c.max } in s) (sym count);
        lane_is = (has.0, n.settings_stay ∙ has.1, now);
        size_is = h.size_is;
        queued = subst (λ ps. AreQueued (time_taken c counter) old.ring ps) (sym n.added)
            (queued_more c (time_taken c counter) old.ring old.pending n.given more refl refl h.queued);
        in_order = in_order_timed c counter h.in_order;
      },
    )

pub time_refused : (size channel : ℕ) (old : ChannelParts) (lane met : LaneState) (pending : List PieceData) (counter : ℕ) (fault : CoreFault)
    → old.lane ≡ Some lane → NotOffered old.slot old.slot lane met old.pending pending fault
    → RefusesEvent size old (record old { lane = Some met; pending = pending }) (OfTime channel counter) fault
time_refused size channel old lane met pending counter fault is n c h =
    let has = its_lane old c size lane is h in (
      subst (λ (e : CoreFault). ChannelRefuses size c (OfTime channel counter) e) (sym n.fault_is) has.0,
      still_held size old c lane met old.slot pending is refl n.lane_stays n.pending_stays h,
    )

-- without a span a time mark changes nothing
pub time_idle : (size channel : ℕ) (old : ChannelParts) (lane : LaneState) (counter : ℕ) → old.lane ≡ Some lane → old.settings.span ≡ None
    → DoesEvent size old old (OfTime channel counter) Timed []
time_idle size channel old lane counter is none c h =
    let has = its_lane old c size lane is h in
    let spanless : c.settings.span ≡ None = ap (λ (s : LaneSettings). s.span) (sym h.settings_are) ∙ none in
    let same : noted_with c.settings.span c.offered counter ≡ c.offered = ap (λ s. noted_with s c.offered counter) spanless in
    (c, (has.0, sym (ap (λ fs. record c { offered = fs }) same), refl), h)

-- ---- a program

pub install_done : LaterLeave → (size channel : ℕ) (old : ChannelParts) (slot : SlotState) (program : List Insn) (version mark : ℕ)
    → length old.slot.history < MAX_VERSIONS → IsFilter program → version ≡ length old.slot.history → mark ≡ old.slot.offered
    → slot ≡ with_version old.slot program
    → DoesEvent size old (record old { slot = slot }) (OfInstall channel program) (Installed version mark) []
install_done leave size channel old slot program version mark room filter placed marked added c h =
    let count : length old.slot.history ≡ length c.history = ap (λ (s : SlotState). length s.history) h.slot_is in
    let below : length c.history < MAX_VERSIONS = omega (arith, count, room) in (
      program_installed c program,
      (below, filter, placed ∙ count, marked ∙ slot_offered old c size h, refl, refl),
      record {
        settings_are = h.settings_are;
        max_is = h.max_is;
        slot_is = added ∙ ap (λ s. with_version s program) h.slot_is;
        lane_is = same_lane old.lane c (program_installed c program) refl refl refl h.lane_is;
        size_is = h.size_is;
        queued = record { gone = h.queued.gone; produced_is = h.queued.produced_is; written_is = h.queued.written_is; sent_is = h.queued.sent_is };
        in_order = in_order_installed leave c program below filter h.in_order;
      },
    )

-- ---- a piece sent

pub send_done : (size channel : ℕ) (old : ChannelParts) (piece : PieceData) (rest : List PieceData) → old.pending ≡ piece ∷ rest → length old.ring < old.places
    → DoesEvent size old (record old { ring = old.ring ++ piece ∷ []; pending = rest }) (OfSend channel) (Sent (which_of piece)) []
send_done size channel old piece rest first room c h =
    let q = h.queued in
    let all : produced c ≡ (q.gone ++ old.ring) ++ piece ∷ rest =
    q.produced_is ∙ (ap (λ ps. q.gone ++ (old.ring ++ ps)) first ∙ sym (append_assoc q.gone old.ring (piece ∷ rest))) in
    let place : length (q.gone ++ old.ring) ≡ c.sent = length-append q.gone old.ring ∙ sym q.sent_is in
    let next : slice_get (produced c) c.sent ≡ Some piece =
    subst (λ n. slice_get (produced c) n ≡ Some piece) place (ap (λ ps. slice_get ps (length (q.gone ++ old.ring))) all
    ∙ get_behind (q.gone ++ old.ring) piece rest) in
    let longer = length-append old.ring (piece ∷ []) in
    let o = h.in_order in (
      piece_sent c,
      (piece, next, (let s = q.sent_is in let w = q.written_is in let e = h.size_is in omega (arith, s, w, e, room)), refl, refl, refl),
      record {
        settings_are = h.settings_are;
        max_is = h.max_is;
        slot_is = h.slot_is;
        lane_is = same_lane old.lane c (piece_sent c) refl refl refl h.lane_is;
        size_is = h.size_is;
        queued = record {
          gone = q.gone;
          produced_is = q.produced_is ∙ ap (λ ps. q.gone ++ ps) (ap (λ ps. old.ring ++ ps) first ∙ sym (append_assoc old.ring (piece ∷ []) rest));
          written_is = q.written_is;
          sent_is = let s = q.sent_is in omega (arith, s, longer);
        };
        in_order = record { history = o.history; met = o.met; within = o.within; few = o.few };
      },
    )

-- ---- a piece written

pub write_done : (size channel : ℕ) (old : ChannelParts) (piece : PieceData) (bytes : ℕ) (rest : List PieceData) → old.ring ≡ piece ∷ rest
    → HasPacketLen piece bytes
    → DoesEvent size old (record old { ring = rest }) (OfWrite channel) (Wrote bytes) (piece ∷ [])
write_done size channel old piece bytes rest first long c h =
    let q = h.queued in
    let all : produced c ≡ q.gone ++ piece ∷ (rest ++ old.pending) = q.produced_is ∙ ap (λ ps. q.gone ++ (ps ++ old.pending)) first in
    let next : slice_get (produced c) c.written ≡ Some piece =
    subst (λ n. slice_get (produced c) n ≡ Some piece) (sym q.written_is) (ap (λ ps. slice_get ps (length q.gone)) all
    ∙ get_behind q.gone piece (rest ++ old.pending)) in
    let len = ap (λ (ps : List PieceData). length ps) first in
    let longer = length-append q.gone (piece ∷ []) in
    let s = q.sent_is in
    let w = q.written_is in
    let o = h.in_order in (
      piece_written c,
      (piece, next, omega (arith, s, w, len), long, refl, refl),
      record {
        settings_are = h.settings_are;
        max_is = h.max_is;
        slot_is = h.slot_is;
        lane_is = same_lane old.lane c (piece_written c) refl refl refl h.lane_is;
        size_is = h.size_is;
        queued = record {
          gone = q.gone ++ piece ∷ [];
          produced_is = all ∙ sym (append_assoc q.gone (piece ∷ []) (rest ++ old.pending));
          written_is = omega (arith, w, longer);
          sent_is = omega (arith, s, len, longer);
        };
        in_order = record { history = o.history; met = o.met; within = o.within; few = o.few };
      },
    )

pub write_failed : (size channel : ℕ) (old : ChannelParts) (piece : PieceData) (rest : List PieceData) → old.ring ≡ piece ∷ rest
    → RefusesEvent size old old (OfWrite channel) Output
write_failed size channel old piece rest first c h =
    let len = ap (λ (ps : List PieceData). length ps) first in
    let s = h.queued.sent_is in
    let w = h.queued.written_is in
    (omega (arith, s, w, len), h)

-- each piece of a channel is of it
abbrev pub OfTheirChannel : Type 0
OfTheirChannel = (settings : LaneSettings) (offered : List OfferedFrame)
    → All (λ (piece : PieceData). channel_of piece ≡ settings.channel) (channel_pieces settings offered)

-- and the certain ones begin all
abbrev pub BeginAll : Type 0
BeginAll = (settings : LaneSettings) (offered more : List OfferedFrame)
    → BeginsList (pieces_so_far settings offered) (channel_pieces settings (offered ++ more))

pub produced_begins : BeginAll → (c : ChannelState) → BeginsList (produced c) (channel_pieces c.settings c.offered)
produced_begins begin c = elim (cases_Bool c.closed) as (λ _. BeginsList (produced c) (channel_pieces c.settings c.offered)) [
  | inl closed ↦ ([], append-nil (produced c) ∙ produced_closed c closed)
  | inr not_closed ↦ (
      let b = begin c.settings c.offered [] in
      (b.0, ap (λ ps. ps ++ b.0) (produced_open c not_closed) ∙ (b.1 ∙ ap (channel_pieces c.settings) (append-nil c.offered))))
]

get_more : {X : Type 0} (xs ys : List X) (k : ℕ) (x : X) → slice_get xs k ≡ Some x → slice_get (xs ++ ys) k ≡ Some x
get_more [] ys k x is = absurd (none-some x is)
get_more (z ∷ zs) ys zero x is = is
get_more (z ∷ zs) ys (suc k) x is = get_more zs ys k x is

-- what stands in a list that begins another stands there in both
pub begins_there : {X : Type 0} (xs ys : List X) (k : ℕ) (x : X) → BeginsList xs ys → slice_get xs k ≡ Some x → slice_get ys k ≡ Some x
begins_there xs ys k x b is = subst (λ zs. slice_get zs k ≡ Some x) b.1 (get_more xs b.0 k x is)

pub produced_is_of : OfTheirChannel → BeginAll → (c : ChannelState) (k : ℕ) (piece : PieceData) → slice_get (produced c) k ≡ Some piece
    → channel_of piece ≡ c.settings.channel
produced_is_of theirs begin c k piece is =
    all_there (λ (p : PieceData). channel_of p ≡ c.settings.channel) (channel_pieces c.settings c.offered) k piece (theirs c.settings c.offered)
    (begins_there (produced c) (channel_pieces c.settings c.offered) k piece (produced_begins begin c) is)

-- the first piece in the ring is of the channel
pub front_is_of : OfTheirChannel → BeginAll → (parts : ChannelParts) (piece : PieceData) (rest : List PieceData) → AreHeldParts parts
    → parts.ring ≡ piece ∷ rest → channel_of piece ≡ parts.settings.channel
front_is_of theirs begin parts piece rest (size, c, h) first =
    let q = h.queued in
    let all : produced c ≡ q.gone ++ piece ∷ (rest ++ parts.pending) = q.produced_is ∙ ap (λ ps. q.gone ++ (ps ++ parts.pending)) first in
    produced_is_of theirs begin c (length q.gone) piece (ap (λ ps. slice_get ps (length q.gone)) all ∙ get_behind q.gone piece (rest ++ parts.pending))
    ∙ ap (λ (s : LaneSettings). s.channel) (sym h.settings_are)
