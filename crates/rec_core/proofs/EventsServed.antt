-- What a channel's calls say together: of a send, of a take, and of each event.
use Rattle.std.proofs.Common.{ℕ, ◌≡◌, ◌≢◌, ◌≤◌, ◌<◌, inl, inr, Bool, true, false, List, [], ◌∷◌, ◌++◌, length, Some, Result, Ok, Err, refl, sym, ◌∙◌, ap, subst}
use Rattle.std.specs.Prelude.{IfOk, IfErr, IsTrue, ◌↔◌}
use Rattle.std.proofs.lemmas.Bool.{both_ways, cases_lt}
use Rattle.bpf_insn.specs.declared.insn.Insn.{Insn}
use Rattle.eth_frame.specs.Frame.{FrameData}
use Rattle.rec_channel.specs.Slots.{SlotState}
use Rattle.rec_lane.specs.Lanes.{LaneState}
use Rattle.rec_lane.specs.Pieces.{PieceData}
use Rattle.rec_writer.specs.Writers.{WriterState, PutsWhole}
use Rattle.rec_core.specs.declared.reply.Reply.{Reply}
use Rattle.rec_core.specs.declared.reply.Reply.TheVariants.{Took, Timed, Installed, Sent, Wrote, Closed as HasClosed}
use Rattle.rec_core.specs.declared.reply.Which.{Which}
use Rattle.rec_core.specs.declared.fault.CoreFault.{CoreFault}
use Rattle.rec_core.specs.declared.fault.CoreFault.TheVariants.{NoChannel, Closed, RingFull, NothingToSend}
use Rattle.rec_core.specs.declared.fault.CoreFault.TheVariants.{NothingToWrite, VersionsFull, CountFull, Output, Memory}
use Rattle.rec_core.specs.Rings.{RingState, with_piece}
use Rattle.rec_core.specs.World.{ChannelState, EventData, ChannelDoes, ChannelRefuses, which_of}
use Rattle.rec_core.specs.World.EventData.{OfTake, OfTime, OfInstall, OfSend, OfWrite, OfClose}
use Rattle.rec_core.specs.Worlds.{ChannelParts, AreHeldParts, WritesOnlyWhileItWorks}
use Rattle.rec_core.specs.Steps.{DoesEvent, RefusesEvent, AnswersEvent, Writes, FailsAtPiece, LeavesWriter, Serves, Offers, NotOffered, Notes}
use Rattle.rec_core.proofs.ChannelServing.{take_done, take_refused, time_done, time_refused, send_done}
use Rattle.rec_core.proofs.Writing.{ring_of}
use Rattle.rec_core.proofs.WorldSteps.{writer_refused}

-- ---- a send

pub not_full : (full : Bool) (len places : ℕ) → IsTrue full ↔ (places ≤ len) → full ≡ false → len < places
not_full full len places says is = elim (cases_lt len places) as (λ _. len < places) [
  | inl below ↦ below
  | inr upto ↦ absurd (both_ways full is (says.1 upto))
]

pub send_sends : (size channel : ℕ) (parts : ChannelParts) (ring : RingState) (piece : PieceData) (rest : List PieceData) (which : Which)
    → parts.pending ≡ piece ∷ rest → length parts.ring < parts.places → ring ≡ with_piece (ring_of parts) piece → which ≡ which_of piece
    → DoesEvent size parts (record parts { places = ring.places; ring = ring.pieces; pending = rest }) (OfSend channel) (Sent which) []
send_sends size channel parts ring piece rest which first room pushed is =
    subst (λ (r : RingState). DoesEvent size parts (record parts { places = r.places; ring = r.pieces; pending = rest }) (OfSend channel) (Sent which) [])
    (sym pushed)
    (subst (λ (w : Which). DoesEvent size parts (record parts { ring = parts.ring ++ piece ∷ []; pending = rest }) (OfSend channel) (Sent w) []) (sym is)
    (send_done size channel parts piece rest first room))

-- ---- a take

pub take_offers : (size channel : ℕ) (old : ChannelParts) (lane met : LaneState) (drawn : SlotState) (pending : List PieceData) (frame : FrameData)
    (result : Result Reply CoreFault)
    → old.lane ≡ Some lane → lane.offered ≢ old.max
    → IfOk result (Offers old.slot drawn lane met old.pending pending frame)
    → IfErr result (NotOffered old.slot drawn lane met old.pending pending)
    → AnswersEvent size old (record old { slot = drawn; lane = Some met; pending = pending }) (OfTake channel frame) result
take_offers size channel old lane met drawn pending frame (Ok reply) is room took refused =
    take_done size channel old lane met drawn pending frame reply is room took
take_offers size channel old lane met drawn pending frame (Err fault) is room took refused =
    take_refused size channel old lane met drawn pending frame fault is room refused

-- ---- a time mark

pub time_notes : (size channel : ℕ) (old : ChannelParts) (lane met : LaneState) (pending : List PieceData) (counter : ℕ) (result : Result Reply CoreFault)
    → old.lane ≡ Some lane
    → IfOk result (Notes lane met old.pending pending counter)
    → IfErr result (λ fault. (slot : SlotState) → NotOffered slot slot lane met old.pending pending fault)
    → AnswersEvent size old (record old { lane = Some met; pending = pending }) (OfTime channel counter) result
time_notes size channel old lane met pending counter (Ok reply) is took refused = time_done size channel old lane met pending counter reply is took
time_notes size channel old lane met pending counter (Err fault) is took refused =
    time_refused size channel old lane met pending counter fault is (refused old.slot)

-- ---- an event at which nothing is written

-- the event is never refused for the output
abbrev pub NeverOutput : EventData → Type 0
NeverOutput event = (size : ℕ) (c : ChannelState) → ChannelRefuses size c event Output → ⊥

pub no_output_take : (channel : ℕ) (frame : FrameData) → NeverOutput (OfTake channel frame)
no_output_take channel frame size c r = r

pub no_output_time : (channel counter : ℕ) → NeverOutput (OfTime channel counter)
no_output_time channel counter size c r = r

pub no_output_install : (channel : ℕ) (program : List Insn) → NeverOutput (OfInstall channel program)
no_output_install channel program size c r = r

pub no_output_send : (channel : ℕ) → NeverOutput (OfSend channel)
no_output_send channel size c r = r

pub no_output_close : (channel : ℕ) → NeverOutput (OfClose channel)
no_output_close channel size c r = r

leaves : (writer : WriterState) (ring : List PieceData) (fault : CoreFault) → (fault ≡ Output → ⊥) → LeavesWriter writer writer ring fault
leaves writer ring NoChannel not = refl
leaves writer ring Closed not = refl
leaves writer ring RingFull not = refl
leaves writer ring NothingToSend not = refl
leaves writer ring NothingToWrite not = refl
leaves writer ring VersionsFull not = refl
leaves writer ring CountFull not = refl
leaves writer ring Output not = absurd (not refl)
leaves writer ring Memory not = refl

pub serves_quietly : (old new : ChannelParts) (writer : WriterState) (event : EventData) (answer : Result Reply CoreFault)
    → AreHeldParts old → NeverOutput event → ((size : ℕ) → AnswersEvent size old new event answer) → (size : ℕ) → Serves size old new writer writer event answer
serves_quietly old new writer event (Ok reply) held never answers size = ([], answers size, refl)
serves_quietly old new writer event (Err fault) (held_size, c, h) never answers size = (
  answers size,
  leaves writer old.ring fault (λ is. never held_size c
      (subst (λ (f : CoreFault). ChannelRefuses held_size c event f) is (answers held_size c h).0)),
)

-- ---- what a service says of the writer

pub fails_then : (size : ℕ) (old new : ChannelParts) (writer after : WriterState) (event : EventData) (answer : Result Reply CoreFault)
    → Serves size old new writer after event answer → answer ≡ Err Output → after.failed ≡ true
fails_then size old new writer after event answer serves is =
    let f : RefusesEvent size old new event Output × FailsAtPiece writer after old.ring = subst (λ a. Serves size old new writer after event a) is serves in
    elim f.1.fails as (λ _. after.failed ≡ true) [
      | inl part ↦ part.fails
      | inr before ↦ ap (λ (w : WriterState). w.failed) before.1 ∙ before.0
    ]

writes_nothing : (old new : WriterState) (more : List PieceData) → Writes old new more → old.failed ≡ true → new ≡ old
writes_nothing old new [] w failed = w
writes_nothing old new (piece ∷ []) w failed = absurd (both_ways old.failed w.worked failed)
writes_nothing old new (piece ∷ other ∷ more) w failed = absurd w

pub stays_failed : (size : ℕ) (old new : ChannelParts) (writer after : WriterState) (event : EventData) (answer : Result Reply CoreFault)
    → Serves size old new writer after event answer → writer.failed ≡ true → after ≡ writer
stays_failed size old new writer after event (Ok reply) serves failed = writes_nothing writer after serves.0 serves.2 failed
stays_failed size old new writer after event (Err fault) serves failed = elim (writer_refused writer after old.ring fault serves.1) as (λ _. after ≡ writer) [
  | inl same ↦ same
  | inr f ↦ elim f.fails as (λ _. after ≡ writer) [
    | inl part ↦ absurd (both_ways writer.failed part.worked failed)
    | inr before ↦ before.1
  ]
]

wrote_one : (size : ℕ) (c : ChannelState) (event : EventData) (bytes : ℕ) (d : ChannelState) (old new : WriterState) (more : List PieceData)
    → ChannelDoes size c event (Wrote bytes) d more → Writes old new more → old.failed ≡ false
wrote_one size c (OfTake channel frame) bytes d old new more does writes = absurd does
wrote_one size c (OfTime channel counter) bytes d old new more does writes = absurd does
wrote_one size c (OfInstall channel program) bytes d old new more does writes = absurd does
wrote_one size c (OfSend channel) bytes d old new more does writes = absurd does
wrote_one size c (OfWrite channel) bytes d old new more does writes =
    (let puts : PutsWhole old new does.0 = subst (λ ps. Writes old new ps) does.5 writes in puts.worked)
wrote_one size c (OfClose channel) bytes d old new more does writes = absurd does

writes_while : (old new : ChannelParts) (writer after : WriterState) (event : EventData) (reply : Reply)
    → AreHeldParts old → ((n : ℕ) → Serves n old new writer after event (Ok reply)) → WritesOnlyWhileItWorks writer.failed reply
writes_while old new writer after event (Took number version value) held serves = tt
writes_while old new writer after event Timed held serves = tt
writes_while old new writer after event (Installed version mark) held serves = tt
writes_while old new writer after event (Sent which) held serves = tt
writes_while old new writer after event (Wrote bytes) (held_size, c, h) serves =
    let s = serves held_size in
    let does = s.1 c h in
    wrote_one held_size c event bytes does.0 writer after s.0 does.1 s.2
writes_while old new writer after event (HasClosed offered kept) held serves = tt

pub works_then : (old new : ChannelParts) (writer after : WriterState) (event : EventData) (answer : Result Reply CoreFault)
    → AreHeldParts old → ((n : ℕ) → Serves n old new writer after event answer) → IfOk answer (WritesOnlyWhileItWorks writer.failed)
works_then old new writer after event (Ok reply) held serves = writes_while old new writer after event reply held serves
works_then old new writer after event (Err fault) held serves = tt
