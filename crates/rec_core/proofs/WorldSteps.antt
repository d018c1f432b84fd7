-- A step of one channel is a step of the world, and steps are runs.
-- idea: an event names one channel, so the world after it differs from the one before at that place alone, and what held
-- of the others holds; a run is its steps, put behind one another.
use Rattle.std.proofs.Common.{ℕ, suc, ◌≡◌, ◌≢◌, ◌⊎◌, inl, inr, true, false, List, [], ◌∷◌, ◌++◌, Option, None, Some, refl, sym, ◌∙◌, ap, subst, arith, All}
use Rattle.std.specs.Prelude.{slice_get, slice_set, Result, Ok, Err, Contains}
use Rattle.std.specs.List.{AllZip}
use Rattle.std.proofs.lemmas.List.{append-nil}
use Rattle.std.proofs.lemmas.Bool.{cases_eq, cases_Bool, both_ways}
use Rattle.std.proofs.lemmas.Option.{same_Some, slice_get_within, get_or_from_slice_get}
use Rattle.rec_lane.specs.Parts.{BeginsList}
use Rattle.rec_lane.specs.Pieces.{LaneSettings, PieceData}
use Rattle.rec_writer.specs.Numbers.{numbered_channels}
use Rattle.rec_writer.specs.Writers.{WriterState, HasWritten, IsCutPiece, PutsWhole, Knows}
use Rattle.rec_core.specs.declared.reply.Reply.{Reply}
use Rattle.rec_core.specs.declared.fault.CoreFault.{CoreFault}
use Rattle.rec_core.specs.declared.fault.CoreFault.TheVariants.{NoChannel, Closed, RingFull, NothingToSend}
use Rattle.rec_core.specs.declared.fault.CoreFault.TheVariants.{NothingToWrite, VersionsFull, CountFull, Output, Memory}
use Rattle.rec_core.specs.World.{ChannelState, WorldState, EventData, ChannelRefuses, StandsAt, WorldStep, WorldRun, event_channel, world_after}
use Rattle.rec_core.specs.World.EventData.{OfTake, OfTime, OfInstall, OfSend, OfWrite, OfClose}
use Rattle.rec_core.specs.Worlds.{ChannelParts, CoreState, HoldsChannel, AreHeldParts, IsCutAtFront, StandsForWorld, StandsCutAt, StandsWith}
use Rattle.rec_core.specs.Worlds.{StepsWorld, RunsWorld, StepsCut, RunsCut, failed_then, failed_after, channels_of_parts, IsCore}
use Rattle.rec_core.specs.Steps.{Serves, Writes, FailsAtPiece, LeavesWriter}
use Rattle.ch11_packet.proofs.ChangedLists.{set_there, set_elsewhere, all_there, all_from_there}
use Rattle.rec_core.proofs.ListPlaces.{there_map, zip_there, zip_back, zip_set, zip_set_left}

abbrev core : List ChannelParts → WriterState → CoreState
core channels writer = record { channels = channels; writer = writer }

-- ---- refusals

-- no channel is there to refuse an event as of no channel
not_of_none : (size : ℕ) (c : ChannelState) (event : EventData) → ChannelRefuses size c event NoChannel → ⊥
not_of_none size c (OfTake channel frame) r = r
not_of_none size c (OfTime channel counter) r = r
not_of_none size c (OfInstall channel program) r = r
not_of_none size c (OfSend channel) r = r
not_of_none size c (OfWrite channel) r = r
not_of_none size c (OfClose channel) r = r

refused_step : (size : ℕ) (world : WorldState) (event : EventData) (fault : CoreFault) (at : ℕ) (c : ChannelState)
    → StandsAt world.channels (event_channel event) at c → ChannelRefuses size c event fault → WorldStep size world event (Err fault) world
refused_step size world event NoChannel at c stands r = absurd (not_of_none size c event r)
refused_step size world event Closed at c stands r = (at, c, stands, r, refl)
refused_step size world event RingFull at c stands r = (at, c, stands, r, refl)
refused_step size world event NothingToSend at c stands r = (at, c, stands, r, refl)
refused_step size world event NothingToWrite at c stands r = (at, c, stands, r, refl)
refused_step size world event VersionsFull at c stands r = (at, c, stands, r, refl)
refused_step size world event CountFull at c stands r = (at, c, stands, r, refl)
refused_step size world event Output at c stands r = (at, c, stands, r, refl)
refused_step size world event Memory at c stands r = (at, c, stands, r, refl)

pub writer_refused : (old new : WriterState) (ring : List PieceData) (fault : CoreFault) → LeavesWriter old new ring fault
    → (new ≡ old) ⊎ FailsAtPiece old new ring
writer_refused old new ring NoChannel l = inl l
writer_refused old new ring Closed l = inl l
writer_refused old new ring RingFull l = inl l
writer_refused old new ring NothingToSend l = inl l
writer_refused old new ring NothingToWrite l = inl l
writer_refused old new ring VersionsFull l = inl l
writer_refused old new ring CountFull l = inl l
writer_refused old new ring Output l = inr l
writer_refused old new ring Memory l = inl l

-- ---- the piece that was cut stays in front

front_grows : (piece : PieceData) (rest old new : List PieceData) → old ≡ piece ∷ rest → BeginsList old new → (more : List PieceData) × (new ≡ piece ∷ more)
front_grows piece rest old new first b = (rest ++ b.0, sym b.1 ∙ ap (λ ps. ps ++ b.0) first)

cut_stays : (channels : List ChannelParts) (old new : WriterState) (at : ℕ) (p q : ChannelParts) (channel : ℕ) (out : List PieceData) (cut : List ℕ)
    → slice_get channels at ≡ Some p → q.settings.channel ≡ p.settings.channel → BeginsList p.ring q.ring → new.version ≡ old.version
    → IsCutAtFront (core channels old) channel out cut → IsCutAtFront (core (slice_set channels at q) new) channel out cut
cut_stays channels old new at p q channel out cut there kept grows version i =
    let is_cut : IsCutPiece new.version out i.piece cut = subst (λ v. IsCutPiece v out i.piece cut) (sym version) i.is_cut in
    elim (cases_eq i.at at) as (λ _. IsCutAtFront (core (slice_set channels at q) new) channel out cut) [
      | inl same ↦ (
          let is_p : i.parts ≡ p = same_Some i.parts p (sym i.there ∙ (ap (slice_get channels) same ∙ there)) in
          let first = front_grows i.piece i.rest p.ring q.ring (ap (λ (x : ChannelParts). x.ring) (sym is_p) ∙ i.front) grows in
          record {
            at = at;
            parts = q;
            there = set_there channels at p q there;
            named = kept
                ∙ (ap (λ (x : ChannelParts). x.settings.channel) (sym is_p) ∙ i.named);
            piece = i.piece;
            rest = first.0;
            front = first.1;
            is_cut = is_cut;
          })
      | inr other ↦ record {
        at = i.at;
        parts = i.parts;
        there = set_elsewhere channels at i.at i.parts q i.there other;
        named = i.named;
        piece = i.piece;
        rest = i.rest;
        front = i.front;
        is_cut = is_cut;
      }
    ]

-- ---- the world that a core stands for, with the channel whose piece was cut

cut_stands : (size : ℕ) (first : Option (List ℕ)) (k : CoreState) (world : WorldState) (channel : ℕ) (cut : List ℕ)
    → AllZip (HoldsChannel size) k.channels world.channels → k.writer.failed ≡ true → HasWritten first world.out cut k.writer
    → IsCutAtFront k channel world.out cut
    → StandsCutAt size first k world channel
cut_stands size first k world channel cut zip fails written front = record {
  stands = record {
    channels_are = zip;
    cut = cut;
    written = written;
    none_cut = λ works. absurd (both_ways k.writer.failed works fails);
    cut_at_front = λ _. (channel, front);
  };
  failed = fails;
  cut = cut;
  written = written;
  at_front = front;
}

works_stands : (size : ℕ) (first : Option (List ℕ)) (k : CoreState) (world : WorldState)
    → AllZip (HoldsChannel size) k.channels world.channels → k.writer.failed ≡ false → HasWritten first world.out [] k.writer
    → StandsForWorld size first k world × (k.writer.failed ≡ false)
works_stands size first k world zip works written = (
  record {
    channels_are = zip;
    cut = [];
    written = written;
    none_cut = λ _. refl;
    cut_at_front = λ fails. absurd (both_ways k.writer.failed works fails);
  },
  works,
)

stands_alone : (size : ℕ) (first : Option (List ℕ)) (k : CoreState) (world : WorldState) (failed : Option ℕ) → StandsWith size first k world failed
    → StandsForWorld size first k world
stands_alone size first k world None s = s.0
stands_alone size first k world (Some channel) s = s.stands

stands_with : (size : ℕ) (first : Option (List ℕ)) (k : CoreState) (world : WorldState) → StandsForWorld size first k world
    → (failed : Option ℕ) × StandsWith size first k world failed
stands_with size first k world s = elim (cases_Bool k.writer.failed) as (λ _. (failed : Option ℕ) × StandsWith size first k world failed) [
  | inl fails ↦ (Some (s.cut_at_front fails).0, record { stands = s; failed = fails; cut = s.cut; written = s.written; at_front = (s.cut_at_front fails).1 })
  | inr works ↦ (None, (s, works))
]

-- ---- the world after

-- nothing was written
silent : (size : ℕ) (first : Option (List ℕ)) (channels : List ChannelParts) (old new : WriterState) (world after : WorldState) (at : ℕ) (p q : ChannelParts)
    (failed : Option ℕ)
    → slice_get channels at ≡ Some p → q.settings.channel ≡ p.settings.channel → (new.failed ≡ true → BeginsList p.ring q.ring) → new ≡ old
    → AllZip (HoldsChannel size) (slice_set channels at q) after.channels → after.out ≡ world.out
    → StandsWith size first (core channels old) world failed → StandsWith size first (core (slice_set channels at q) new) after failed
silent size first channels old new world after at p q None there kept grows same zip out s =
    let none : HasWritten first world.out [] old = subst (λ bytes. HasWritten first world.out bytes old) (s.0.none_cut s.1) s.0.written in
    works_stands size first (core (slice_set channels at q) new) after zip (ap (λ (w : WriterState). w.failed) same ∙ s.1)
    (subst (λ (w : WriterState). HasWritten first after.out [] w) (sym same) (subst (λ ps. HasWritten first ps [] old) (sym out) none))
silent size first channels old new world after at p q (Some channel) there kept grows same zip out s =
    let version : new.version ≡ old.version = ap (λ (w : WriterState). w.version) same in
    let fails : new.failed ≡ true = ap (λ (w : WriterState). w.failed) same ∙ s.failed in
    cut_stands size first (core (slice_set channels at q) new) after channel s.cut zip fails
    (subst (λ (w : WriterState). HasWritten first after.out s.cut w) (sym same) (subst (λ ps. HasWritten first ps s.cut old) (sym out) s.written))
    (subst (λ ps. IsCutAtFront (core (slice_set channels at q) new) channel ps s.cut) (sym out)
    (cut_stays channels old new at p q channel world.out s.cut there kept (grows fails) version s.at_front))

-- a piece was written
spoken : (size : ℕ) (first : Option (List ℕ)) (channels : List ChannelParts) (old new : WriterState) (world after : WorldState) (at : ℕ) (q : ChannelParts)
    (piece : PieceData) (failed : Option ℕ)
    → PutsWhole old new piece
    → AllZip (HoldsChannel size) (slice_set channels at q) after.channels → after.out ≡ world.out ++ piece ∷ []
    → StandsWith size first (core channels old) world failed → StandsWith size first (core (slice_set channels at q) new) after failed
spoken size first channels old new world after at q piece None puts zip out s =
    works_stands size first (core (slice_set channels at q) new) after zip puts.works
    (subst (λ ps. HasWritten first ps [] new) (sym out) (puts.stands first world.out
    (subst (λ bytes. HasWritten first world.out bytes old) (s.0.none_cut puts.worked) s.0.written)))
spoken size first channels old new world after at q piece (Some channel) puts zip out s = absurd (both_ways old.failed puts.worked s.failed)

-- the output failed, or had failed before
failed_at : (size : ℕ) (first : Option (List ℕ)) (channels : List ChannelParts) (old new : WriterState) (world : WorldState) (at : ℕ) (p q : ChannelParts)
    (event : EventData) (failed : Option ℕ)
    → slice_get channels at ≡ Some p → p.settings.channel ≡ event_channel event → q.settings.channel ≡ p.settings.channel
    → (new.failed ≡ true → BeginsList p.ring q.ring) → new.version ≡ old.version
    → FailsAtPiece old new p.ring
    → AllZip (HoldsChannel size) (slice_set channels at q) world.channels
    → StandsWith size first (core channels old) world failed → StandsWith size first (core (slice_set channels at q) new) world
    (failed_then event (Err Output) failed)
failed_at size first channels old new world at p q event None there named kept grows version f zip s =
    elim f.fails as (λ _. StandsCutAt size first (core (slice_set channels at q) new) world (event_channel event)) [
      | inl puts ↦ (
          let part = puts.stands first world.out (subst (λ bytes. HasWritten first world.out bytes old) (s.0.none_cut puts.worked) s.0.written) in
          let now = front_grows f.piece f.rest p.ring q.ring f.front (grows puts.fails) in
          cut_stands size first (core (slice_set channels at q) new) world (event_channel event) part.0 zip puts.fails part.2
          (record {
            at = at;
            parts = q;
            there = set_there channels at p q there;
            named = kept ∙ named;
            piece = f.piece;
            rest = now.0;
            front = now.1;
            is_cut = subst (λ v. IsCutPiece v world.out f.piece part.0) (sym version) part.1;
          }))
      | inr before ↦ absurd (both_ways old.failed s.1 before.0)
    ]
failed_at size first channels old new world at p q event (Some channel) there named kept grows version f zip s =
    elim f.fails as (λ _. StandsCutAt size first (core (slice_set channels at q) new) world channel) [
      | inl puts ↦ absurd (both_ways old.failed puts.worked s.failed)
      | inr before ↦ silent size first channels old new world world at p q (Some channel) there kept grows before.1 zip refl s
    ]

-- ---- a step

stands_at : (size : ℕ) (p : ChannelParts) (c : ChannelState) (channels : List ChannelState) (channel at : ℕ) → slice_get channels at ≡ Some c
    → HoldsChannel size p c → p.settings.channel ≡ channel → StandsAt channels channel at c
stands_at size p c channels channel at there h named = record { there = there; named = ap (λ (s : LaneSettings). s.channel) (sym h.settings_are) ∙ named }

written_step : (size : ℕ) (first : Option (List ℕ)) (channels : List ChannelParts) (old new : WriterState) (world : WorldState) (at : ℕ) (p q : ChannelParts)
    (d : ChannelState) (more : List PieceData) (failed : Option ℕ)
    → slice_get channels at ≡ Some p → q.settings.channel ≡ p.settings.channel → (new.failed ≡ true → BeginsList p.ring q.ring) → Writes old new more
    → AllZip (HoldsChannel size) (slice_set channels at q) (slice_set world.channels at d)
    → StandsWith size first (core channels old) world failed → StandsWith size first (core (slice_set channels at q) new) (world_after world at d more) failed
written_step size first channels old new world at p q d [] failed there kept grows writes zip s =
    silent size first channels old new world (world_after world at d []) at p q failed there kept grows writes zip (append-nil world.out) s
written_step size first channels old new world at p q d (piece ∷ []) failed there kept grows writes zip s =
    spoken size first channels old new world (world_after world at d (piece ∷ [])) at q piece failed writes zip refl s
written_step size first channels old new world at p q d (piece ∷ other ∷ more) failed there kept grows writes zip s = absurd writes

refused_step_with : (size : ℕ) (first : Option (List ℕ)) (channels : List ChannelParts) (old new : WriterState) (world : WorldState) (at : ℕ)
    (p q : ChannelParts) (event : EventData) (failed : Option ℕ) (fault : CoreFault)
    → slice_get channels at ≡ Some p → p.settings.channel ≡ event_channel event → q.settings.channel ≡ p.settings.channel
    → (new.failed ≡ true → BeginsList p.ring q.ring) → new.version ≡ old.version
    → LeavesWriter old new p.ring fault
    → AllZip (HoldsChannel size) (slice_set channels at q) world.channels
    → StandsWith size first (core channels old) world failed → StandsWith size first (core (slice_set channels at q) new) world
    (failed_then event (Err fault) failed)
refused_step_with size first channels old new world at p q event failed NoChannel there named kept grows version leaves zip s =
    silent size first channels old new world world at p q failed there kept grows leaves zip refl s
refused_step_with size first channels old new world at p q event failed Closed there named kept grows version leaves zip s =
    silent size first channels old new world world at p q failed there kept grows leaves zip refl s
refused_step_with size first channels old new world at p q event failed RingFull there named kept grows version leaves zip s =
    silent size first channels old new world world at p q failed there kept grows leaves zip refl s
refused_step_with size first channels old new world at p q event failed NothingToSend there named kept grows version leaves zip s =
    silent size first channels old new world world at p q failed there kept grows leaves zip refl s
refused_step_with size first channels old new world at p q event failed NothingToWrite there named kept grows version leaves zip s =
    silent size first channels old new world world at p q failed there kept grows leaves zip refl s
refused_step_with size first channels old new world at p q event failed VersionsFull there named kept grows version leaves zip s =
    silent size first channels old new world world at p q failed there kept grows leaves zip refl s
refused_step_with size first channels old new world at p q event failed CountFull there named kept grows version leaves zip s =
    silent size first channels old new world world at p q failed there kept grows leaves zip refl s
refused_step_with size first channels old new world at p q event failed Output there named kept grows version leaves zip s =
    failed_at size first channels old new world at p q event failed there named kept grows version leaves zip s
refused_step_with size first channels old new world at p q event failed Memory there named kept grows version leaves zip s =
    silent size first channels old new world world at p q failed there kept grows leaves zip refl s

-- what a channel did is a step of the world
pub served : (channels : List ChannelParts) (old new : WriterState) (at : ℕ) (p q : ChannelParts) (event : EventData) (answer : Result Reply CoreFault)
    → slice_get channels at ≡ Some p → p.settings.channel ≡ event_channel event → q.settings.channel ≡ p.settings.channel
    → (new.failed ≡ true → BeginsList p.ring q.ring) → new.version ≡ old.version
    → ((size : ℕ) → Serves size p q old new event answer)
    → StepsCut (core channels old) (core (slice_set channels at q) new) event answer
served channels old new at p q event (Ok reply) there named kept grows version serves size first world failed s =
    let alone = stands_alone size first (core channels old) world failed s in
    let z = zip_there (HoldsChannel size) channels world.channels at p alone.channels_are there in
    let serve = serves size in
    let does = serve.1 z.0 z.2 in (
      world_after world at does.0 serve.0,
      (at, z.0, does.0, serve.0, stands_at size p z.0 world.channels (event_channel event) at z.1 z.2 named, does.1, refl),
      written_step size first channels old new world at p q does.0 serve.0 failed there kept grows serve.2
          (zip_set (HoldsChannel size) channels world.channels at q does.0 alone.channels_are does.2) s,
    )
served channels old new at p q event (Err fault) there named kept grows version serves size first world failed s =
    let alone = stands_alone size first (core channels old) world failed s in
    let z = zip_there (HoldsChannel size) channels world.channels at p alone.channels_are there in
    let serve = serves size in
    let refuses = serve.0 z.0 z.2 in
    let zip = zip_set_left (HoldsChannel size) channels world.channels at q z.0 alone.channels_are z.1 refuses.1 in (
      world,
      refused_step size world event fault at z.0 (stands_at size p z.0 world.channels (event_channel event) at z.1 z.2 named) refuses.0,
      refused_step_with size first channels old new world at p q event failed fault there named kept grows version serve.1 zip s,
    )

-- an event of no channel
pub of_none : (channels : List ChannelParts) (writer : WriterState) (event : EventData)
    → All (λ (other : ℕ). other ≢ event_channel event) (channels_of_parts channels)
    → StepsCut (core channels writer) (core channels writer) event (Err NoChannel)
of_none channels writer event none size first world failed s = (
  world,
  (
    all_from_there (λ (c : ChannelState). c.settings.channel ≢ event_channel event) world.channels (λ k c is.
        let z = zip_back (HoldsChannel size) channels world.channels k c (stands_alone size first (core channels writer) world failed s).channels_are is in
        subst (λ (l : LaneSettings). l.channel ≢ event_channel event) z.2.settings_are
        (all_there (λ (other : ℕ). other ≢ event_channel event) (channels_of_parts channels) k z.0.settings.channel none
        (there_map (λ (p : ChannelParts). p.settings.channel) channels k z.0 z.1))),
    refl,
  ),
  s,
)

-- so it is one of whatever world the core stood for
pub step_alone : (old new : CoreState) (event : EventData) (answer : Result Reply CoreFault) → StepsCut old new event answer → StepsWorld old new event answer
step_alone old new event answer steps size first world s =
    let with = stands_with size first old world s in
    let r = steps size first world with.0 with.1 in
    (r.0, r.1, stands_alone size first new r.0 (failed_then event answer with.0) r.2)

-- ---- a core stays one

pub core_after : (old new : CoreState) (event : EventData) (answer : Result Reply CoreFault)
    → numbered_channels new.writer.numbers ≡ numbered_channels old.writer.numbers → channels_of_parts new.channels ≡ channels_of_parts old.channels
    → StepsWorld old new event answer → IsCore old → IsCore new
core_after old new event answer numbers channels steps is =
    let s = steps is.size is.first is.world is.stands in
    record {
      known = numbers ∙ (is.known ∙ ap (λ cs. 0 ∷ cs) (sym channels));
      named = subst (λ cs. All (λ (channel : ℕ). channel ≢ 0) cs) (sym channels) is.named;
      size = is.size;
      first = is.first;
      world = s.0;
      stands = s.2;
    }

-- its writer knows the channel that stands at an index, and the parts there are those of one
pub known_at : (old : CoreState) (at : ℕ) (p : ChannelParts) → IsCore old → slice_get old.channels at ≡ Some p → Knows old.writer p.settings.channel
known_at old at p is there =
    let there_too : slice_get (channels_of_parts old.channels) at ≡ Some p.settings.channel =
    there_map (λ (q : ChannelParts). q.settings.channel) old.channels at p there in (
      all_there (λ (channel : ℕ). channel ≢ 0) (channels_of_parts old.channels) at p.settings.channel is.named there_too,
      subst (λ cs. Contains cs p.settings.channel) (sym is.known)
          (let within = slice_get_within (channels_of_parts old.channels) at p.settings.channel there_too in
          (suc at, omega (arith, within), get_or_from_slice_get (channels_of_parts old.channels) at p.settings.channel p.settings.channel there_too)),
    )

pub held_at : (old : CoreState) (at : ℕ) (p : ChannelParts) → IsCore old → slice_get old.channels at ≡ Some p → AreHeldParts p
held_at old at p is there = let z = zip_there (HoldsChannel is.size) old.channels is.world.channels at p is.stands.channels_are there in (is.size, z.0, z.2)

-- ---- runs

run_more : (size : ℕ) (events : List EventData) (answers : List (Result Reply CoreFault)) (old mid new : WorldState) (event : EventData)
    (answer : Result Reply CoreFault)
    → WorldRun size old events answers mid → WorldStep size mid event answer new → WorldRun size old (events ++ event ∷ []) (answers ++ answer ∷ []) new
run_more size [] [] old mid new event answer run step = (new, subst (λ w. WorldStep size w event answer new) run step, refl)
run_more size [] (a ∷ as') old mid new event answer run step = absurd run
run_more size (e ∷ es) [] old mid new event answer run step = absurd run
run_more size (e ∷ es) (a ∷ as') old mid new event answer run step = (run.0, run.1, run_more size es as' run.0 mid new event answer run.2 step)

failed_more : (size : ℕ) (events : List EventData) (answers : List (Result Reply CoreFault)) (old mid : WorldState) (event : EventData)
    (answer : Result Reply CoreFault) (failed : Option ℕ)
    → WorldRun size old events answers mid → failed_then event answer (failed_after events answers failed)
    ≡ failed_after (events ++ event ∷ []) (answers ++ answer ∷ []) failed
failed_more size [] [] old mid event answer failed run = refl
failed_more size [] (a ∷ as') old mid event answer failed run = absurd run
failed_more size (e ∷ es) [] old mid event answer failed run = absurd run
failed_more size (e ∷ es) (a ∷ as') old mid event answer failed run = failed_more size es as' run.0 mid event answer (failed_then e a failed) run.2

pub runs_none : (core : CoreState) → RunsCut core core [] []
runs_none core size first world failed s = (world, refl, s)

pub runs_more : (old mid new : CoreState) (events : List EventData) (answers : List (Result Reply CoreFault)) (event : EventData)
    (answer : Result Reply CoreFault)
    → RunsCut old mid events answers → StepsCut mid new event answer → RunsCut old new (events ++ event ∷ []) (answers ++ answer ∷ [])
runs_more old mid new events answers event answer runs steps size first world failed s =
    let r = runs size first world failed s in
    let t = steps size first r.0 (failed_after events answers failed) r.2 in (
      t.0,
      run_more size events answers world r.0 t.0 event answer r.1 t.1,
      subst (λ f. StandsWith size first new t.0 f) (failed_more size events answers world r.0 event answer failed r.1) t.2,
    )

pub run_alone : (old new : CoreState) (events : List EventData) (answers : List (Result Reply CoreFault)) → RunsCut old new events answers
    → RunsWorld old new events answers
run_alone old new events answers runs size first world s =
    let with = stands_with size first old world s in
    let r = runs size first world with.0 with.1 in
    (r.0, r.1, stands_alone size first new r.0 (failed_after events answers with.0) r.2)
