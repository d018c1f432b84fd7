-- Whatever frame a source answers with, it can be offered: the channel's last program is valid, so it has a value on each frame.
use Rattle.std.proofs.Common.{ℕ, ◌-◌, ◌≡◌, ◌≤◌, ◌<◌, Bool, List, [], ◌∷◌, ◌++◌, length, All, Some, refl, sym, ◌∙◌, ap, arith}
use Rattle.std.specs.Prelude.{if◌then◌else◌, slice_get, slice_set, get_or}
use Rattle.std.proofs.lemmas.Option.{slice_get-get_or}
use Rattle.bpf_insn.specs.declared.insn.Insn.{Insn}
use Rattle.bpf_machine.specs.Machine.{Runs}
use Rattle.bpf_verify.specs.Validity.{Valid}
use Rattle.ch11_packet.specs.declared.limit.TheConstants.{MIN_LIMIT}
use Rattle.eth_frame.specs.Frame.{FrameData, IsFrame, view}
use Rattle.rec_channel.specs.History.{Version}
use Rattle.rec_lane.specs.Offered.{OfferedFrame}
use Rattle.rec_lane.specs.Pieces.{LaneSettings, pieces_so_far, channel_pieces}
use Rattle.rec_lane.specs.Growth.{packets_in, GrowsByFew}
use Rattle.rec_core.specs.Openings.{SpecData, AreSpecs, HaveFilters}
use Rattle.rec_core.specs.Ties.{unrefused}
use Rattle.rec_core.specs.World.{WorldState, IsInOrder, produced, frame_taken}
use Rattle.rec_core.specs.Written.{RunsFromOpening}
use Rattle.rec_core.specs.Buffers.{FlowState, FlowWorld, FlowSpec, Move, LeadTo, return_places, without_buffers, specs_of_flows, CanOffer}
use Rattle.rec_core.specs.Buffers.Stage.{Asks, Sends}
use Rattle.ch11_packet.proofs.ChangedLists.{all_there, set_there}
use Rattle.rec_core.proofs.ListPlaces.{there_map}
use Rattle.rec_core.proofs.Buffers.{IsFlow, asking, reached}
use Rattle.rec_core.proofs.BufferRuns.{forgotten}

-- a valid program has a value on each view
abbrev pub HaveValues : Type 0
HaveValues = (program : List Insn) (bytes : List ℕ) → Valid program
    → (steps : ℕ) × (value : ℕ) × Runs program bytes steps value × (steps ≤ length program)

-- a frame makes few pieces certain
abbrev pub MakeFew : Type 0
MakeFew = (settings : LaneSettings) (offered : List OfferedFrame) (x : OfferedFrame) → MIN_LIMIT ≤ settings.limit → IsFrame x.frame
    → x.times ≡ [] → GrowsByFew (pieces_so_far settings offered) (pieces_so_far settings (offered ++ x ∷ []))

-- the channels of a run are in order
abbrev pub AreOrdered : Type 0
AreOrdered = (ring : ℕ) (specs : List SpecData) (new : WorldState) → RunsFromOpening ring specs new → All IsInOrder new.channels

offers : HaveValues → MakeFew → (ring spare : ℕ) (world : FlowWorld) (at : ℕ) (f : FlowState) (frame : FrameData) → slice_get world.flows at ≡ Some f
    → IsFlow ring spare f → IsInOrder f.channel → f.stage ≡ Asks → 0 < f.left → MIN_LIMIT ≤ f.channel.settings.limit → IsFrame frame
    → CanOffer ring (return_places ring spare) world at f frame
offers values few ring spare world at f frame there is ordered stage some roomy framed =
    let c = f.channel in
    let known = asking ring spare f is stage in
    let none : Version = record { program = []; mark = 0 } in
    let versions = ordered.history.some in
    let at_last : ℕ = length c.history - 1 in
    let inside : at_last < length c.history = omega (arith, versions) in
    let last : Version = get_or c.history at_last none in
    let ran = values last.program (view frame) (ordered.history.valid at_last none inside) in
    let x : OfferedFrame = record { frame = frame; number = length c.offered; version = at_last; program = last.program; value = ran.1; times = [] } in
    let grows = few c.settings c.offered x roomy framed refl in
    let one = grows.2.one_packet in
    let held = known.2 in
    let kept : ℕ = 2 - packets_in grows.0 in
    let d = frame_taken c x in
    let g : FlowState = record f { channel = d; left = f.left - 1; stage = Sends; held = kept } in
    let old : produced c ≡ pieces_so_far c.settings c.offered =
    ap (λ (b : Bool). if b then channel_pieces c.settings c.offered else pieces_so_far c.settings c.offered) known.0 in
    let new : produced d ≡ pieces_so_far c.settings (c.offered ++ x ∷ []) =
    ap (λ (b : Bool). if b then channel_pieces c.settings (c.offered ++ x ∷ []) else pieces_so_far c.settings (c.offered ++ x ∷ [])) known.0 in (
      x,
      refl,
      record { flows = slice_set world.flows at g; out = world.out ++ [] },
      g,
      (
        f,
        g,
        [],
        there,
        tt,
        (
          frame,
          length c.offered,
          at_last,
          ran.1,
          f.left - 1,
          kept,
          d,
          stage,
          omega (arith, some),
          (
            x,
            known.0,
            is.few_offered stage,
            record {
              number_is = refl;
              last = omega (arith, versions);
              program_is = there_map (λ (v : Version). v.program) c.history at_last last (slice_get-get_or c.history at_last none inside);
              ran = (ran.0, ran.2);
              untimed = refl;
            },
            refl,
            refl,
            refl,
            refl,
            refl,
            refl,
          ),
          (grows.0, new ∙ (grows.1 ∙ ap (λ ps. ps ++ grows.0) (sym old)), grows.2, omega (arith, held, one)),
          refl,
          refl,
        ),
        refl,
      ),
      set_there world.flows at f g there,
      refl,
    )

pub any_frame : HaveValues → MakeFew → AreOrdered → (ring spare : ℕ) (specs : List FlowSpec) (moves : List Move) (new : FlowWorld)
    → AreSpecs (specs_of_flows specs) → HaveFilters (specs_of_flows specs) → LeadTo ring spare specs moves new
    → (at : ℕ) (f : FlowState) (frame : FrameData) → slice_get new.flows at ≡ Some f → f.stage ≡ Asks → 0 < f.left
    → MIN_LIMIT ≤ f.channel.settings.limit → IsFrame frame → CanOffer ring (return_places ring spare) new at f frame
any_frame values few ordered ring spare specs moves new are filters lead at f frame there stage some roomy framed =
    let run = forgotten ring spare specs moves new lead in
    let all = ordered ring (specs_of_flows specs) (without_buffers new) (run.0, unrefused run.1, are, filters, run.2) in
    offers values few ring spare new at f frame there (all_there (IsFlow ring spare) new.flows at f (reached ring spare specs moves new lead) there)
    (all_there IsInOrder (without_buffers new).channels at f.channel all (there_map (λ (h : FlowState). h.channel) new.flows at f there))
    stage some roomy framed
