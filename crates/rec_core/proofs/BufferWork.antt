-- A number that falls with each step: what is left to do of each channel.
-- idea: a frame pays for its turn and for the two pieces that it makes certain; a piece pays for its send, its write and its buffer.
use Rattle.std.proofs.Common.{ℕ, suc, ◌+◌, ◌-◌, ◌*◌, ◌≡◌, ◌≤◌, ◌<◌, false, List, [], ◌∷◌, length, map}
use Rattle.std.proofs.Common.{Some, refl, sym, ◌∙◌, ap, subst, arith, zero}
use Rattle.std.specs.Prelude.{slice_get, slice_set}
use Rattle.std.specs.List.{sum_by}
use Rattle.std.proofs.lemmas.List.{length-append, length-drop}
use Rattle.std.proofs.lemmas.List.Sums.{sum_by-cons}
use Rattle.std.proofs.lemmas.Option.{slice_get_within, same_Some, none-some}
use Rattle.bpf_insn.specs.declared.insn.Insn.{Insn}
use Rattle.rec_channel.specs.History.{Version}
use Rattle.rec_channel.specs.declared.limits.TheConstants.{MAX_VERSIONS}
use Rattle.rec_lane.specs.Pieces.{PieceData}
use Rattle.rec_lane.specs.Growth.{packets_in}
use Rattle.rec_core.specs.World.{ChannelState, produced, piece_sent, piece_written, program_installed}
use Rattle.rec_core.specs.Buffers.{FlowState, FlowWorld, FlowSpec, waiting, opening_flow, opening_flows, Move, TakeBuffersAlong, ClosesFlow, FlowDoes}
use Rattle.rec_core.specs.Buffers.{FlowStepAt, FlowRun, LeadTo, return_places, stage_work, flow_work, work_left, most_steps}
use Rattle.rec_core.specs.Buffers.Stage.{NeedsBuffer, Asks, Sends}
use Rattle.rec_core.specs.Buffers.Move.{TakesBuffer, AsksSource, OffersFrame, ClosesAtEnd, ClosesAtMost, SendsPiece, GoesOn, WritesPiece, GivesBack, Installs}
use Rattle.ch11_packet.proofs.ChangedLists.{all_there}
use Rattle.rec_core.proofs.Buffers.{IsFlow, packets_within, needing, asking, AreFlows, kept_all, opened, reached}

-- ---- sums

sum_set : {X : Type 0} (f : X → ℕ) (xs : List X) (k : ℕ) (x y : X) → slice_get xs k ≡ Some x
    → sum_by f (slice_set xs k y) + f x ≡ sum_by f xs + f y
sum_set f [] k x y is = absurd (none-some x is)
sum_set f (z ∷ zs) zero x y is =
    let same = ap f (same_Some z x is) in
    let old = sum_by-cons f z zs in
    let new = sum_by-cons f y zs in
    omega (arith, same, old, new)
sum_set f (z ∷ zs) (suc k) x y is =
    let rest = sum_set f zs k x y is in
    let old = sum_by-cons f z zs in
    let new = sum_by-cons f z (slice_set zs k y) in
    omega (arith, rest, old, new)

-- ---- one channel

module _ (ring spare : ℕ) where
  buffer_taken : (f : FlowState) (rest : ℕ) → f.stage ≡ NeedsBuffer → f.held ≡ 1 → flow_work (record f { held = 2; returned = rest }) < flow_work f
  buffer_taken f rest at held =
      let new = ap (λ s. stage_work s 2 f.channel.closed) at in
      let old = ap (λ s. stage_work s f.held f.channel.closed) at in
      omega (arith, new, old, held)

  source_asked : (f : FlowState) → f.stage ≡ NeedsBuffer → f.held ≡ 2 → flow_work (record f { stage = Asks }) < flow_work f
  source_asked f at held = let old = ap (λ s. stage_work s f.held f.channel.closed) at in omega (arith, old, held)

  -- two pieces more wait at most
  more_wait : (c d : ChannelState) (held kept : ℕ) → c.sent ≡ length (produced c) → d.sent ≡ c.sent → TakeBuffersAlong c d held kept → length (waiting d) ≤ 2
  more_wait c d held kept all sent along =
      let left = length-drop d.sent (produced d) in
      let lengths = ap (λ (ps : List PieceData). length ps) along.1 ∙ length-append (produced c) along.0 in
      let two = along.2.two in
      omega (arith, left, lengths, all, sent, two)

  -- a frame was offered, or the channel closed: the turn before had more left than this one
  grown : (f : FlowState) (d : ChannelState) (left kept : ℕ) → f.channel.sent ≡ length (produced f.channel)
      → d.sent ≡ f.channel.sent → d.written ≡ f.channel.written → d.history ≡ f.channel.history → TakeBuffersAlong f.channel d f.held kept
      → 10 * left + stage_work Sends kept d.closed + 6 < 10 * f.left + stage_work f.stage f.held f.channel.closed
      → flow_work (record f { channel = d; left = left; stage = Sends; held = kept }) < flow_work f
  grown f d left kept all sent written history along less =
      let wait = more_wait f.channel d f.held kept all sent along in
      let versions = ap (λ (vs : List Version). length vs) history in
      omega (arith, wait, versions, sent, written, less)

  closed_now : (f g : FlowState) → f.channel.sent ≡ length (produced f.channel) → 7 ≤ stage_work f.stage f.held f.channel.closed
      → ClosesFlow ring f g → flow_work g < flow_work f
  closed_now f g all work closes =
      let shut = ap (λ (c : ChannelState). stage_work Sends closes.2 c.closed) closes.4.3 in
      subst (λ h. flow_work h < flow_work f) (sym closes.6)
      (grown f closes.3 f.left closes.2 all (ap (λ (c : ChannelState). c.sent) closes.4.3) (ap (λ (c : ChannelState). c.written) closes.4.3)
      (ap (λ (c : ChannelState). c.history) closes.4.3) closes.5 (omega (arith, shut, work)))

  piece_sent_on : (f : FlowState) → f.channel.written ≤ f.channel.sent → f.channel.sent < length (produced f.channel)
      → flow_work (record f { channel = piece_sent f.channel }) < flow_work f
  piece_sent_on f after within =
      let old = length-drop f.channel.sent (produced f.channel) in
      let new = length-drop (f.channel.sent + 1) (produced f.channel) in
      omega (arith, old, new, after, within)

  gone_on : (f : FlowState) → f.stage ≡ Sends → f.channel.closed ≡ false → 1 ≤ f.held → flow_work (record f { stage = NeedsBuffer }) < flow_work f
  gone_on f at going held =
      let old = ap (λ s. stage_work s f.held f.channel.closed) at ∙ ap (λ b. stage_work Sends f.held b) going in
      omega (arith, old, held)

  piece_written_out : (f : FlowState) (p : PieceData) → f.hand ≡ 0 → f.channel.written < f.channel.sent
      → flow_work (record f { channel = piece_written f.channel; hand = packets_in (p ∷ []) }) < flow_work f
  piece_written_out f p hand before = let few = packets_within (p ∷ []) in omega (arith, few, hand, before)

  installed : (f : FlowState) (program : List Insn) → length f.channel.history < MAX_VERSIONS
      → flow_work (record f { channel = program_installed f.channel program }) < flow_work f
  installed f program few =
      let more = length-append f.channel.history (record { program = program; mark = length f.channel.offered } ∷ []) in
      omega (arith, more, few)

  pub falls : (places : ℕ) (f g : FlowState) (move : Move) (more : List PieceData) → IsFlow ring spare f → FlowDoes ring places f move g more
      → flow_work g < flow_work f
  falls places f g TakesBuffer more is does = subst (λ h. flow_work h < flow_work f) (sym does.4) (buffer_taken f does.0 does.1 does.2)
  falls places f g AsksSource more is does = subst (λ h. flow_work h < flow_work f) (sym does.3) (source_asked f does.0 does.1)
  falls places f g OffersFrame more is does =
      let known = asking ring spare f is does.7 in
      let left = does.8 in
      let old = ap (λ s. stage_work s f.held f.channel.closed) does.7 in
      let new = ap (λ (c : ChannelState). stage_work Sends does.5 c.closed) does.9.8 ∙ ap (λ b. stage_work Sends does.5 b) known.0 in
      subst (λ h. flow_work h < flow_work f) (sym does.11)
      (grown f does.6 does.4 does.5 known.1 (ap (λ (c : ChannelState). c.sent) does.9.8) (ap (λ (c : ChannelState). c.written) does.9.8)
      (ap (λ (c : ChannelState). c.history) does.9.8) does.10 (omega (arith, left, old, new)))
  falls places f g ClosesAtEnd more is does =
      let old = ap (λ s. stage_work s f.held f.channel.closed) does.0 in
      closed_now f g (asking ring spare f is does.0).1 (omega (arith, old)) does.1
  falls places f g ClosesAtMost more is does =
      let old = ap (λ s. stage_work s f.held f.channel.closed) does.0 in
      let held = does.1 in
      closed_now f g (needing ring spare f is does.0).1 (omega (arith, old, held)) does.3
  falls places f g SendsPiece more is does =
      subst (λ h. flow_work h < flow_work f) (sym does.4)
      (subst (λ d. flow_work (record f { channel = d }) < flow_work f) (sym does.3.4)
      (piece_sent_on f is.after (slice_get_within (produced f.channel) f.channel.sent does.3.0 does.3.1)))
  falls places f g GoesOn more is does = subst (λ h. flow_work h < flow_work f) (sym does.3) (gone_on f does.0 does.1 is.some_held)
  falls places f g WritesPiece more is does =
      subst (λ h. flow_work h < flow_work f) (sym does.4)
      (subst (λ ps. flow_work (record f { channel = does.1; hand = packets_in ps }) < flow_work f) (sym does.3.5)
      (subst (λ d. flow_work (record f { channel = d; hand = packets_in (does.3.0 ∷ []) }) < flow_work f) (sym does.3.4)
      (piece_written_out f does.3.0 does.2 does.3.2)))
  falls places f g GivesBack more is does =
      let hand = does.0 in
      subst (λ h. flow_work h < flow_work f) (sym does.2) (omega (arith, hand))
  falls places f g Installs more is does =
      subst (λ h. flow_work h < flow_work f) (sym does.5)
      (subst (λ d. flow_work (record f { channel = d }) < flow_work f) (sym does.4.4) (installed f does.0 does.4.0))

  -- ---- all channels

  pub falls_all : (places : ℕ) (old new : FlowWorld) (at : ℕ) (move : Move) → AreFlows ring spare old → FlowStepAt ring places old at move new
      → work_left new < work_left old
  falls_all places old new at move are step =
      let less = falls places step.0 step.1 move step.2 (all_there (IsFlow ring spare) old.flows at step.0 are step.3) step.5 in
      let sum = sum_set flow_work old.flows at step.0 step.1 step.3 in
      subst (λ (w : FlowWorld). work_left w < work_left old) (sym step.6) (omega (arith, less, sum))

  pub falls_along : (places : ℕ) (old new : FlowWorld) (moves : List Move) → AreFlows ring spare old → FlowRun ring places old moves new
      → length moves + work_left new ≤ work_left old
  falls_along places old new [] are run = let same = ap work_left run in omega (arith, same)
  falls_along places old new (move ∷ moves) are run =
      let first = falls_all places old run.1 run.0 move are run.2 in
      let rest = falls_along places run.1 new moves (kept_all ring spare places old run.1 run.0 move are run.2) run.3 in
      omega (arith, first, rest)

-- ---- at the start

opening_work : (ring spare : ℕ) (s : FlowSpec) → flow_work (opening_flow ring spare s) ≡ 10 * s.frames + 9 + (MAX_VERSIONS - 1)
opening_work ring spare s = omega arith

opening_works : (ring spare : ℕ) (specs : List FlowSpec) → work_left (opening_flows ring spare specs) ≡ most_steps specs
opening_works ring spare [] = refl
opening_works ring spare (s ∷ specs) =
    let one = opening_work ring spare s in
    let rest = opening_works ring spare specs in
    let left = sum_by-cons flow_work (opening_flow ring spare s) (map (opening_flow ring spare) specs) in
    let right = sum_by-cons (λ (t : FlowSpec). 10 * t.frames + 9 + (MAX_VERSIONS - 1)) s specs in
    omega (arith, one, rest, left, right)

-- ---- of every state that steps lead to

pub each_falls : (ring spare : ℕ) (specs : List FlowSpec) (moves : List Move) (old : FlowWorld) → LeadTo ring spare specs moves old
    → (at : ℕ) (move : Move) (new : FlowWorld) → FlowStepAt ring (return_places ring spare) old at move new → work_left new < work_left old
each_falls ring spare specs moves old lead at move new step =
    falls_all ring spare (return_places ring spare) old new at move (reached ring spare specs moves old lead) step

pub few_steps : (ring spare : ℕ) (specs : List FlowSpec) (moves : List Move) (new : FlowWorld) → LeadTo ring spare specs moves new
    → length moves + work_left new ≤ most_steps specs
few_steps ring spare specs moves new lead =
    let less = falls_along ring spare (return_places ring spare) (opening_flows ring spare specs) new moves (opened ring spare specs) lead in
    let start = opening_works ring spare specs in
    omega (arith, less, start)

pub few_later : (ring spare : ℕ) (specs : List FlowSpec) (moves : List Move) (old : FlowWorld) → LeadTo ring spare specs moves old
    → (later : List Move) (new : FlowWorld) → FlowRun ring (return_places ring spare) old later new → length later + work_left new ≤ work_left old
few_later ring spare specs moves old lead later new run =
    falls_along ring spare (return_places ring spare) old new later (reached ring spare specs moves old lead) run
