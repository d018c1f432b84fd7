-- Runs of the model world in which nothing is refused, put together.
use Rattle.std.proofs.Common.{ℕ, ◌≡◌, List, [], ◌∷◌, ◌++◌, Some, refl, sym, subst}
use Rattle.std.specs.Prelude.{slice_get, slice_set, Ok}
use Rattle.std.proofs.lemmas.List.{append-nil, set-set}
use Rattle.rec_lane.specs.Pieces.{PieceData}
use Rattle.rec_core.specs.declared.reply.Reply.{Reply}
use Rattle.rec_core.specs.World.{ChannelState, WorldState, EventData, event_channel, ChannelDoes, WorldStep, WorldRun}
use Rattle.rec_core.specs.Ties.{unrefused}
use Rattle.ch11_packet.proofs.ChangedLists.{set_there}
use Rattle.rec_core.proofs.ListPlaces.{set_same}

-- none of the events is refused
abbrev pub Runs : ℕ → WorldState → List EventData → WorldState → Type 0
Runs ring old events new = (replies : List Reply) × WorldRun ring old events (unrefused replies) new

pub nowhere : (ring : ℕ) (w : WorldState) → Runs ring w [] w
nowhere ring w = ([], refl)

pub then_on : (ring : ℕ) (v w x : WorldState) (event : EventData) (events : List EventData) (reply : Reply) → WorldStep ring v event (Ok reply) w
    → Runs ring w events x → Runs ring v (event ∷ events) x
then_on ring v w x event events reply step run = (reply ∷ run.0, (w, step, run.1))

joined : (ring : ℕ) (v w x : WorldState) (es fs : List EventData) (rs : List Reply) → WorldRun ring v es (unrefused rs) w → Runs ring w fs x
    → Runs ring v (es ++ fs) x
joined ring v w x [] fs [] run after = subst (λ u. Runs ring u fs x) run after
joined ring v w x [] fs (r ∷ rs) run after = absurd run
joined ring v w x (e ∷ es) fs [] run after = absurd run
joined ring v w x (e ∷ es) fs (r ∷ rs) run after =
    let rest = joined ring run.0 w x es fs rs run.2 after in
    (r ∷ rest.0, (run.0, run.1, rest.1))

-- a run after a run is a run
pub one_after_another : (ring : ℕ) (v w x : WorldState) (es fs : List EventData) → Runs ring v es w → Runs ring w fs x → Runs ring v (es ++ fs) x
one_after_another ring v w x es fs first second = joined ring v w x es fs first.0 first.1 second

-- the world of these channels and pieces
abbrev pub world : List ChannelState → List PieceData → WorldState
world channels out = record { channels = channels; out = out }

-- one event, of the channel that stands at an index
pub at_place : (ring : ℕ) (channels : List ChannelState) (out : List PieceData) (k : ℕ) (c d : ChannelState) (event : EventData) (reply : Reply)
    (more : List PieceData)
    → slice_get channels k ≡ Some c → c.settings.channel ≡ event_channel event → ChannelDoes ring c event reply d more
    → WorldStep ring (world channels out) event (Ok reply) (world (slice_set channels k d) (out ++ more))
at_place ring channels out k c d event reply more there named does = (k, c, d, more, record { there = there; named = named }, does, refl)

-- one event at which nothing is written
pub quiet : (ring : ℕ) (channels : List ChannelState) (out : List PieceData) (k : ℕ) (c d : ChannelState) (event : EventData) (reply : Reply)
    → slice_get channels k ≡ Some c → c.settings.channel ≡ event_channel event → ChannelDoes ring c event reply d []
    → WorldStep ring (world channels out) event (Ok reply) (world (slice_set channels k d) out)
quiet ring channels out k c d event reply there named does =
    subst (λ ps. WorldStep ring (world channels out) event (Ok reply) (world (slice_set channels k d) ps)) (append-nil out)
    (at_place ring channels out k c d event reply [] there named does)

-- wherever a channel stands that is c, these events, at which nothing is written, leave it d and all
-- else as it was
abbrev pub Makes : ℕ → List EventData → ChannelState → ChannelState → Type 0
Makes ring events c d = (channels : List ChannelState) (out : List PieceData) (k : ℕ) → slice_get channels k ≡ Some c
    → Runs ring (world channels out) events (world (slice_set channels k d) out)

pub makes_none : (ring : ℕ) (c : ChannelState) → Makes ring [] c c
makes_none ring c channels out k there = subst (λ cs. Runs ring (world channels out) [] (world cs out)) (sym (set_same channels k c there))
    (nowhere ring (world channels out))

pub makes_one : (ring : ℕ) (c d : ChannelState) (event : EventData) (reply : Reply) → c.settings.channel ≡ event_channel event
    → ChannelDoes ring c event reply d [] → Makes ring (event ∷ []) c d
makes_one ring c d event reply named does channels out k there =
    then_on ring (world channels out) (world (slice_set channels k d) out) (world (slice_set channels k d) out) event [] reply
    (quiet ring channels out k c d event reply there named does) (nowhere ring (world (slice_set channels k d) out))

pub makes_both : (ring : ℕ) (c d e : ChannelState) (es fs : List EventData) → Makes ring es c d → Makes ring fs d e → Makes ring (es ++ fs) c e
makes_both ring c d e es fs first second channels out k there =
    one_after_another ring (world channels out) (world (slice_set channels k d) out) (world (slice_set channels k e) out) es fs
    (first channels out k there)
    (subst (λ cs. Runs ring (world (slice_set channels k d) out) fs (world cs out)) (set-set channels k d e)
    (second (slice_set channels k d) out k (set_there channels k c d there)))
