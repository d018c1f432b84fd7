-- What is kept of the recordings of a run, and the recordings that it stands for.
use Rattle.std.specs.Prelude.{ℕ, ◌≡◌, ◌≢◌, true, is_some, List, [], ◌∷◌, ◌++◌, Option, None, Some}
use Rattle.std.specs.Ordering.{nat_cmp}
use Rattle.std.specs.BTreeMap.{BTreeMap, get}
use Rattle.rec_reader.specs.Packets.{PacketData}
use Rattle.rec_runs.specs.declared.channel.ChannelRun.{ChannelRun}
use Rattle.rec_runs.specs.declared.records.RunRecords.{RunRecords}
use Rattle.rec_runs.specs.RunSayings.{run_has}
use Rattle.rec_runs.specs.RunStates.{RunState, run_data, unnamed_run, state_of_run}

-- the state of a channel of which this is kept, if anything is
abbrev pub state_held : Option ChannelRun → RunState
state_held None = unnamed_run
state_held (Some run) = run_data run

abbrev pub state_in : BTreeMap ℕ ChannelRun → (channel : ℕ) → RunState
state_in channels channel = state_held (get nat_cmp channels channel)

-- the channel has this state now, and is there; each other one is as it was
pub record SetsRun (old : BTreeMap ℕ ChannelRun) (channel : ℕ) (state : RunState)
    (new : BTreeMap ℕ ChannelRun)
    : Type 0 where
  pub here : state_in new channel ≡ state
  pub there : is_some (get nat_cmp new channel) ≡ true
  pub others : (other : ℕ) → channel ≢ other → get nat_cmp new other ≡ get nat_cmp old other

-- these recordings are read, and these packets of the one that follows them: the channels of them
-- are kept, each with its state
pub record RunStandsFor (records : RunRecords) (earlier : List (List PacketData))
    (own : List PacketData) : Type 0 where
  pub states : (channel : ℕ) → state_in records.channels channel ≡ state_of_run channel earlier own
  pub has : (channel : ℕ)
      → is_some (get nat_cmp records.channels channel) ≡ run_has channel (earlier ++ own ∷ [])

-- whatever recordings and packets the one stands for, the other stands for them too
abbrev pub StandsStill : RunRecords → RunRecords → Type 0
StandsStill old new =
    (earlier : List (List PacketData)) (own : List PacketData)
    → RunStandsFor old earlier own → RunStandsFor new earlier own

-- it stands for them with a packet more of the recording in hand
abbrev pub TakesPacketOfRun : RunRecords → PacketData → RunRecords → Type 0
TakesPacketOfRun old packet new =
    (earlier : List (List PacketData)) (own : List PacketData)
    → RunStandsFor old earlier own → RunStandsFor new earlier (own ++ packet ∷ [])

-- the recording in hand is over, and the next one begins
abbrev pub BeginsNext : RunRecords → RunRecords → Type 0
BeginsNext old new =
    (earlier : List (List PacketData)) (own : List PacketData)
    → RunStandsFor old earlier own → RunStandsFor new (earlier ++ own ∷ []) []
