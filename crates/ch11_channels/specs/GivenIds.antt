-- The channels of a file of several recordings, and the IDs that they have in it.
use Rattle.std.specs.Prelude.{ℕ, ◌≡◌, ◌<◌, ◌^◌, ◌==◌, ◌&&◌, ◌||◌, ◌⊎◌, Bool, true, false}
use Rattle.std.specs.Prelude.{if◌then◌else◌, List, [], ◌∷◌, ◌++◌, map, length, get_or}
use Rattle.std.specs.List.{list_any}
use Rattle.ch11_channels.specs.declared.channels.RunChannel.{RunChannel}
use Rattle.ch11_channels.specs.declared.channels.FileChannel.{FileChannel}
use Rattle.ch11_channels.specs.FreeIds.{IsLeastFree}

-- ---- channels

-- it is this channel of this run
abbrev pub is_same : (one other : RunChannel) → Bool
is_same one other = other.run == one.run && other.channel == one.channel

-- a channel that is named has this ID in its recordings
abbrev pub has_own : (id : ℕ) → RunChannel → Bool
has_own id named = named.channel == id

-- whose frames a channel of the file has
abbrev pub owner : FileChannel → RunChannel
owner channel = channel.of

-- its ID in the file
abbrev pub given_id : FileChannel → ℕ
given_id channel = channel.id

-- it has those of this one; it has this ID in its recordings; it has this ID in the file
abbrev pub is_owned_by : RunChannel → FileChannel → Bool
is_owned_by of channel = is_same of channel.of

abbrev pub was_own : (id : ℕ) → FileChannel → Bool
was_own id channel = channel.of.channel == id

abbrev pub is_given : (id : ℕ) → FileChannel → Bool
is_given id channel = channel.id == id

-- channels, each where it is named for the first time, without those that are there before
abbrev pub each_once : (before : List RunChannel) → List RunChannel → List RunChannel
each_once before [] = []
each_once before (one ∷ named) =
    if list_any (is_same one) before then each_once before named
    else one ∷ each_once (before ++ one ∷ []) named

-- ---- IDs

-- whether one of these has this ID in the file
abbrev pub is_id_of : (channels : List FileChannel) → (id : ℕ) → Bool
is_id_of channels id = list_any (is_given id) channels

-- an ID is taken that some recording names, or that a channel ahead was given
abbrev pub is_taken_id : (named : List RunChannel) → (ahead : List FileChannel) → (id : ℕ) → Bool
is_taken_id named ahead id = list_any (has_own id) named || is_id_of ahead id

-- a channel behind these keeps its ID, if none of them has the same in its recordings; else it has
-- the least one that isn't taken
abbrev pub HasId : (named : List RunChannel) → (ahead : List FileChannel) → FileChannel → Type 0
HasId named ahead channel =
    ((list_any (was_own channel.of.channel) ahead ≡ false) × (channel.id ≡ channel.of.channel))
    ⊎ ((list_any (was_own channel.of.channel) ahead ≡ true)
    × IsLeastFree (is_taken_id named ahead) channel.id)

-- so has each of some channels behind these
abbrev pub HaveIds : (named : List RunChannel) → (ahead channels : List FileChannel) → Type 0
HaveIds named ahead [] = Unit {0}
HaveIds named ahead (channel ∷ channels) =
    HasId named ahead channel × HaveIds named (ahead ++ channel ∷ []) channels

-- the channels of a file whose recordings name these, in their order
pub record AreNumberedChannels (named : List RunChannel)
    (channels : List FileChannel) : Type 0 where
  pub each : map owner channels ≡ each_once [] named
  pub ids : HaveIds named [] channels

-- there are no such channels, since one of them would have to have an ID where none is free
abbrev pub NoIdIsFree : (named : List RunChannel) → Type 0
NoIdIsFree named = (channels : List FileChannel) → ¬ AreNumberedChannels named channels

-- ---- a table of IDs

-- it has each ID, and says whether it is taken
pub record AreTakenIds (taken : List Bool) (named : List RunChannel)
    (ahead : List FileChannel) : Type 0 where
  pub whole : length taken ≡ 2 ^ 16
  pub said : (id : ℕ) → id < 2 ^ 16 → get_or taken id false ≡ is_taken_id named ahead id
