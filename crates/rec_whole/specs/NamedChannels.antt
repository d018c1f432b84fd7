-- Channels with their names.
use Rattle.std.specs.Prelude.{ℕ, ◌≡◌, ◌==◌, if◌then◌else◌, List, [], ◌∷◌, map, codes}
use Rattle.ch11_setup.specs.declared.setup.SetupChannel.{SetupChannel}

-- what a setup record says of a channel
pub record ChannelName : Type 0 where
  pub id : ℕ
  pub name : List ℕ
  pub net : ℕ

abbrev pub named_as : (id : ℕ) → List ℕ → (net : ℕ) → ChannelName
named_as id name net = record { id = id; name = name; net = net }

-- what it says with this name
abbrev pub name_said : SetupChannel → ChannelName
name_said channel = named_as channel.id channel.name.now channel.net

-- the first of these names that has this ID; `channel`, of the network 0, where none has it
abbrev pub name_of : List SetupChannel → (id : ℕ) → ChannelName
name_of [] id = named_as id (codes "channel") 0
name_of (channel ∷ channels) id =
    if channel.id == id then name_said channel else name_of channels id

-- the channels of these IDs, in order, each with its name
abbrev pub AreNamed : (names : List SetupChannel) → (ids : List ℕ) → List SetupChannel → Type 0
AreNamed names ids channels = map name_said channels ≡ map (name_of names) ids
