-- Packets that are listed otherwise than they tell: the end of a channel, as one that was offered
-- no frame.
use Rattle.std.specs.Prelude.{ℕ, ◌≡◌, ◌⊎◌, List}
use Rattle.std.specs.List.{AllByRecursion, AllZip}
use Rattle.ch11_packet.specs.declared.class.What.{What}
use Rattle.ch11_packet.specs.declared.class.What.TheVariants.{Frames, Program, End, Other}
use Rattle.rec_reader.specs.Packets.{PacketData, SpellsPacket, packet_of}

-- what a packet is listed as: what it tells, or an end of its channel that was offered no frame
abbrev pub IsListedWhat : (told listed : What) → Type 0
IsListedWhat (Frames count) listed = listed ≡ Frames count
IsListedWhat (Program channel version first count) listed =
    listed ≡ Program channel version first count
IsListedWhat (End channel offered kept) listed =
    (listed ≡ End channel offered kept) ⊎ ((other : ℕ) × (listed ≡ End channel 0 other))
IsListedWhat Other listed = listed ≡ Other

-- it is listed with its place, its header and its body
abbrev pub IsListedAs : (told listed : PacketData) → Type 0
IsListedAs told listed =
    (listed ≡ packet_of told.at told.header told.body listed.what)
    × IsListedWhat told.what listed.what

abbrev pub IsSpelled : PacketData → Type 0
IsSpelled packet = (bytes : List ℕ) × SpellsPacket packet bytes

-- packets are listed so, each of which some bytes spell
pub record AreListedAs (told listed : List PacketData) : Type 0 where
  pub spelled : AllByRecursion IsSpelled told
  pub each : AllZip IsListedAs told listed
