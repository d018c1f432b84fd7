-- What the records of recordings that are joined become: those of a channel by the recordings of
-- its run.
use Rattle.std.specs.Prelude.{ℕ, ◌≡◌, ◌≢◌, ◌<◌, ◌==◌, Bool, true, if◌then◌else◌}
use Rattle.std.specs.Prelude.{List, [], ◌∷◌, ◌++◌, Ok}
use Rattle.std.specs.List.{AllByRecursion, filter, list_any}
use Rattle.ch11_channels.specs.declared.channels.FileChannel.{FileChannel}
use Rattle.rec_reader.specs.declared.audits.answer.Audit.{Audit}
use Rattle.rec_reader.specs.Audits.{Audits}
use Rattle.rec_reader.specs.Packets.{PacketData}
use Rattle.rec_reader.specs.Channels.{saying_of}
use Rattle.rec_runs.specs.declared.record_moves.RecordMoves.{RecordMoves}
use Rattle.rec_runs.specs.Moves.{moves_of_record}
use Rattle.rec_runs.specs.RunSayings.{is_said_of}
use Rattle.rec_joined.specs.declared.joined.Part.{Part}
use Rattle.rec_joined.specs.Moving.{moving_of}
use Rattle.rec_joined.specs.MovedRecords.{record_moving}
use Rattle.rec_joined.specs.JoinedFrames.{HasOwnId}

-- ---- recordings of a run

-- the recordings of a run, of those that are joined
abbrev pub recordings_in_run : {P : Type 0} → (run : ℕ) → List (Part P) → List (List PacketData)
    → List (List PacketData)
recordings_in_run run (part ∷ parts) (packets ∷ more) =
    if part.moves.run == run then packets ∷ recordings_in_run run parts more
    else recordings_in_run run parts more
recordings_in_run run parts more = []

-- those of each run, with one more of this run
abbrev pub with_one_of : (run : ℕ) → List PacketData → (ℕ → List (List PacketData)) → ℕ
    → List (List PacketData)
with_one_of run packets earlier other =
    if run == other then earlier other ++ packets ∷ [] else earlier other

-- ---- channels

-- a packet of the recording names the channel; one of a recording does
abbrev pub names_channel : (channel : ℕ) → List PacketData → Bool
names_channel channel packets =
    list_any (λ (p : PacketData). is_said_of channel (saying_of p)) packets

abbrev pub name_channel : (channel : ℕ) → List (List PacketData) → Bool
name_channel channel recordings = list_any (names_channel channel) recordings

-- a recording gives this ID to the channel, and to no other one, if it is of the run; and to none
-- else
pub record IsOwnOf {P : Type 0} (id run channel : ℕ) (part : Part P) : Type 0 where
  pub own : part.moves.run ≡ run → HasOwnId (moving_of part.moves) channel id
  pub none : part.moves.run ≢ run → (other : ℕ) → (moving_of part.moves).ids other ≢ id

-- each ID is that of one channel of one run
abbrev pub HaveOwnIds : {P : Type 0} → List (Part P) → Type 0
HaveOwnIds parts =
    (id : ℕ) → 0 < id → (run : ℕ) × (channel : ℕ) × AllByRecursion (IsOwnOf id run channel) parts

-- each recording has those channels of the file that are of its run
abbrev pub HaveChannelsOfRuns : {P : Type 0} → List FileChannel → List (Part P) → Type 0
HaveChannelsOfRuns channels parts =
    AllByRecursion (λ (part : Part _). part.moves.channels.items
    ≡ filter (λ (c : FileChannel). c.of.run == part.moves.run) channels) parts

-- ---- records

-- what becomes of the records of a channel, of a recording between those of its run that stand
-- before it and those that follow: its end is left out if one of these has the channel
abbrev pub moves_between : (channel : ℕ) → (earlier : List (List PacketData))
    → (own : List PacketData)
    → (later : List (List PacketData)) → RecordMoves
moves_between channel earlier own later =
    let moves = moves_of_record channel earlier own in
    record moves { continues = name_channel channel later }

-- the records of each channel that a recording has become that, where these are the recordings of
-- each run before it
abbrev pub GoOnInRuns : {P : Type 0} → (earlier : ℕ → List (List PacketData)) → List (Part P)
    → List (List PacketData) → Type 0
GoOnInRuns earlier (part ∷ parts) (packets ∷ more) =
    ((channel : ℕ) → names_channel channel packets ≡ true → (moving_of part.moves).records channel
    ≡ record_moving (moves_between channel (earlier part.moves.run) packets
    (recordings_in_run part.moves.run parts more)))
    × GoOnInRuns (with_one_of part.moves.run packets earlier) parts more
GoOnInRuns earlier parts more = Unit {0}

-- those of joined recordings, before which none stands
abbrev pub AreMovedInRuns : {P : Type 0} → List (Part P) → List (List PacketData) → Type 0
AreMovedInRuns parts read = GoOnInRuns (λ run. []) parts read

-- ---- the audit

-- the audit says yes of each recording
abbrev pub IsApprovedAlone : List PacketData → Type 0
IsApprovedAlone packets = (own : Audit) × Audits packets (Ok own)

abbrev pub AreAllApproved : List (List PacketData) → Type 0
AreAllApproved read = AllByRecursion IsApprovedAlone read
