-- What is known of recordings by those of their runs, and which ends are left out.
use Rattle.std.specs.Prelude.{ℕ, ◌≡◌, ◌==◌, ◌&&◌, ◌||◌, nat_lt, Bool, true, false, List, [], ◌∷◌}
use Rattle.std.specs.Prelude.{map, Option, None, Some}
use Rattle.std.specs.List.{count_by, list_any}
use Rattle.std.specs.Ordering.{nat_cmp}
use Rattle.std.specs.BTreeMap.{BTreeMap, get}
use Rattle.rec_reader.specs.Packets.{PacketData}
use Rattle.rec_runs.specs.declared.record_moves.RecordMoves.{RecordMoves}
use Rattle.rec_runs.specs.declared.records.RunRecords.{RunRecords}
use Rattle.rec_runs.specs.Moves.{AreRecordMoves}
use Rattle.rec_runs.specs.RunsRead.{RunStandsFor}
use Rattle.rec_pieces.specs.Listings.{other_of}
use Rattle.rec_pieces.specs.PieceListings.{named_channels}
use Rattle.joined_theorem.specs.RunMoves.{with_one_of}
use Rattle.cli_chapter11.specs.declared.joined_channels.ListedRecording.{ListedRecording}
use Rattle.cli_chapter11.specs.RunParts.{IsPartOfRun}

-- ---- runs

abbrev pub run_of_listed : ListedRecording → ℕ
run_of_listed listed = listed.run

abbrev pub is_run : (run other : ℕ) → Bool
is_run run other = other == run

-- two recordings or more are of this run, by the runs of all
abbrev pub is_several : (run : ℕ) → (runs : List ℕ) → Bool
is_several run runs = nat_lt 1 (count_by (is_run run) runs)

-- ---- what is known of recordings

-- it is known by its packets, and by the recordings of its run before it: the channels that they
-- name, the first packet of another kind, and, if its run has several, where it isn't a part of it,
-- and what its records become
pub record IsKnownBy (runs : List ℕ) (earlier : List (List PacketData)) (own : List PacketData)
    (listed : ListedRecording) : Type 0 where
  pub ids : listed.ids.items ≡ named_channels own
  pub other : listed.other ≡ other_of own
  pub part : is_several listed.run runs ≡ true → IsPartOfRun own listed.part
  pub records : is_several listed.run runs ≡ true
      → AreRecordMoves earlier own listed.records.items
  pub alone : is_several listed.run runs ≡ false
      → (listed.part ≡ None) × (listed.records.items ≡ [])

-- each of them is, where these are the recordings of each run before them
abbrev pub AreListedIn : (runs : List ℕ) → (earlier : ℕ → List (List PacketData))
    → List ListedRecording → List (List PacketData) → Type 0
AreListedIn runs earlier [] [] = Unit {0}
AreListedIn runs earlier (listed ∷ all) (own ∷ more) =
    IsKnownBy runs (earlier listed.run) own listed
    × AreListedIn runs (with_one_of listed.run own earlier) all more
AreListedIn runs earlier all more = ⊥

-- before all of them there is none
abbrev pub AreListedInRuns : List ListedRecording → List (List PacketData) → Type 0
AreListedInRuns all read = AreListedIn (map run_of_listed all) (λ run. []) all read

-- ---- what is kept of runs

-- what is kept of a run stands for these recordings: nothing for none
abbrev pub StandsForRun : Option RunRecords → List (List PacketData) → Type 0
StandsForRun None recordings = recordings ≡ []
StandsForRun (Some records) recordings = RunStandsFor records recordings []

-- that of each run that has several does
abbrev pub StandForRuns : (runs : List ℕ) → BTreeMap ℕ RunRecords
    → (recordings : ℕ → List (List PacketData)) → Type 0
StandForRuns runs kept recordings =
    (run : ℕ) → is_several run runs ≡ true
    → StandsForRun (get nat_cmp kept run) (recordings run)

-- ---- ends that are left out

-- the recording names the channel; one of these does that is of this run
abbrev pub is_id : (channel id : ℕ) → Bool
is_id channel id = channel == id

abbrev pub names_in_run : (run channel : ℕ) → ListedRecording → Bool
names_in_run run channel listed =
    listed.run == run && list_any (is_id channel) listed.ids.items

abbrev pub is_named_later : (run channel : ℕ) → (later : List ListedRecording) → Bool
is_named_later run channel later = list_any (names_in_run run channel) later

-- the end of a channel of a run is left out if one of the later recordings of the run names it
abbrev pub left_by : (run : ℕ) → (later : List ListedRecording) → RecordMoves → RecordMoves
left_by run later moves =
    record moves { continues = moves.continues || is_named_later run moves.channel later }

-- the same, of channels that are named
abbrev pub left_by_ids : (ids : List ℕ) → RecordMoves → RecordMoves
left_by_ids ids moves =
    record moves { continues = moves.continues || list_any (is_id moves.channel) ids }
