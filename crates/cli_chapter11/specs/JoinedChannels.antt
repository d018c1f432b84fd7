-- What recordings that are joined name.
use Rattle.std.specs.Prelude.{ℕ, ◌≡◌, ◌⊎◌, ◌<◌, nat_lt, if◌then◌else◌, List, map, get_or, length}
use Rattle.std.specs.Prelude.{Option, None, Some}
use Rattle.std.specs.List.{flat_map}
use Rattle.ch11_channels.specs.declared.channels.FileChannel.{FileChannel}
use Rattle.ch11_channels.specs.declared.channels.RunChannel.{RunChannel}
use Rattle.ch11_channels.specs.FreeIds.{AreAllTaken}
use Rattle.ch11_channels.specs.GivenIds.{AreNumberedChannels, NoIdIsFree, is_id_of}
use Rattle.rec_words.specs.declared.setup_file.RecordingSettings.{RecordingSettings}
use Rattle.rec_whole.specs.declared.refusal.WholeRefusal.TheVariants.{Other}
use Rattle.cli_streams.specs.declared.ending.CommandEnding.{CommandEnding}
use Rattle.cli_streams.specs.declared.ending.CommandEnding.TheVariants.{InRun, Joined}
use Rattle.cli_streams.specs.declared.run_refusal.RunRefusal.TheVariants.{Part}
use Rattle.cli_chapter11.specs.declared.joined_channels.ListedRecording.{ListedRecording}

-- the place of the recording that it follows
abbrev pub after_of : RecordingSettings → Option ℕ
after_of recording = recording.after

-- why a recording isn't in a file: a packet of another kind stands at this place, or it isn't a
-- part of its run there
pub data ListedRefusal : Type 0 where
  OfOther : (at : ℕ) → ListedRefusal
  OfPart : (at : ℕ) → ListedRefusal

-- what stands first of the two
abbrev pub first_refusal : (other part : Option ℕ) → Option ListedRefusal
first_refusal None None = None
first_refusal None (Some part) = Some (OfPart part)
first_refusal (Some other) None = Some (OfOther other)
first_refusal (Some other) (Some part) =
    if nat_lt other part then Some (OfOther other) else Some (OfPart part)

abbrev pub listed_refusal : ListedRecording → Option ListedRefusal
listed_refusal listed = first_refusal listed.other listed.part

-- none of them is refused
abbrev pub NoneRefused : List ListedRecording → Type 0
NoneRefused all =
    (place : ℕ) → place < length all → get_or (map listed_refusal all) place None ≡ None

-- how the command ends by it, of the recording at this place
abbrev pub ending_listed : ListedRefusal → (place : ℕ) → CommandEnding
ending_listed (OfOther at) place = Joined (Other at) place
ending_listed (OfPart at) place = InRun (Part at) place

-- the first recording that isn't in a file is this one, for this reason
pub record IsFirstRefusal (refusals : List (Option ListedRefusal)) (place : ℕ)
    (refusal : ListedRefusal) : Type 0 where
  pub there : get_or refusals place None ≡ Some refusal
  pub first : (earlier : ℕ) → earlier < place → get_or refusals earlier None ≡ None

-- the channels that a recording names, as its run has them, and those that recordings name
abbrev pub listed_channels_of : ListedRecording → List RunChannel
listed_channels_of listed = map (λ id. record { run = listed.run; channel = id }) listed.ids.items

abbrev pub all_listed_channels : List ListedRecording → List RunChannel
all_listed_channels = flat_map listed_channels_of

-- a file of these channels can't be: one of them would have no ID, or the time would have none
abbrev pub IsFull : List RunChannel → Type 0
IsFull named =
    NoIdIsFree named
    ⊎ ((channels : List FileChannel) × AreNumberedChannels named channels
    × AreAllTaken (is_id_of channels))
