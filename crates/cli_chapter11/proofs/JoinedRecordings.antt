-- Recordings that are joined one by one, and the names of their channels.
use Rattle.std.proofs.Common.{ℕ, zero, suc, ◌+◌, ◌≡◌, ◌<◌, ◌≤◌, ◌^◌, List, [], ◌∷◌, ◌++◌, length, map, take, drop, Option, None, Some, true, cond}
use Rattle.std.proofs.Common.{refl, sym, ◌∙◌, ap, subst, append_assoc, arith, eq-eqb}
use Rattle.std.specs.Prelude.{◌==◌, if◌then◌else◌, min, slice_index_or}
use Rattle.std.specs.List.{find}
use Rattle.std.proofs.lemmas.List.{drop_more, drop_all, take_more}
use Rattle.ch11_clock.specs.declared.origin.Origin.{Origin}
use Rattle.ch11_channels.specs.declared.channels.FileChannel.{FileChannel}
use Rattle.rec_reader.specs.Packets.{PacketData}
use Rattle.rec_reader.specs.Reading.{Reads}
use Rattle.rec_pieces.specs.declared.packets.FilePackets.{FilePackets}
use Rattle.rec_joined.specs.declared.joined.Part.{Part}
use Rattle.rec_words.specs.declared.setup_file.ChannelSetup.{ChannelSetup}
use Rattle.rec_words.specs.declared.setup_file.RecordingSettings.{RecordingSettings}
use Rattle.rec_words.specs.SetupViews.{setup_channel_data}
use Rattle.cli_chapter11.specs.declared.joined_channels.ListedRecording.{ListedRecording}
use Rattle.cli_chapter11.specs.Joining.{AreHeld, AreMovedBefore, AreReadings, IsMovedBy}
use Rattle.cli_chapter11.specs.Joining.{has_id, name_by_table, with_file_id, said_as, said_first, said_in_table}

-- ---- names

said_next : (id : ℕ) (said : List ChannelSetup) (k : ℕ) (one : ChannelSetup) → k < length said → one ≡ slice_index_or said k one
    → map setup_channel_data (drop k said) ≡ setup_channel_data one ∷ map setup_channel_data (drop (k + 1) said)
said_next id said k one within is =
    ap (map setup_channel_data) (drop_more said k one within ∙ ap (λ (c : ChannelSetup). c ∷ drop (k + 1) said) (sym is))

-- the one at hand is the channel
is_said : (id : ℕ) (said : List ChannelSetup) (k : ℕ) (one : ChannelSetup) → k < length said → one ≡ slice_index_or said k one
    → (one.id == id) ≡ true → find (has_id id) (map setup_channel_data said) ≡ find (has_id id) (map setup_channel_data (drop k said))
    → find (has_id id) (map setup_channel_data said) ≡ Some (setup_channel_data one)
is_said id said k one within is same so =
    so ∙ ap (find (has_id id)) (said_next id said k one within is)
    ∙ ap (λ b. cond b (Some (setup_channel_data one)) (find (has_id id) (map setup_channel_data (drop (k + 1) said)))) same

pub name_found : (recording : RecordingSettings) (channel : FileChannel) (said : List ChannelSetup) (k : ℕ) (one : ChannelSetup)
    → said ≡ recording.channels.items → k < length said → one ≡ slice_index_or said k one → one.id ≡ channel.of.channel
    → find (has_id channel.of.channel) (map setup_channel_data said) ≡ find (has_id channel.of.channel) (map setup_channel_data (drop k said))
    → said_in_table channel recording ≡ with_file_id channel.id (setup_channel_data one) ∷ []
name_found recording channel said k one items within is same so =
    ap (λ l. said_as channel.id (find (has_id channel.of.channel) (map setup_channel_data l))) (sym items)
    ∙ ap (said_as channel.id) (is_said channel.of.channel said k one within is (eq-eqb one.id channel.of.channel same) so)

pub name_missing : (recording : RecordingSettings) (channel : FileChannel) (said : List ChannelSetup) (k : ℕ) → said ≡ recording.channels.items
    → length said ≤ k
    → find (has_id channel.of.channel) (map setup_channel_data said) ≡ find (has_id channel.of.channel) (map setup_channel_data (drop k said))
    → said_in_table channel recording ≡ []
name_missing recording channel said k items end so =
    ap (λ l. said_as channel.id (find (has_id channel.of.channel) (map setup_channel_data l))) (sym items)
    ∙ ap (said_as channel.id) (so ∙ ap (λ l. find (has_id channel.of.channel) (map setup_channel_data l)) (drop_all k said end))

-- ---- names by tables

-- what is said of the recordings from one on
pub names_next : (recordings : List RecordingSettings) (all : List ListedRecording) (channel : FileChannel) (k : ℕ) (recording : RecordingSettings)
    (listed : ListedRecording) → k < length recordings → k < length all → recording ≡ slice_index_or recordings k recording
    → listed ≡ slice_index_or all k listed
    → name_by_table (drop k recordings) (drop k all) channel
    ≡ said_first (if listed.run == channel.of.run then said_in_table channel recording else [])
    (name_by_table (drop (k + 1) recordings) (drop (k + 1) all) channel)
names_next recordings all channel k recording listed within all_within is all_is =
    ap (λ l. name_by_table l (drop k all) channel)
    (drop_more recordings k recording within ∙ ap (λ (r : RecordingSettings). r ∷ drop (k + 1) recordings) (sym is))
    ∙ ap (λ l. name_by_table (recording ∷ drop (k + 1) recordings) l channel)
    (drop_more all k listed all_within ∙ ap (λ (r : ListedRecording). r ∷ drop (k + 1) all) (sym all_is))

-- none is left
no_tables : (recordings : List RecordingSettings) (channel : FileChannel) → name_by_table recordings [] channel ≡ []
no_tables [] channel = refl
no_tables (r ∷ rs) channel = refl

pub names_end : (recordings : List RecordingSettings) (all : List ListedRecording) (channel : FileChannel) (k : ℕ)
    → min (length recordings) (length all) ≤ k → name_by_table (drop k recordings) (drop k all) channel ≡ []
names_end [] all channel zero end = refl
names_end [] all channel (suc k) end = refl
names_end (r ∷ rs) [] channel zero end = refl
names_end (r ∷ rs) [] channel (suc k) end = no_tables (drop k rs) channel
names_end (r ∷ rs) (a ∷ more) channel zero end = absurd (omega (arith, end))
names_end (r ∷ rs) (a ∷ more) channel (suc k) end = names_end rs more channel k (omega (arith, end))

-- ---- lists, one more

pub taken_more : {A : Type 0} (xs : List A) (k : ℕ) (x : A) → k < length xs → x ≡ slice_index_or xs k x → take (k + 1) xs ≡ take k xs ++ x ∷ []
taken_more xs k x within is = take_more xs k x within ∙ ap (λ y. take k xs ++ y ∷ []) (sym is)

-- ---- what is moved

moved_snoc : {F : Type 0} (held : F → Option (List ℕ)) (start : Origin) (channels : List FileChannel) (files : List F)
    (tables : List RecordingSettings) (all behind : List ListedRecording)
    (parts : List (Part (FilePackets F))) (file : F) (table : RecordingSettings) (listed : ListedRecording) (part : Part (FilePackets F))
    → AreMovedBefore held start channels (listed ∷ behind) files tables all parts
    → AreMovedBefore held start channels behind (file ∷ []) (table ∷ []) (listed ∷ []) (part ∷ [])
    → AreMovedBefore held start channels behind (files ++ file ∷ []) (tables ++ table ∷ []) (all ++ listed ∷ []) (parts ++ part ∷ [])
moved_snoc held start channels [] [] [] behind [] file table listed part are one = one
moved_snoc held start channels (f ∷ fs) (c ∷ cs) (r ∷ rs) behind (p ∷ ps) file table listed part are one = (
  are.0,
  subst (λ later. IsMovedBy start channels c r later p.moves) (sym (append_assoc rs (listed ∷ []) behind)) are.1,
  moved_snoc held start channels fs cs rs behind ps file table listed part are.2 one,
)
moved_snoc held start channels files tables all behind parts file table listed part are one = absurd are

pub moved_more : {F : Type 0} (held : F → Option (List ℕ)) (start : Origin) (channels : List FileChannel) (files : List F)
    (tables : List RecordingSettings) (all : List ListedRecording)
    (old new : List (Part (FilePackets F))) (k : ℕ) (file : F) (table : RecordingSettings) (listed : ListedRecording) (part : Part (FilePackets F))
    → k < length files → k < length tables → k < length all
    → file ≡ slice_index_or files k file → table ≡ slice_index_or tables k table → listed ≡ slice_index_or all k listed
    → new ≡ old ++ part ∷ []
    → AreMovedBefore held start channels (drop (k + 1) all) (file ∷ []) (table ∷ []) (listed ∷ []) (part ∷ [])
    → AreMovedBefore held start channels (drop k all) (take k files) (take k tables) (take k all) old
    → AreMovedBefore held start channels (drop (k + 1) all) (take (k + 1) files) (take (k + 1) tables) (take (k + 1) all) new
moved_more held start channels files tables all old new k file table listed part f c r fi ci ri pushed one are =
    rw (taken_more files k file f fi) (rw (taken_more tables k table c ci) (rw (taken_more all k listed r ri) (rw pushed
    (moved_snoc held start channels (take k files) (take k tables) (take k all) (drop (k + 1) all) old file table listed part
    (subst (λ behind. AreMovedBefore held start channels behind (take k files) (take k tables) (take k all) old)
    (drop_more all k listed r ∙ ap (λ (l : ListedRecording). l ∷ drop (k + 1) all) (sym ri)) are) one))))

-- ---- what is read

pub held_len : {F : Type 0} (held : F → Option (List ℕ)) (files : List F) (recordings : List (List ℕ)) → AreHeld held files recordings
    → length recordings ≡ length files
held_len held [] [] are = refl
held_len held [] (r ∷ rs) are = absurd are
held_len held (f ∷ fs) [] are = absurd are
held_len held (f ∷ fs) (r ∷ rs) are = ap suc (held_len held fs rs are.2)

pub record IsHeldAt {F : Type 0} (held : F → Option (List ℕ)) (file : F) (recordings : List (List ℕ)) (k : ℕ) : Type 0 where
  pub recording : List ℕ
  pub is : take (k + 1) recordings ≡ take k recordings ++ recording ∷ []
  pub said : held file ≡ Some recording
  pub few : length recording < 2 ^ 64

pub held_at : {F : Type 0} (held : F → Option (List ℕ)) (files : List F) (recordings : List (List ℕ)) (k : ℕ) (file : F) → AreHeld held files recordings
    → k < length files → file ≡ slice_index_or files k file → IsHeldAt held file recordings k
held_at held [] [] k file are within is = absurd (omega arith)
held_at held [] (r ∷ rs) k file are within is = absurd are
held_at held (f ∷ fs) [] k file are within is = absurd are
held_at held (f ∷ fs) (r ∷ rs) zero file are within is = record {
  recording = r;
  is = refl;
  said = ap held is ∙ are.0;
  few = are.1;
}
held_at held (f ∷ fs) (r ∷ rs) (suc k) file are within is =
    let later = held_at held fs rs k file are.2 (omega arith) is in
    let more : suc k + 1 ≡ suc (k + 1) = omega arith in
    record {
      recording = later.recording;
      is = ap (λ n. take n (r ∷ rs)) more ∙ ap (λ l. r ∷ l) later.is;
      said = later.said;
      few = later.few;
    }

readings_snoc : (recordings : List (List ℕ)) (read : List (List PacketData)) (recording : List ℕ) (own : List PacketData)
    → AreReadings recordings read → Reads recording own None → AreReadings (recordings ++ recording ∷ []) (read ++ own ∷ [])
readings_snoc [] [] recording own are one = (one, tt)
readings_snoc [] (p ∷ ps) recording own are one = absurd are
readings_snoc (r ∷ rs) [] recording own are one = absurd are
readings_snoc (r ∷ rs) (p ∷ ps) recording own are one = (are.0, readings_snoc rs ps recording own are.1 one)

pub readings_more : {F : Type 0} (held : F → Option (List ℕ)) (file : F) (recordings : List (List ℕ)) (k : ℕ) (read : List (List PacketData))
    (own : List PacketData) (at : IsHeldAt held file recordings k) → AreReadings (take k recordings) read → Reads at.recording own None
    → AreReadings (take (k + 1) recordings) (read ++ own ∷ [])
readings_more held file recordings k read own at are one =
    subst (λ l. AreReadings l (read ++ own ∷ [])) (sym at.is) (readings_snoc (take k recordings) read at.recording own are one)
