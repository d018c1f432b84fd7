-- Recordings that are known one by one, the ends that later ones leave out, and what their records become in their runs.
use Rattle.std.proofs.Common.{ℕ, zero, suc, ◌+◌, ◌≡◌, ◌≢◌, ◌<◌, ◌≤◌, ◌^◌, List, [], ◌∷◌, ◌++◌, map, length, Option, None, Some}
use Rattle.std.proofs.Common.{Bool, true, false, cond, inl, inr, refl, sym, ◌∙◌, ap, subst, arith, append-nil, eq-eqb, length-append}
use Rattle.std.specs.Prelude.{◌==◌, ◌&&◌, ◌||◌, nat_lt, if◌then◌else◌, unwrap_or}
use Rattle.std.specs.List.{AllByRecursion, count_by, filter, find, last_or, list_any, range_with_len}
use Rattle.std.proofs.lemmas.Bool.{cases_Bool, eqb-true, ltb-false}
use Rattle.std.proofs.lemmas.List.Folds.{list_any-append}
use Rattle.std.proofs.lemmas.List.Sums.{sum_by-cons}
use Rattle.std.proofs.lemmas.Option.{none-some, same_Some}
use Rattle.std.proofs.lemmas.Simd.{map-map}
use Rattle.ch11_packet.specs.declared.class.What.{What}
use Rattle.ch11_packet.specs.declared.class.What.TheVariants.{Frames, Program, End, Other}
use Rattle.ch11_packet.specs.Classes.{HasClass, data_in}
use Rattle.ch11_packet.specs.Header.{HeaderData, IsHeader}
use Rattle.rec_reader.specs.Packets.{PacketData, BeginsPackets}
use Rattle.rec_reader.specs.Channels.{saying_in, saying_of}
use Rattle.rec_runs.specs.declared.record_moves.RecordMoves.{RecordMoves}
use Rattle.rec_runs.specs.Moves.{AreRecordMoves, continued_in, moves_channel, moves_for, moves_of_record, no_moves}
use Rattle.rec_runs.specs.RunSayings.{is_said_of, recording_has, run_has}
use Rattle.rec_runs.proofs.RunBeginning.{no_ends, nothing_moved}
use Rattle.rec_pieces.specs.declared.entry.PieceKind.{PieceKind}
use Rattle.rec_pieces.specs.declared.entry.PieceKind.TheVariants.{Frames as IsFrames, Record, Uncounted}
use Rattle.rec_pieces.specs.declared.entry.PieceEntry.{PieceEntry}
use Rattle.rec_pieces.specs.declared.packets.FilePackets.{FilePackets}
use Rattle.rec_pieces.specs.Entries.{named_by, packet_names}
use Rattle.rec_pieces.specs.Listings.{channel_entries, entry_named, entry_of_packet, other_after, other_from, other_of}
use Rattle.rec_pieces.specs.PieceListings.{are_some, is_named, named_channels}
use Rattle.rec_joined.specs.declared.joined.Part.{Part}
use Rattle.rec_joined.specs.MovedRecords.{record_moving}
use Rattle.joined_theorem.specs.RunMoves.{AreAllApproved, AreMovedInRuns, GoOnInRuns, HaveChannelsOfRuns, IsApprovedAlone}
use Rattle.joined_theorem.specs.RunMoves.{moves_between, name_channel, names_channel, recordings_in_run, with_one_of}
use Rattle.joined_theorem.proofs.RunStates.{is_named as named_in, own_end}
use Rattle.ch11_clock.specs.declared.origin.Origin.{Origin}
use Rattle.ch11_channels.specs.declared.channels.FileChannel.{FileChannel}
use Rattle.rec_words.specs.declared.setup_file.RecordingSettings.{RecordingSettings}
use Rattle.cli_chapter11.specs.declared.joined_channels.ListedRecording.{ListedRecording}
use Rattle.cli_chapter11.specs.JoinedChannels.{NoneRefused, first_refusal}
use Rattle.cli_chapter11.specs.JoinedChannels.ListedRefusal.{OfOther, OfPart}
use Rattle.cli_chapter11.specs.Joining.{AreMovedBy, AreReadings}
use Rattle.cli_chapter11.specs.RecordsInRuns.{AreListedIn, AreListedInRuns, IsKnownBy, is_id, is_named_later, is_run, is_several, left_by, left_by_ids}
use Rattle.cli_chapter11.specs.RecordsInRuns.{names_in_run, run_of_listed}

-- ---- one more recording

-- the recordings of each run, with these behind those before them
abbrev pub listed_after : (earlier : ℕ → List (List PacketData)) → List ListedRecording
    → List (List PacketData) → ℕ → List (List PacketData)
listed_after earlier (listed ∷ all) (own ∷ more) =
    listed_after (with_one_of listed.run own earlier) all more
listed_after earlier all more = earlier

pub listed_snoc : (runs : List ℕ) (earlier : ℕ → List (List PacketData)) (all : List ListedRecording) (read : List (List PacketData))
    (listed : ListedRecording) (own : List PacketData) → AreListedIn runs earlier all read
    → IsKnownBy runs (listed_after earlier all read listed.run) own listed
    → AreListedIn runs earlier (all ++ listed ∷ []) (read ++ own ∷ [])
listed_snoc runs earlier [] [] listed own are one = (one, tt)
listed_snoc runs earlier [] (p ∷ ps) listed own are one = absurd are
listed_snoc runs earlier (l ∷ ls) [] listed own are one = absurd are
listed_snoc runs earlier (l ∷ ls) (p ∷ ps) listed own are one =
    (are.0, listed_snoc runs (with_one_of l.run p earlier) ls ps listed own are.1 one)

pub after_snoc : (runs : List ℕ) (earlier : ℕ → List (List PacketData)) (all : List ListedRecording) (read : List (List PacketData))
    (listed : ListedRecording) (own : List PacketData) → AreListedIn runs earlier all read
    → listed_after earlier (all ++ listed ∷ []) (read ++ own ∷ []) ≡ with_one_of listed.run own (listed_after earlier all read)
after_snoc runs earlier [] [] listed own are = refl
after_snoc runs earlier [] (p ∷ ps) listed own are = absurd are
after_snoc runs earlier (l ∷ ls) [] listed own are = absurd are
after_snoc runs earlier (l ∷ ls) (p ∷ ps) listed own are = after_snoc runs (with_one_of l.run p earlier) ls ps listed own are.1

-- ---- ends that are left out

or_none : (b : Bool) → (b || false) ≡ b
or_none true = refl
or_none false = refl

or_one : (b : Bool) → (b || true) ≡ true
or_one true = refl
or_one false = refl

or_assoc : (a b c : Bool) → ((a || b) || c) ≡ (a || (b || c))
or_assoc true b c = refl
or_assoc false b c = refl

true_false : true ≡ false → ⊥
true_false is = cc

same_map : {A B : Type 0} (f g : A → B) → ((x : A) → f x ≡ g x) → (xs : List A) → map f xs ≡ map g xs
same_map f g same [] = refl
same_map f g same (x ∷ xs) = ap (λ y. y ∷ map f xs) (same x) ∙ ap (λ l. g x ∷ l) (same_map f g same xs)

itself : {A : Type 0} (f : A → A) → ((x : A) → f x ≡ x) → (xs : List A) → map f xs ≡ xs
itself f same [] = refl
itself f same (x ∷ xs) = ap (λ y. y ∷ map f xs) (same x) ∙ ap (λ l. x ∷ l) (itself f same xs)

with_continues : RecordMoves → Bool → RecordMoves
with_continues moves is = record moves { continues = is }

-- none is named yet
pub none_left : (records : List RecordMoves) → map (left_by_ids []) records ≡ records
unfolding with_continues
none_left records = itself (left_by_ids []) (λ moves. ap (with_continues moves) (or_none moves.continues)) records

pub none_later : (run : ℕ) (records : List RecordMoves) → map (left_by run []) records ≡ records
unfolding with_continues
none_later run records = itself (left_by run []) (λ moves. ap (with_continues moves) (or_none moves.continues)) records

-- one channel more
left_id : (ids : List ℕ) (id : ℕ) (moves : RecordMoves) → continued_in id (left_by_ids ids moves) ≡ left_by_ids (ids ++ id ∷ []) moves
unfolding with_continues
left_id ids id moves = here (moves.channel == id) refl
  where
    any : Bool
    any = list_any (is_id moves.channel) ids

    all : (b : Bool) → (moves.channel == id) ≡ b → list_any (is_id moves.channel) (ids ++ id ∷ []) ≡ (any || b)
    all b is = list_any-append (is_id moves.channel) ids (id ∷ []) ∙ ap (λ x. any || x) (or_none (moves.channel == id) ∙ is)

    here : (b : Bool) → (moves.channel == id) ≡ b
        → (if b then with_continues moves true else left_by_ids ids moves) ≡ left_by_ids (ids ++ id ∷ []) moves
    here true is = sym (ap (with_continues moves) (ap (λ x. moves.continues || x) (all true is ∙ or_one any) ∙ or_one moves.continues))
    here false is = sym (ap (with_continues moves) (ap (λ x. moves.continues || x) (all false is ∙ or_none any)))

pub left_one_id : (ids : List ℕ) (id : ℕ) (records : List RecordMoves)
    → map (continued_in id) (map (left_by_ids ids) records) ≡ map (left_by_ids (ids ++ id ∷ [])) records
left_one_id ids id records =
    map-map (continued_in id) (left_by_ids ids) records
    ∙ same_map (λ moves. continued_in id (left_by_ids ids moves)) (left_by_ids (ids ++ id ∷ [])) (left_id ids id) records

-- one recording more
later_one : (run channel : ℕ) (later : List ListedRecording) (listed : ListedRecording)
    → is_named_later run channel (later ++ listed ∷ []) ≡ (is_named_later run channel later || names_in_run run channel listed)
later_one run channel later listed =
    list_any-append (names_in_run run channel) later (listed ∷ [])
    ∙ ap (λ b. is_named_later run channel later || b) (or_none (names_in_run run channel listed))

left_recording : (run : ℕ) (later : List ListedRecording) (listed : ListedRecording) (moves : RecordMoves) → (listed.run == run) ≡ true
    → left_by_ids listed.ids.items (left_by run later moves) ≡ left_by run (later ++ listed ∷ []) moves
unfolding with_continues
left_recording run later listed moves is =
    ap (with_continues moves) (
    or_assoc moves.continues (is_named_later run moves.channel later) (list_any (is_id moves.channel) listed.ids.items)
    ∙ ap (λ b. moves.continues || b) (
    ap (λ b. is_named_later run moves.channel later || (b && list_any (is_id moves.channel) listed.ids.items)) (sym is)
    ∙ sym (later_one run moves.channel later listed)))

pub left_one_of_run : (run : ℕ) (later : List ListedRecording) (listed : ListedRecording) (records : List RecordMoves) → (listed.run == run) ≡ true
    → map (left_by_ids listed.ids.items) (map (left_by run later) records) ≡ map (left_by run (later ++ listed ∷ [])) records
left_one_of_run run later listed records is =
    map-map (left_by_ids listed.ids.items) (left_by run later) records
    ∙ same_map (λ moves. left_by_ids listed.ids.items (left_by run later moves)) (left_by run (later ++ listed ∷ []))
    (λ moves. left_recording run later listed moves is) records

stays_by : (run : ℕ) (later : List ListedRecording) (listed : ListedRecording) (moves : RecordMoves) → (listed.run == run) ≡ false
    → left_by run later moves ≡ left_by run (later ++ listed ∷ []) moves
unfolding with_continues
stays_by run later listed moves is =
    ap (with_continues moves) (ap (λ b. moves.continues || b) (
    sym (or_none (is_named_later run moves.channel later))
    ∙ ap (λ b. is_named_later run moves.channel later || (b && list_any (is_id moves.channel) listed.ids.items)) (sym is)
    ∙ sym (later_one run moves.channel later listed)))

pub left_one_of_others : (run : ℕ) (later : List ListedRecording) (listed : ListedRecording) (records : List RecordMoves)
    → (listed.run == run) ≡ false → map (left_by run later) records ≡ map (left_by run (later ++ listed ∷ [])) records
left_one_of_others run later listed records is =
    same_map (left_by run later) (left_by run (later ++ listed ∷ [])) (λ moves. stays_by run later listed moves is) records

-- ---- packets that all name a channel

keeps_other : (at : ℕ) (packets : List PacketData) → other_from (Some at) packets ≡ Some at
keeps_other at [] = refl
keeps_other at (p ∷ ps) = here (packet_names p) (keeps_other at ps)
  where
    here : (names : Option (ℕ × PieceKind)) → other_from (Some at) ps ≡ Some at → other_from (other_after (Some at) p.at names) ps ≡ Some at
    here None so = so
    here (Some named) so = so

-- the first of them names one, and the others do
record NamesFirst (packet : PacketData) (packets : List PacketData) : Type 0 where
  named : ℕ
  kind : PieceKind
  is : packet_names packet ≡ Some (named, kind)
  others : other_of packets ≡ None

names_first : (packet : PacketData) (packets : List PacketData) → other_of (packet ∷ packets) ≡ None → NamesFirst packet packets
names_first packet packets none = here (packet_names packet) refl none
  where
    here : (names : Option (ℕ × PieceKind)) → packet_names packet ≡ names → other_from (other_after None packet.at names) packets ≡ None
        → NamesFirst packet packets
    here None is none = absurd (none-some packet.at (sym none ∙ keeps_other packet.at packets))
    here (Some (named, kind)) is none = record { named = named; kind = kind; is = is; others = none }

one_entry : (is : Bool) (entry : PieceEntry) → are_some (if is then entry ∷ [] else []) ≡ is
one_entry true entry = refl
one_entry false entry = refl

first_same : (one other : ℕ × PieceKind) → Some one ≡ Some other → one.0 ≡ other.0
first_same one other is = ap (λ (named : ℕ × PieceKind). named.0) (same_Some one other is)

-- it has an entry of the channel where it says something of the channel
entry_said : (channel own at : ℕ) (what : What) (bytes : List ℕ) (named : ℕ) (kind : PieceKind) → named_by own what ≡ Some (named, kind)
    → are_some (entry_named channel at (Some (named, kind))) ≡ is_said_of channel (saying_in own what bytes)
entry_said channel own at what bytes named kind is =
    one_entry (named == channel) (record { at = at; kind = kind }) ∙ ap (λ n. n == channel) (sym (whose what is)) ∙ said what is
  where
    -- the channel that it names
    names : What → ℕ
    names (Frames count) = own
    names (Program of version first count) = of
    names (End of offered kept) = of
    names Other = 0

    whose : (what : What) → named_by own what ≡ Some (named, kind) → names what ≡ named
    whose (Frames count) is = of_frames (own == 0) is
      where
        of_frames : (none : Bool) → if◌then◌else◌ {A = Option (ℕ × PieceKind)} none None (Some (own, IsFrames)) ≡ Some (named, kind) → own ≡ named
        of_frames true is = absurd (none-some (named, kind) is)
        of_frames false is = first_same (own, IsFrames) (named, kind) is
    whose (Program of version first count) is = first_same (of, Record) (named, kind) is
    whose (End of offered kept) is = first_same (of, (if offered == 0 then Uncounted else Record)) (named, kind) is
    whose Other is = absurd (none-some (named, kind) is)

    said : (what : What) → named_by own what ≡ Some (named, kind) → (names what == channel) ≡ is_said_of channel (saying_in own what bytes)
    said (Frames count) is = refl
    said (Program of version first count) is = refl
    said (End of offered kept) is = refl
    said Other is = absurd (none-some (named, kind) is)

some_of_both : (one other : List PieceEntry) → are_some (one ++ other) ≡ (are_some one || are_some other)
some_of_both [] other = refl
some_of_both (entry ∷ one) other = refl

named_tells : (channel : ℕ) (packets : List PacketData) → other_of packets ≡ None → is_named packets channel ≡ names_channel channel packets
named_tells channel [] none = refl
named_tells channel (p ∷ ps) none =
    let first = names_first p ps none in
    some_of_both (entry_of_packet channel p) (channel_entries channel ps)
    ∙ ap (λ b. b || is_named ps channel)
    (ap (λ names. are_some (entry_named channel p.at names)) first.is
    ∙ entry_said channel p.header.channel p.at p.what (data_in p.header p.body) first.named first.kind first.is)
    ∙ ap (λ b. is_said_of channel (saying_of p) || b) (named_tells channel ps first.others)

-- ---- the IDs of channels

false_true : false ≡ true → ⊥
false_true is = cc

class_fits : (channel : ℕ) (header : HeaderData) (bytes : List ℕ) (what : What) → IsHeader header → HasClass header bytes what
    → is_said_of channel (saying_in header.channel what bytes) ≡ true → channel < 2 ^ 16
class_fits channel header bytes (Frames count) is has said = subst (λ n. n < 2 ^ 16) (eqb-true header.channel channel said) is.channel
class_fits channel header bytes (Program named version first count) is has said =
    subst (λ n. n < 2 ^ 16) (eqb-true named channel said) has.2.0.channel_fits
class_fits channel header bytes (End named offered kept) is has said = subst (λ n. n < 2 ^ 16) (eqb-true named channel said) has.1.0.channel_fits
class_fits channel header bytes Other is has said = absurd (false_true said)

channel_fits : (channel at : ℕ) (packets : List PacketData) (bytes rest : List ℕ) → BeginsPackets at packets bytes rest
    → names_channel channel packets ≡ true → channel < 2 ^ 16
channel_fits channel at [] bytes rest begins named = absurd (false_true named)
channel_fits channel at (p ∷ ps) bytes rest begins named = elim (cases_Bool (is_said_of channel (saying_of p))) as (λ _. channel < 2 ^ 16) [
  | inl here ↦
      let spelled = begins.1.spelled in
      class_fits channel p.header (data_in p.header p.body) p.what spelled.is_header spelled.holds.class here
  | inr other ↦
      channel_fits channel (at + p.header.packet_len) ps begins.0 rest begins.2 (sym (ap (λ b. b || names_channel channel ps) other) ∙ named)
]

ranges : (p : ℕ → Bool) (channel from len : ℕ) → p channel ≡ true → from ≤ channel → channel < from + len
    → list_any (is_id channel) (filter p (range_with_len from len)) ≡ true
ranges p channel from zero is least less = absurd (omega (arith, least, less))
ranges p channel from (suc len) is least less =
    here (channel == from) refl (λ apart. ranges p channel (from + 1) len is (omega (arith, least, apart)) (omega (arith, less)))
  where
    rest : List ℕ
    rest = filter p (range_with_len (from + 1) len)

    here : (same : Bool) → (channel == from) ≡ same → (channel ≢ from → list_any (is_id channel) rest ≡ true)
        → list_any (is_id channel) (cond (p from) (from ∷ rest) rest) ≡ true
    here true same later =
        ap (λ b. list_any (is_id channel) (cond b (from ∷ rest) rest)) (ap p (sym (eqb-true channel from same)) ∙ is)
        ∙ ap (λ b. b || list_any (is_id channel) rest) same
    here false other later = behind (p from)
      where
        so : list_any (is_id channel) rest ≡ true
        so = later (λ e. true_false (sym (eq-eqb channel from e) ∙ other))

        behind : (b : Bool) → list_any (is_id channel) (cond b (from ∷ rest) rest) ≡ true
        behind true = ap (λ b. b || list_any (is_id channel) rest) other ∙ so
        behind false = so

misses : (p : ℕ → Bool) (channel from len : ℕ) → p channel ≡ false → list_any (is_id channel) (filter p (range_with_len from len)) ≡ false
misses p channel from zero not = refl
misses p channel from (suc len) not = here (channel == from) refl (misses p channel (from + 1) len not)
  where
    rest : List ℕ
    rest = filter p (range_with_len (from + 1) len)

    here : (same : Bool) → (channel == from) ≡ same → list_any (is_id channel) rest ≡ false
        → list_any (is_id channel) (cond (p from) (from ∷ rest) rest) ≡ false
    here true same so = ap (λ b. list_any (is_id channel) (cond b (from ∷ rest) rest)) (ap p (sym (eqb-true channel from same)) ∙ not) ∙ so
    here false other so = behind (p from)
      where
        behind : (b : Bool) → list_any (is_id channel) (cond b (from ∷ rest) rest) ≡ false
        behind true = ap (λ b. b || list_any (is_id channel) rest) other ∙ so
        behind false = so

ids_tell : (channel : ℕ) (own : List PacketData) → channel < 2 ^ 16 → list_any (is_id channel) (named_channels own) ≡ is_named own channel
unfolding named_channels
ids_tell channel own fits = here (is_named own channel) refl
  where
    here : (is : Bool) → is_named own channel ≡ is → list_any (is_id channel) (filter (is_named own) (range_with_len 0 (2 ^ 16))) ≡ is
    here true is = ranges (is_named own) channel 0 (2 ^ 16) is (omega arith) (omega (arith, fits))
    here false not = misses (is_named own) channel 0 (2 ^ 16) not

-- ---- later recordings

-- they are of the same runs, one by one
SameRuns : {P : Type 0} → List ListedRecording → List (Part P) → Type 0
SameRuns [] [] = Unit {0}
SameRuns (listed ∷ all) (part ∷ parts) = (part.moves.run ≡ listed.run) × SameRuns all parts
SameRuns all parts = ⊥

-- none of them is of another kind
NoneOther : List ListedRecording → Type 0
NoneOther all = AllByRecursion (λ (listed : ListedRecording). listed.other ≡ None) all

later_tells : {P : Type 0} (runs : List ℕ) (run channel : ℕ) (earlier : ℕ → List (List PacketData)) (all : List ListedRecording)
    (read : List (List PacketData)) (parts : List (Part P)) → AreListedIn runs earlier all read → NoneOther all → SameRuns all parts → channel < 2 ^ 16
    → is_named_later run channel all ≡ name_channel channel (recordings_in_run run parts read)
unfolding SameRuns NoneOther
later_tells runs run channel earlier [] [] [] are none same fits = refl
later_tells runs run channel earlier [] [] (p ∷ ps) are none same fits = absurd same
later_tells runs run channel earlier [] (own ∷ more) parts are none same fits = absurd are
later_tells runs run channel earlier (l ∷ ls) [] parts are none same fits = absurd are
later_tells runs run channel earlier (l ∷ ls) (own ∷ more) [] are none same fits = absurd same
later_tells runs run channel earlier (l ∷ ls) (own ∷ more) (p ∷ ps) are none same fits =
    here (l.run == run) (later_tells runs run channel (with_one_of l.run own earlier) ls more ps are.1 none.1 same.1 fits)
    ∙ sym (ap (λ r. name_channel channel (if r == run then own ∷ rest else rest)) same.0)
  where
    rest : List (List PacketData)
    rest = recordings_in_run run ps more

    names : list_any (is_id channel) l.ids.items ≡ names_channel channel own
    names =
        ap (list_any (is_id channel)) are.0.ids ∙ ids_tell channel own fits ∙ named_tells channel own (sym are.0.other ∙ none.0)

    here : (is : Bool) → is_named_later run channel ls ≡ name_channel channel rest
        → ((is && list_any (is_id channel) l.ids.items) || is_named_later run channel ls) ≡ name_channel channel (if is then own ∷ rest else rest)
    here true later = ap (λ b. b || is_named_later run channel ls) names ∙ ap (λ b. names_channel channel own || b) later
    here false later = later

same_runs : {F : Type 0} (held : F → Option (List ℕ)) (start : Origin) (channels : List FileChannel) (files : List F) (tables : List RecordingSettings)
    (all : List ListedRecording) (parts : List (Part (FilePackets F))) → AreMovedBy held start channels files tables all parts → SameRuns all parts
unfolding SameRuns
same_runs held start channels [] [] [] [] moved = tt
same_runs held start channels (f ∷ fs) (t ∷ ts) (l ∷ ls) (p ∷ ps) moved = (moved.1.run_is, same_runs held start channels fs ts ls ps moved.2)
same_runs held start channels files tables all parts moved = absurd moved

-- ---- the records of a channel

left_found : (run channel : ℕ) (later : List ListedRecording) (records : List RecordMoves) → list_any (moves_channel channel) records ≡ true
    → moves_for channel (map (left_by run later) records)
    ≡ with_continues (moves_for channel records) ((moves_for channel records).continues || is_named_later run channel later)
unfolding with_continues
left_found run channel later [] some = absurd (false_true some)
left_found run channel later (m ∷ ms) some =
    here (m.channel == channel) refl
    (λ other. left_found run channel later ms (sym (ap (λ b. b || list_any (moves_channel channel) ms) other) ∙ some))
  where
    here : (is : Bool) → (m.channel == channel) ≡ is
        → ((m.channel == channel) ≡ false → moves_for channel (map (left_by run later) ms)
        ≡ with_continues (moves_for channel ms) ((moves_for channel ms).continues || is_named_later run channel later))
        → unwrap_or (cond (m.channel == channel) (Some (left_by run later m)) (find (moves_channel channel) (map (left_by run later) ms))) (no_moves channel)
        ≡ with_continues (unwrap_or (cond (m.channel == channel) (Some m) (find (moves_channel channel) ms)) (no_moves channel))
        ((unwrap_or (cond (m.channel == channel) (Some m) (find (moves_channel channel) ms)) (no_moves channel)).continues || is_named_later run channel later)
    here true is so = rw is (ap (λ c. with_continues m (m.continues || is_named_later run c later)) (eqb-true m.channel channel is))
    here false is so = rw is (so is)

moves_become : (run channel : ℕ) (earlier later : List (List PacketData)) (own : List PacketData) (behind : List ListedRecording) (records : List RecordMoves)
    → AreRecordMoves earlier own records → recording_has channel own ≡ true → is_named_later run channel behind ≡ name_channel channel later
    → moves_for channel (map (left_by run behind) records) ≡ moves_between channel earlier own later
unfolding with_continues
moves_become run channel earlier later own behind records are has goes =
    left_found run channel behind records (are.has channel ∙ list_any-append (recording_has channel) earlier (own ∷ [])
    ∙ ap (λ b. run_has channel earlier || (b || false)) has ∙ or_one (run_has channel earlier))
    ∙ ap (λ (moves : RecordMoves). with_continues moves (moves.continues || is_named_later run channel behind)) (are.each channel)
    ∙ ap (with_continues (moves_of_record channel earlier own)) goes

-- a channel that is named ends
has_end : (channel : ℕ) (own : List PacketData) → IsApprovedAlone own → names_channel channel own ≡ true → recording_has channel own ≡ true
has_end channel own approved named = elim (cases_Bool (recording_has channel own)) as (λ _. recording_has channel own ≡ true) [
  | inl has ↦ has
  | inr none ↦
      let closes = own_end channel own (approved.1.closed channel (named_in channel own named)) in
      absurd (none-some closes.end (sym (ap (last_or None) (no_ends channel own none)) ∙ closes.is))
]

-- ---- runs of one recording

count_one : (run other : ℕ) (runs : List ℕ) → count_by (is_run run) (other ∷ runs) ≡ cond (other == run) 1 0 + count_by (is_run run) runs
count_one run other runs = sum_by-cons (λ r. cond (r == run) 1 0) other runs

none_of_run : (run channel : ℕ) (all : List ListedRecording) → count_by (is_run run) (map run_of_listed all) ≡ 0 → is_named_later run channel all ≡ false
none_of_run run channel [] none = refl
none_of_run run channel (l ∷ ls) none =
    let counted = count_one run l.run (map run_of_listed ls) in
    here (l.run == run) refl (none_of_run run channel ls (omega (arith, counted, none)))
  where
    here : (is : Bool) → (l.run == run) ≡ is → is_named_later run channel ls ≡ false
        → ((is && list_any (is_id channel) l.ids.items) || is_named_later run channel ls) ≡ false
    here true is so =
        let counted = count_one run l.run (map run_of_listed ls) in
        let one = ap {B = ℕ} (λ b. cond b 1 0) is in
        absurd (omega (arith, counted, one, none))
    here false is so = so

-- the recordings of each run before these, and those of these, are as many as there are
AreCounted : (runs : List ℕ) → (earlier : ℕ → List (List PacketData)) → List ListedRecording → Type 0
AreCounted runs earlier all = (run : ℕ) → length (earlier run) + count_by (is_run run) (map run_of_listed all) ≡ count_by (is_run run) runs

counted_next : (runs : List ℕ) (earlier : ℕ → List (List PacketData)) (listed : ListedRecording) (all : List ListedRecording) (own : List PacketData)
    → AreCounted runs earlier (listed ∷ all) → AreCounted runs (with_one_of listed.run own earlier) all
unfolding AreCounted
counted_next runs earlier listed all own counted run = here (listed.run == run) refl
  where
    here : (is : Bool) → (listed.run == run) ≡ is
        → length (if is then earlier run ++ own ∷ [] else earlier run) + count_by (is_run run) (map run_of_listed all) ≡ count_by (is_run run) runs
    here true is =
        let before = counted run in
        let one = count_one run listed.run (map run_of_listed all) in
        let same = ap {B = ℕ} (λ b. cond b 1 0) is in
        let longer = length-append (earlier run) (own ∷ []) in
        omega (arith, before, one, same, longer)
    here false is =
        let before = counted run in
        let one = count_one run listed.run (map run_of_listed all) in
        let same = ap {B = ℕ} (λ b. cond b 1 0) is in
        omega (arith, before, one, same)

not_less : (a b : ℕ) → nat_lt a b ≡ false → b ≤ a
not_less a b is = ltb-false a b is

no_length : {A : Type 0} (xs : List A) → length xs ≡ 0 → xs ≡ []
no_length [] is = refl
no_length (x ∷ xs) is = absurd (omega (arith, is))

-- the only one of its run
record IsOnly (run : ℕ) (before : List (List PacketData)) (behind : List ListedRecording) : Type 0 where
  none_before : before ≡ []
  none_behind : (channel : ℕ) → is_named_later run channel behind ≡ false

is_only : (runs : List ℕ) (earlier : ℕ → List (List PacketData)) (listed : ListedRecording) (all : List ListedRecording)
    → AreCounted runs earlier (listed ∷ all) → is_several listed.run runs ≡ false → IsOnly listed.run (earlier listed.run) all
unfolding AreCounted
is_only runs earlier listed all counted alone =
    let before = counted listed.run in
    let one = count_one listed.run listed.run (map run_of_listed all) in
    let same = ap {B = ℕ} (λ b. cond b 1 0) (eq-eqb listed.run listed.run refl) in
    let few = not_less 1 (count_by (is_run listed.run) runs) alone in
    record {
      none_before = no_length (earlier listed.run) (omega (arith, before, one, same, few));
      none_behind = λ channel. none_of_run listed.run channel all (omega (arith, before, one, same, few));
    }

alone_becomes : (run channel : ℕ) (earlier later : List (List PacketData)) (own : List PacketData) (behind : List ListedRecording)
    (records : List RecordMoves) → IsOnly run earlier behind → records ≡ [] → is_named_later run channel behind ≡ name_channel channel later
    → moves_for channel (map (left_by run behind) records) ≡ moves_between channel earlier own later
unfolding with_continues
alone_becomes run channel earlier later own behind records only none goes =
    ap (λ (l : List RecordMoves). moves_for channel (map (left_by run behind) l)) none
    ∙ sym (ap (λ (moves : RecordMoves). with_continues moves (name_channel channel later))
    (nothing_moved channel earlier own (ap (run_has channel) only.none_before))
    ∙ ap (with_continues (no_moves channel)) (sym goes ∙ only.none_behind channel))

-- ---- all of them

go_on : {F : Type 0} (held : F → Option (List ℕ)) (runs : List ℕ) (start : Origin) (channels : List FileChannel) (earlier : ℕ → List (List PacketData))
    (bytes : List (List ℕ)) (files : List F) (tables : List RecordingSettings) (all : List ListedRecording) (read : List (List PacketData))
    (parts : List (Part (FilePackets F))) → AreListedIn runs earlier all read → AreCounted runs earlier all → NoneOther all → AreReadings bytes read
    → AreAllApproved read → AreMovedBy held start channels files tables all parts → GoOnInRuns earlier parts read
unfolding SameRuns NoneOther
go_on held runs start channels earlier bytes files tables all read [] are counted none reads approved moved = tt
go_on held runs start channels earlier bytes files tables all [] (p ∷ ps) are counted none reads approved moved = tt
go_on held runs start channels earlier bytes files tables [] (own ∷ more) (p ∷ ps) are counted none reads approved moved = absurd are
go_on held runs start channels earlier [] files tables (l ∷ ls) (own ∷ more) (p ∷ ps) are counted none reads approved moved = absurd reads
go_on held runs start channels earlier (b ∷ bs) [] [] (l ∷ ls) (own ∷ more) (p ∷ ps) are counted none reads approved moved = absurd moved
go_on held runs start channels earlier (b ∷ bs) [] (t ∷ ts) (l ∷ ls) (own ∷ more) (p ∷ ps) are counted none reads approved moved = absurd moved
go_on held runs start channels earlier (b ∷ bs) (f ∷ fs) [] (l ∷ ls) (own ∷ more) (p ∷ ps) are counted none reads approved moved = absurd moved
go_on held runs start channels earlier (b ∷ bs) (f ∷ fs) (t ∷ ts) (l ∷ ls) (own ∷ more) (p ∷ ps) are counted none reads approved moved = (
  λ channel named.
      let fits = channel_fits channel 0 own b reads.0.rest reads.0.held named in
      ap record_moving (
      ap (moves_for channel) (moved.1.records_are ∙ ap (λ later. map (left_by l.run later) l.records.items) (append-nil ls))
      ∙ becomes channel named fits
      ∙ ap (λ r. moves_between channel (earlier r) own (recordings_in_run r ps more)) (sym moved.1.run_is)),
  go_on held runs start channels (with_one_of p.moves.run own earlier) bs fs ts ls more ps
      (subst (λ r. AreListedIn runs (with_one_of r own earlier) ls more) (sym moved.1.run_is) are.1)
      (subst (λ r. AreCounted runs (with_one_of r own earlier) ls) (sym moved.1.run_is) (counted_next runs earlier l ls own counted))
      none.1 reads.1 approved.1 moved.2,
)
  where
    becomes : (channel : ℕ) → names_channel channel own ≡ true → channel < 2 ^ 16
        → moves_for channel (map (left_by l.run ls) l.records.items) ≡ moves_between channel (earlier l.run) own (recordings_in_run l.run ps more)
    becomes channel named fits =
        let same = same_runs held start channels fs ts ls ps moved.2 in
        let goes = later_tells runs l.run channel (with_one_of l.run own earlier) ls more ps are.1 none.1 same fits in
        elim (cases_Bool (is_several l.run runs)) as (λ _.
        moves_for channel (map (left_by l.run ls) l.records.items) ≡ moves_between channel (earlier l.run) own (recordings_in_run l.run ps more)) [
          | inl several ↦
              moves_become l.run channel (earlier l.run) (recordings_in_run l.run ps more) own ls l.records.items (are.0.records several)
              (has_end channel own approved.0 named) goes
          | inr alone ↦
              alone_becomes l.run channel (earlier l.run) (recordings_in_run l.run ps more) own ls l.records.items
              (is_only runs earlier l ls counted alone) (are.0.alone alone).1 goes
        ]

none_other : (all : List ListedRecording) → NoneRefused all → NoneOther all
unfolding NoneOther
none_other [] none = tt
none_other (l ∷ ls) none = (
  first l.other l.part (none 0 (omega arith)),
  none_other ls (λ place within. none (suc place) (omega (arith, within))),
)
  where
    first : (other part : Option ℕ) → first_refusal other part ≡ None → other ≡ None
    first None part is = refl
    first (Some other) None is = absurd (none-some (OfOther other) (sym is))
    first (Some other) (Some part) is = here (nat_lt other part) is
      where
        here : (less : Bool) → (if less then Some (OfOther other) else Some (OfPart part)) ≡ None → Some other ≡ None
        here true is = absurd (none-some (OfOther other) (sym is))
        here false is = absurd (none-some (OfPart part) (sym is))

none_before : (all : List ListedRecording) → AreCounted (map run_of_listed all) (λ run. []) all
unfolding AreCounted
none_before all run = omega arith

pub moved_in_runs : {F : Type 0} (held : F → Option (List ℕ)) (start : Origin) (channels : List FileChannel) (bytes : List (List ℕ)) (files : List F)
    (tables : List RecordingSettings) (all : List ListedRecording) (read : List (List PacketData)) (parts : List (Part (FilePackets F)))
    → AreReadings bytes read → AreListedInRuns all read → NoneRefused all → AreAllApproved read
    → AreMovedBy held start channels files tables all parts → AreMovedInRuns parts read
moved_in_runs held start channels bytes files tables all read parts reads are none approved moved =
    go_on held (map run_of_listed all) start channels (λ run. []) bytes files tables all read parts are (none_before all) (none_other all none) reads
    approved moved

-- ---- channels

pub channels_of_runs : {F : Type 0} (held : F → Option (List ℕ)) (start : Origin) (channels : List FileChannel) (files : List F)
    (tables : List RecordingSettings) (all : List ListedRecording) (parts : List (Part (FilePackets F)))
    → AreMovedBy held start channels files tables all parts → HaveChannelsOfRuns channels parts
channels_of_runs held start channels [] [] [] [] moved = tt
channels_of_runs held start channels (f ∷ fs) (t ∷ ts) (l ∷ ls) (p ∷ ps) moved = (
  moved.1.channels_are ∙ ap (λ run. filter (λ (c : FileChannel). c.of.run == run) channels) (sym moved.1.run_is),
  channels_of_runs held start channels fs ts ls ps moved.2,
)
channels_of_runs held start channels files tables all parts moved = absurd moved
