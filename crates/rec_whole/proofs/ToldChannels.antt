-- What packets say of a channel, frame by frame, is what they hold of it.
use Rattle.std.proofs.Common.{ℕ, ◌≡◌, ◌≢◌, inl, inr, List, [], ◌∷◌, ◌++◌, map, length, drop, Option, None, Some, refl, sym, subst, ap, ◌∙◌}
use Rattle.std.specs.Prelude.{Bool, true, false, ◌==◌, if◌then◌else◌}
use Rattle.std.specs.List.{AllByRecursion, AllZip, flat_map}
use Rattle.std.proofs.lemmas.Bool.{cases_Bool, eqb-true, ne_eqb}
use Rattle.std.proofs.lemmas.Grind.{flat_map-append}
use Rattle.bpf_insn.specs.declared.insn.Insn.{Insn}
use Rattle.ch11_packet.specs.declared.records.TheConstants.{PROGRAM_HEAD_LEN}
use Rattle.ch11_packet.specs.declared.class.What.{What}
use Rattle.ch11_packet.specs.declared.class.What.TheVariants.{Frames as HoldsFrames, Program, End, Other}
use Rattle.ch11_packet.specs.Header.{HeaderData}
use Rattle.ch11_packet.specs.Classes.{HasClass, data_in, said_frames}
use Rattle.ch11_packet.specs.FramesRead.{ReadFrameData}
use Rattle.ch11_packet.specs.Records.{EndData}
use Rattle.ch11_packet.specs.RecordsRead.{SpellsRecord, stored_insns}
use Rattle.ch11_packet.specs.RecordsRead.RecordData.{OfProgram as Program_, OfEnd as End_}
use Rattle.ch11_packet.proofs.ReadRecords.{one_record}
use Rattle.ch11_merge.specs.Kept.{Held, held_in}
use Rattle.ch11_merge.specs.Kept.Held.{HeldFrame, HeldRecord}
use Rattle.ch11_merge.specs.Merging.FilePiece.{OfRecord}
use Rattle.ch11_merge.specs.Parts.{frames_pieces}
use Rattle.rec_reader.specs.declared.audits.channel.ChannelProgram.{ChannelProgram}
use Rattle.rec_reader.specs.declared.audits.channel.ChannelEnd.{ChannelEnd}
use Rattle.rec_reader.specs.Packets.{PacketData}
use Rattle.rec_reader.specs.ChannelFrames.{channel_frames, frames_held, packet_frames}
use Rattle.rec_reader.specs.Channels.{Saying, saying_in, saying_of, program_said, programs_of, end_said, ends_of, stored_program}
use Rattle.rec_reader.specs.Channels.Saying.{OfFrames, OfProgram, OfEnd}
use Rattle.rec_pieces.specs.Entries.{named_by, pieces_named, pieces_of_channel, pieces_of_packet}
use Rattle.rec_whole.specs.WholeFrames.{held_in_packets}
use Rattle.rec_whole.specs.ToldOfChannels.{Told, told_in, told_of}
use Rattle.rec_whole.specs.ToldOfChannels.Told.{ToldFrame, ToldProgram, ToldEnd}
use Rattle.rec_pieces.specs.ToldPackets.{IsSpelled}
use Rattle.rec_whole.proofs.ReadPieces.{end_counted, seen}
use Rattle.rec_whole.proofs.FilesReadBack.{held_pieces}

-- what is held says this
abbrev SaysTold : Held → Told → Type 0
SaysTold (HeldFrame frame) (ToldFrame other) = other ≡ frame
SaysTold (HeldFrame frame) (ToldProgram program) = ⊥
SaysTold (HeldFrame frame) (ToldEnd end) = ⊥
SaysTold (HeldRecord counter body) (ToldFrame other) = ⊥
SaysTold (HeldRecord counter body) (ToldProgram program) =
    (named : ℕ) × (insns : List Insn) × SpellsRecord (Program_ named program.version program.first insns) body
    × (program.insns ≡ stored_insns (length insns) (drop PROGRAM_HEAD_LEN body))
SaysTold (HeldRecord counter body) (ToldEnd end) =
    (named : ℕ) × SpellsRecord (End_ (record { channel = named; offered = end.offered; kept = end.kept })) body

-- ---- one thing is said

made_program : (version first : ℕ) → List Insn → ChannelProgram
made_program version first insns = record { version = version; first = first; insns = insns }

same_program : (p q : ChannelProgram) → p.version ≡ q.version → p.first ≡ q.first → p.insns ≡ q.insns → p ≡ q
unfolding made_program
same_program p q v f i =
    ap (λ n. made_program n p.first p.insns) v ∙ ap (λ n. made_program q.version n p.insns) f ∙ ap (made_program q.version q.first) i

made_end : (offered kept : ℕ) → ChannelEnd
made_end offered kept = record { offered = offered; kept = kept }

same_end : (p q : ChannelEnd) → p.offered ≡ q.offered → p.kept ≡ q.kept → p ≡ q
unfolding made_end
same_end p q o k = ap (λ n. made_end n p.kept) o ∙ ap (made_end q.offered) k

program_parts : (a b v w f g : ℕ) (i j : List Insn) → Program_ a v f i ≡ Program_ b w g j → (v ≡ w) × (f ≡ g) × (i ≡ j)
program_parts a b v w f g i j e =
    let x : v ≡ w = cc in
    let y : f ≡ g = cc in
    let z : i ≡ j = cc in
    (x, y, z)

end_parts : (d e : EndData) → End_ d ≡ End_ e → d ≡ e
end_parts d e same = cc

no_end : (a v f : ℕ) (i : List Insn) (e : EndData) → Program_ a v f i ≡ End_ e → ⊥
no_end a v f i e same = cc

one_program : (a b : ChannelProgram) (body : List ℕ) (m n : ℕ) (i j : List Insn) → SpellsRecord (Program_ m a.version a.first i) body
    → SpellsRecord (Program_ n b.version b.first j) body → a.insns ≡ stored_insns (length i) (drop PROGRAM_HEAD_LEN body)
    → b.insns ≡ stored_insns (length j) (drop PROGRAM_HEAD_LEN body) → a ≡ b
one_program a b body m n i j p q x y =
    let same = program_parts m n a.version b.version a.first b.first i j
    (one_record (Program_ m a.version a.first i) (Program_ n b.version b.first j) body p q) in
    same_program a b same.0 same.1 (x ∙ ap (λ (l : List Insn). stored_insns (length l) (drop PROGRAM_HEAD_LEN body)) same.2 ∙ sym y)

abbrev end_data : (channel : ℕ) → ChannelEnd → EndData
end_data channel end = record { channel = channel; offered = end.offered; kept = end.kept }

one_end : (a b : ChannelEnd) (body : List ℕ) (m n : ℕ) → SpellsRecord (End_ (end_data m a)) body → SpellsRecord (End_ (end_data n b)) body → a ≡ b
one_end a b body m n p q =
    let same = end_parts (end_data m a) (end_data n b) (one_record (End_ (end_data m a)) (End_ (end_data n b)) body p q) in
    same_end a b (ap (λ (d : EndData). d.offered) same) (ap (λ (d : EndData). d.kept) same)

one_told : (h : Held) (t u : Told) → SaysTold h t → SaysTold h u → t ≡ u
one_told (HeldFrame frame) (ToldFrame a) (ToldFrame b) p q = ap ToldFrame (p ∙ sym q)
one_told (HeldFrame frame) (ToldFrame a) (ToldProgram b) p q = absurd q
one_told (HeldFrame frame) (ToldFrame a) (ToldEnd b) p q = absurd q
one_told (HeldFrame frame) (ToldProgram a) u p q = absurd p
one_told (HeldFrame frame) (ToldEnd a) u p q = absurd p
one_told (HeldRecord counter body) (ToldFrame a) u p q = absurd p
one_told (HeldRecord counter body) (ToldProgram a) (ToldFrame b) p q = absurd q
one_told (HeldRecord counter body) (ToldProgram a) (ToldProgram b) p q = ap ToldProgram (one_program a b body p.0 q.0 p.1 q.1 p.2 q.2 p.3 q.3)
one_told (HeldRecord counter body) (ToldProgram a) (ToldEnd b) p q =
    absurd (no_end p.0 a.version a.first p.1 (end_data q.0 b)
    (one_record (Program_ p.0 a.version a.first p.1) (End_ (end_data q.0 b)) body p.2 q.1))
one_told (HeldRecord counter body) (ToldEnd a) (ToldFrame b) p q = absurd q
one_told (HeldRecord counter body) (ToldEnd a) (ToldProgram b) p q =
    absurd (no_end q.0 b.version b.first q.1 (end_data p.0 a)
    (one_record (Program_ q.0 b.version b.first q.1) (End_ (end_data p.0 a)) body q.2 p.1))
one_told (HeldRecord counter body) (ToldEnd a) (ToldEnd b) p q = ap ToldEnd (one_end a b body p.0 q.0 p.1 q.1)

all_told : (hs : List Held) (ts us : List Told) → AllZip SaysTold hs ts → AllZip SaysTold hs us → ts ≡ us
all_told [] [] [] p q = refl
all_told [] [] (u ∷ us) p q = absurd q
all_told [] (t ∷ ts) us p q = absurd p
all_told (h ∷ hs) [] us p q = absurd p
all_told (h ∷ hs) (t ∷ ts) [] p q = absurd q
all_told (h ∷ hs) (t ∷ ts) (u ∷ us) p q = ap (λ x. x ∷ ts) (one_told h t u p.0 q.0) ∙ ap (λ l. u ∷ l) (all_told hs ts us p.1 q.1)

zip_append : (hs is : List Held) (ts us : List Told) → AllZip SaysTold hs ts → AllZip SaysTold is us → AllZip SaysTold (hs ++ is) (ts ++ us)
zip_append [] is [] us p q = q
zip_append [] is (t ∷ ts) us p q = absurd p
zip_append (h ∷ hs) is [] us p q = absurd p
zip_append (h ∷ hs) is (t ∷ ts) us p q = (p.0, zip_append hs is ts us p.1 q)

-- ---- a packet says what it holds

zip_frames : (frames : List ReadFrameData) → AllZip SaysTold (map HeldFrame frames) (map ToldFrame frames)
zip_frames [] = tt
zip_frames (f ∷ fs) = (refl, zip_frames fs)

zip_where : (place : ℕ) (is : Bool) (frames : List ReadFrameData)
    → AllZip SaysTold (flat_map held_in (if is then frames_pieces place frames else [])) (if is then map ToldFrame frames else [])
zip_where place true frames = subst (λ hs. AllZip SaysTold hs (map ToldFrame frames)) (sym (held_pieces place frames)) (zip_frames frames)
zip_where place false frames = tt

zip_record : (place : ℕ) (is : Bool) (counter : Option ℕ) (body : List ℕ) (told : Told) → SaysTold (HeldRecord counter body) told
    → AllZip SaysTold (flat_map held_in (if is then OfRecord place counter body ∷ [] else [])) (if is then told ∷ [] else [])
zip_record place true counter body told says = (says, tt)
zip_record place false counter body told says = tt

of_other_channel : (own channel : ℕ) (frames : List ReadFrameData) → channel ≢ 0 → (own == 0) ≡ true
    → AllZip SaysTold [] (if own == channel then map ToldFrame frames else [])
of_other_channel own channel frames some none =
    rw (ne_eqb own channel (λ e. some (sym e ∙ eqb-true own 0 none))) tt

class_told : (channel own place counter : ℕ) (header : HeaderData) (what : What) (bytes : List ℕ) → channel ≢ 0 → HasClass header bytes what
    → AllZip SaysTold (flat_map held_in (pieces_named channel (named_by own what) place counter bytes)) (told_in channel (saying_in own what bytes))
class_told channel own place counter header (HoldsFrames count) bytes some has = elim (cases_Bool (own == 0)) as (λ _.
    AllZip SaysTold (flat_map held_in (pieces_named channel (named_by own (HoldsFrames count)) place counter bytes))
    (if own == channel then map ToldFrame (said_frames bytes) else [])) [
      | inl none ↦ rw none (of_other_channel own channel (said_frames bytes) some none)
      | inr more ↦ rw more (zip_where place (own == channel) (said_frames bytes))
    ]
class_told channel own place counter header (Program named version first count) bytes some has =
    zip_record place (named == channel) (Some counter) bytes (ToldProgram (stored_program version first count bytes))
    (named, has.1, has.2, ap (λ n. stored_insns n (drop PROGRAM_HEAD_LEN bytes)) (sym has.3))
class_told channel own place counter header (End named offered kept) bytes some has =
    subst (λ ps. AllZip SaysTold (flat_map held_in (if named == channel then ps else []))
    (if named == channel then ToldEnd (record { offered = offered; kept = kept }) ∷ [] else [])) (sym (end_counted (offered == 0) place counter bytes))
    (zip_record place (named == channel) (if offered == 0 then None else Some counter) bytes (ToldEnd (record { offered = offered; kept = kept }))
    (named, has.1))
class_told channel own place counter header Other bytes some has = tt

packets_tell : (channel : ℕ) (packets : List PacketData) → channel ≢ 0 → AllByRecursion IsSpelled packets
    → AllZip SaysTold (held_in_packets channel packets) (told_of channel packets)
packets_tell channel [] some spelled = tt
packets_tell channel (p ∷ ps) some spelled =
    subst (λ hs. AllZip SaysTold hs (told_of channel (p ∷ ps))) (sym (flat_map-append held_in (pieces_of_packet channel p) (pieces_of_channel channel ps)))
    (zip_append (flat_map held_in (pieces_of_packet channel p)) (held_in_packets channel ps) (told_in channel (saying_of p)) (told_of channel ps)
    (class_told channel p.header.channel p.at p.header.counter p.header p.what (data_in p.header p.body) some spelled.0.1.holds.class)
    (packets_tell channel ps some spelled.1))

-- counters say nothing
says_seen : (hides : Bool) (h : Held) (t : Told) → SaysTold h t → SaysTold (seen hides h) t
says_seen hides (HeldFrame frame) t says = says
says_seen hides (HeldRecord counter body) (ToldFrame other) says = says
says_seen hides (HeldRecord counter body) (ToldProgram program) says = says
says_seen hides (HeldRecord counter body) (ToldEnd end) says = says

zip_seen : (hides : Bool) (hs : List Held) (ts : List Told) → AllZip SaysTold hs ts → AllZip SaysTold (map (seen hides) hs) ts
zip_seen hides [] [] says = tt
zip_seen hides [] (t ∷ ts) says = absurd says
zip_seen hides (h ∷ hs) [] says = absurd says
zip_seen hides (h ∷ hs) (t ∷ ts) says = (says_seen hides h t says.0, zip_seen hides hs ts says.1)

-- packets that hold the same of a channel say the same of it
pub same_told : (hides : Bool) (channel : ℕ) (ps qs : List PacketData) → channel ≢ 0 → AllByRecursion IsSpelled ps → AllByRecursion IsSpelled qs
    → map (seen hides) (held_in_packets channel qs) ≡ map (seen hides) (held_in_packets channel ps) → told_of channel qs ≡ told_of channel ps
same_told hides channel ps qs some a b same =
    all_told (map (seen hides) (held_in_packets channel ps)) (told_of channel qs) (told_of channel ps)
    (subst (λ hs. AllZip SaysTold hs (told_of channel qs)) same
    (zip_seen hides (held_in_packets channel qs) (told_of channel qs) (packets_tell channel qs some b)))
    (zip_seen hides (held_in_packets channel ps) (told_of channel ps) (packets_tell channel ps some a))

-- ---- programs, ends and frames of what is told

abbrev frame_told : Told → List ReadFrameData
frame_told (ToldFrame frame) = frame ∷ []
frame_told (ToldProgram program) = []
frame_told (ToldEnd end) = []

abbrev pub program_told : Told → List ChannelProgram
program_told (ToldFrame frame) = []
program_told (ToldProgram program) = program ∷ []
program_told (ToldEnd end) = []

abbrev pub end_told : Told → List ChannelEnd
end_told (ToldFrame frame) = []
end_told (ToldProgram program) = []
end_told (ToldEnd end) = end ∷ []

only_frames : (frames : List ReadFrameData) → flat_map frame_told (map ToldFrame frames) ≡ frames
only_frames [] = refl
only_frames (f ∷ fs) = ap (λ l. f ∷ l) (only_frames fs)

-- nothing of frames
nothing : {X : Type 0} (pick : Told → List X) → ((frame : ReadFrameData) → pick (ToldFrame frame) ≡ []) → (frames : List ReadFrameData)
    → flat_map pick (map ToldFrame frames) ≡ []
nothing pick none [] = refl
nothing pick none (f ∷ fs) = ap (λ l. l ++ flat_map pick (map ToldFrame fs)) (none f) ∙ nothing pick none fs

-- what is picked of what a packet says of a channel
where_said : {X : Type 0} (pick : Told → List X) (is : Bool) (said : List X) (told : List Told) → said ≡ flat_map pick told
    → (if is then said else []) ≡ flat_map pick (if is then told else [])
where_said pick true said told same = same
where_said pick false said told same = refl

where_none : {X : Type 0} (pick : Told → List X) (is : Bool) (told : List Told) → flat_map pick told ≡ []
    → [] ≡ flat_map pick (if is then told else [])
where_none pick true told none = sym none
where_none pick false told none = refl

either : {X : Type 0} (is : Bool) → ◌≡◌ {A = List X} (if is then [] else []) []
either true = refl
either false = refl

frames_by : (channel own : ℕ) (what : What) (bytes : List ℕ)
    → (if own == channel then frames_held what bytes else []) ≡ flat_map frame_told (told_in channel (saying_in own what bytes))
frames_by channel own (HoldsFrames count) bytes =
    where_said frame_told (own == channel) (said_frames bytes) (map ToldFrame (said_frames bytes)) (sym (only_frames (said_frames bytes)))
frames_by channel own (Program named version first count) bytes =
    either (own == channel) ∙ where_none frame_told (named == channel) (ToldProgram (stored_program version first count bytes) ∷ []) refl
frames_by channel own (End named offered kept) bytes =
    either (own == channel) ∙ where_none frame_told (named == channel) (ToldEnd (record { offered = offered; kept = kept }) ∷ []) refl
frames_by channel own Other bytes = either (own == channel)

pub programs_by : (channel : ℕ) (said : Option (ℕ × Saying)) → program_said channel said ≡ flat_map program_told (told_in channel said)
programs_by channel None = refl
programs_by channel (Some (named, OfFrames frames)) =
    where_none program_told (named == channel) (map ToldFrame frames) (nothing program_told (λ frame. refl) frames)
programs_by channel (Some (named, OfProgram program)) = where_said program_told (named == channel) (program ∷ []) (ToldProgram program ∷ []) refl
programs_by channel (Some (named, OfEnd end)) = where_none program_told (named == channel) (ToldEnd end ∷ []) refl

pub ends_by : (channel : ℕ) (said : Option (ℕ × Saying)) → end_said channel said ≡ flat_map end_told (told_in channel said)
ends_by channel None = refl
ends_by channel (Some (named, OfFrames frames)) =
    where_none end_told (named == channel) (map ToldFrame frames) (nothing end_told (λ frame. refl) frames)
ends_by channel (Some (named, OfProgram program)) = where_none end_told (named == channel) (ToldProgram program ∷ []) refl
ends_by channel (Some (named, OfEnd end)) = where_said end_told (named == channel) (end ∷ []) (ToldEnd end ∷ []) refl

-- what is picked packet by packet is picked of what is told
of_told : {X : Type 0} (pick : Told → List X) (channel : ℕ) (each : PacketData → List X)
    → ((p : PacketData) → each p ≡ flat_map pick (told_in channel (saying_of p))) → (packets : List PacketData)
    → flat_map each packets ≡ flat_map pick (told_of channel packets)
of_told pick channel each same [] = refl
of_told pick channel each same (p ∷ ps) =
    ap (λ l. l ++ flat_map each ps) (same p) ∙ ap (λ l. flat_map pick (told_in channel (saying_of p)) ++ l) (of_told pick channel each same ps)
    ∙ sym (flat_map-append pick (told_in channel (saying_of p)) (told_of channel ps))

-- so packets have the same frames, programs and ends of a channel of which they say the same
same_picked : {X : Type 0} (pick : Told → List X) (channel : ℕ) (each : PacketData → List X)
    → ((p : PacketData) → each p ≡ flat_map pick (told_in channel (saying_of p))) → (ps qs : List PacketData)
    → told_of channel qs ≡ told_of channel ps → flat_map each qs ≡ flat_map each ps
same_picked pick channel each by ps qs same =
    of_told pick channel each by qs ∙ ap (flat_map pick) same ∙ sym (of_told pick channel each by ps)

pub ends_of_told : (channel : ℕ) (packets : List PacketData) → ends_of channel packets ≡ flat_map end_told (told_of channel packets)
ends_of_told channel packets =
    of_told end_told channel (λ (p : PacketData). end_said channel (saying_of p)) (λ p. ends_by channel (saying_of p)) packets

pub same_frames : (channel : ℕ) (ps qs : List PacketData) → told_of channel qs ≡ told_of channel ps → channel_frames channel qs ≡ channel_frames channel ps
same_frames channel =
    same_picked frame_told channel (λ (p : PacketData). if p.header.channel == channel then packet_frames p else [])
    (λ p. frames_by channel p.header.channel p.what (data_in p.header p.body))

pub same_programs : (channel : ℕ) (ps qs : List PacketData) → told_of channel qs ≡ told_of channel ps → programs_of channel qs ≡ programs_of channel ps
same_programs channel =
    same_picked program_told channel (λ (p : PacketData). program_said channel (saying_of p)) (λ p. programs_by channel (saying_of p))

pub same_ends : (channel : ℕ) (ps qs : List PacketData) → told_of channel qs ≡ told_of channel ps → ends_of channel qs ≡ ends_of channel ps
same_ends channel = same_picked end_told channel (λ (p : PacketData). end_said channel (saying_of p)) (λ p. ends_by channel (saying_of p))
