-- What an export says of a channel's filter: in comments of its frames.
use Rattle.std.proofs.Common.{◌≡◌, ℕ, ◌⊎◌, inl, inr, Bool, true, false, cond, List, [], ◌∷◌, ◌++◌, map, Option, None, Some}
use Rattle.std.proofs.Common.{refl, sym, ap, subst, ◌∙◌, true≢false}
use Rattle.std.specs.Prelude.{◌==◌}
use Rattle.std.specs.Option.{option_map}
use Rattle.std.proofs.lemmas.Bool.{eqb-true, eq-eqb, ne_eqb, cond-true, cond-false, cases_Bool}
use Rattle.std.proofs.lemmas.List.{map-append}
use Rattle.std.proofs.lemmas.List.Concat.{flat_map-cons}
use Rattle.ch11_packet.specs.FramesRead.{ReadFrameData}
use Rattle.pcapng_blocks.specs.Options.{OptionData}
use Rattle.pcapng_blocks.specs.Blocks.{BlockData}
use Rattle.rec_reader.specs.Packets.{PacketData}
use Rattle.rec_reader.specs.Channels.{Saying, saying_of}
use Rattle.rec_reader.specs.Channels.Saying.{OfFrames, OfProgram, OfEnd}
use Rattle.rec_export.specs.declared.version.FilterVersion.{FilterVersion}
use Rattle.rec_export.specs.declared.version.LaterVersions.{LaterVersions}
use Rattle.rec_export.specs.declared.version.LaterVersions.TheVariants.{Several}
use Rattle.rec_export.specs.Frames.{comment_options, flag_options, note_of, frame_options, frame_blocks}
use Rattle.rec_export.specs.Versions.{filter_version, later_text, joined_by}
use Rattle.rec_export.specs.Interfaces.{interface_block, number_of, is_described, later_of}
use Rattle.rec_export.specs.Export.{ExportState, description, later_behind, later_with, blocks_said, state_said, packets_blocks}
use Rattle.rec_export.specs.Export.{state_behind_all}
use Rattle.rec_export.specs.Comments.{said_on, sayings_on, last_version, joined, only_text, comments_behind, comments_from, frame_comments}
use Rattle.rec_export.specs.Shown.{option_values, comments_in, packet_comments, comments_on}
use Rattle.rec_export.proofs.LaterPut.{later_put, later_put_beside, no_later, not_described_beside}
use Rattle.rec_export.proofs.Numbering.{takes_number, keeps_number, keeps_all}
use Rattle.rec_export.proofs.ShownFrames.{packets_on-append, is_own}

-- ---- comments in options

first_value : (b : Bool) (value : List ℕ) (all first rest : List (List ℕ)) → all ≡ first ++ rest
    → cond b (value ∷ all) all ≡ cond b (value ∷ first) first ++ rest
first_value true value all first rest e = ap (λ l. value ∷ l) e
first_value false value all first rest e = e

pub option_values-append : (code : ℕ) (options more : List OptionData)
    → option_values code (options ++ more) ≡ option_values code options ++ option_values code more
option_values-append code [] more = refl
option_values-append code (option ∷ options) more = first_value (option.code == code) option.value _ _ _ (option_values-append code options more)

flags_have_none : (crc_error frame_error : Bool) → comments_in (flag_options crc_error frame_error) ≡ []
flags_have_none true true = refl
flags_have_none true false = refl
flags_have_none false true = refl
flags_have_none false false = refl

pub comment_there : (comment : Option (List ℕ)) → comments_in (comment_options comment) ≡ only_text comment
comment_there None = refl
comment_there (Some text) = refl

frame_comments_there : (comment : Option (List ℕ)) (frame : ReadFrameData)
    → comments_in (frame_options comment frame) ≡ only_text comment ++ only_text (note_of frame)
frame_comments_there comment frame =
    option_values-append 1 (flag_options frame.crc_error frame.frame_error) (comment_options comment ++ comment_options (note_of frame))
    ∙ ap (λ l. l ++ comments_in (comment_options comment ++ comment_options (note_of frame))) (flags_have_none frame.crc_error frame.frame_error)
    ∙ option_values-append 1 (comment_options comment) (comment_options (note_of frame))
    ∙ ap (λ l. l ++ comments_in (comment_options (note_of frame))) (comment_there comment)
    ∙ ap (λ l. only_text comment ++ l) (comment_there (note_of frame))

-- ---- comments on an interface

comments_on-append : (n : ℕ) (blocks more : List BlockData) → comments_on n (blocks ++ more) ≡ comments_on n blocks ++ comments_on n more
comments_on-append n blocks more = ap (map packet_comments) (packets_on-append n blocks more) ∙ map-append packet_comments _ _

none_on : (n : ℕ) (b : Bool) (state : ExportState) (channel : ℕ) (version : Option FilterVersion)
    → comments_on n (cond b [] (interface_block state.origin channel version ∷ [])) ≡ []
none_on n true state channel version = refl
none_on n false state channel version = refl

no_comments_described : (n : ℕ) (state : ExportState) (channel : ℕ) (version : Option FilterVersion) → comments_on n (description state channel version) ≡ []
no_comments_described n state channel version = none_on n (is_described channel state.interfaces) state channel version

-- those of frames, with this comment on the first
abbrev its_comments : (comment : Option (List ℕ)) → List ReadFrameData → List (List (List ℕ))
its_comments comment [] = []
its_comments comment (frame ∷ frames) = (only_text comment ++ only_text (note_of frame)) ∷ map (comments_behind []) frames

no_further : (frames : List ReadFrameData) → its_comments None frames ≡ map (comments_behind []) frames
no_further [] = refl
no_further (frame ∷ frames) = refl

comments_there : (n : ℕ) (comment : Option (List ℕ)) (frames : List ReadFrameData) → comments_on n (frame_blocks n comment frames) ≡ its_comments comment frames
comments_there n comment [] = refl
comments_there n comment (frame ∷ frames) =
    ap (map packet_comments) (cond-true (n == n) _ _ (eq-eqb n n refl))
    ∙ ap (λ texts. texts ∷ comments_on n (frame_blocks n None frames)) (frame_comments_there comment frame)
    ∙ ap (λ l. (only_text comment ++ only_text (note_of frame)) ∷ l) (comments_there n None frames ∙ no_further frames)

comments_elsewhere : (n other : ℕ) (comment : Option (List ℕ)) (frames : List ReadFrameData) → (other == n) ≡ false
    → comments_on n (frame_blocks other comment frames) ≡ []
comments_elsewhere n other comment [] differ = refl
comments_elsewhere n other comment (frame ∷ frames) differ =
    ap (map packet_comments) (cond-false (other == n) _ _ differ) ∙ comments_elsewhere n other None frames differ

-- ---- versions

last_push : (version next : FilterVersion) (versions : List FilterVersion) → last_version next (versions ++ version ∷ []) ≡ version
last_push version next [] = refl
last_push version next (second ∷ versions) = last_push version second versions

joined_push : (versions : List FilterVersion) (version : FilterVersion) → joined (versions ++ version ∷ []) ≡ Some (joined_by (joined versions) version)
joined_push [] version = refl
joined_push (first ∷ []) version = refl
joined_push (first ∷ next ∷ versions) version =
    ap (λ last. Some (Several first.number last)) (last_push version next versions)

-- those that are ahead of what stands behind frames
abbrev left_ahead : List ReadFrameData → List FilterVersion → List FilterVersion
left_ahead [] ahead = ahead
left_ahead (frame ∷ frames) ahead = []

left_joined : (frames : List ReadFrameData) (ahead : List FilterVersion) (later : Option LaterVersions) → joined ahead ≡ later
    → joined (left_ahead frames ahead) ≡ later_behind frames later
left_joined [] ahead later same = same
left_joined (frame ∷ frames) ahead later same = refl

from_frames : (ahead : List FilterVersion) (frames : List ReadFrameData) (said : List Saying)
    → its_comments (option_map later_text (joined ahead)) frames ++ comments_from (left_ahead frames ahead) said
    ≡ comments_from ahead (OfFrames frames ∷ said)
from_frames ahead [] said = refl
from_frames ahead (frame ∷ frames) said = refl

-- ---- one packet, where the channel has an interface

-- the comments of the packets behind it
abbrev Further : (channel : ℕ) → List PacketData → Type 0
Further channel packets =
    (state : ExportState) (ahead : List FilterVersion) → is_described channel state.interfaces ≡ true → joined ahead ≡ later_of channel state.interfaces
    → comments_on (number_of channel (state_behind_all state packets).interfaces) (packets_blocks state packets)
    ≡ comments_from ahead (sayings_on channel packets)

-- the comments of what is said, and of the packets behind it
abbrev Shows : (channel : ℕ) (state : ExportState) (packets : List PacketData) (ahead : List FilterVersion) → Option (ℕ × Saying) → Type 0
Shows channel state packets ahead said =
    comments_on (number_of channel (state_behind_all (state_said state said) packets).interfaces)
    (blocks_said state said ++ packets_blocks (state_said state said) packets)
    ≡ comments_from ahead (said_on channel said ++ sayings_on channel packets)

own_first : (channel : ℕ) (saying : Saying) (said : List Saying) → said_on channel (Some (channel, saying)) ++ said ≡ saying ∷ said
own_first channel saying said = ap (λ l. l ++ said) (cond-true (channel == channel) _ _ (eq-eqb channel channel refl))

none_first : (channel other : ℕ) (saying : Saying) (said : List Saying) → (other == channel) ≡ false → said_on channel (Some (other, saying)) ++ said ≡ said
none_first channel other saying said differ = ap (λ l. l ++ said) (cond-false (other == channel) _ _ differ)

-- the number that a channel has behind frames of it is the one that they stand on
own_number : (channel : ℕ) (state : ExportState) (frames : List ReadFrameData) (packets : List PacketData)
    → number_of channel (state_behind_all (state_said state (Some (channel, OfFrames frames))) packets).interfaces ≡ number_of channel state.interfaces
own_number channel state frames packets =
    let taken = takes_number channel (later_behind frames (later_of channel state.interfaces)) state.interfaces in
    (keeps_all channel (state_said state (Some (channel, OfFrames frames))) packets taken.described).number ∙ taken.number

-- the comments of frames of the channel
own_frames : (channel : ℕ) (state : ExportState) (frames : List ReadFrameData) (packets : List PacketData) (more : List BlockData)
    → comments_on (number_of channel (state_behind_all (state_said state (Some (channel, OfFrames frames))) packets).interfaces)
    (blocks_said state (Some (channel, OfFrames frames)) ++ more)
    ≡ its_comments (option_map later_text (later_of channel state.interfaces)) frames
    ++ comments_on (number_of channel (state_behind_all (state_said state (Some (channel, OfFrames frames))) packets).interfaces) more
own_frames channel state frames packets more =
    let n = number_of channel (state_behind_all (state_said state (Some (channel, OfFrames frames))) packets).interfaces in
    let k = number_of channel state.interfaces in
    let comment = option_map later_text (later_of channel state.interfaces) in
    comments_on-append n (blocks_said state (Some (channel, OfFrames frames))) more
    ∙ ap (λ l. l ++ comments_on n more) (comments_on-append n (description state channel None) (frame_blocks k comment frames)
    ∙ ap (λ l. l ++ comments_on n (frame_blocks k comment frames)) (no_comments_described n state channel None)
    ∙ ap (λ m. comments_on m (frame_blocks k comment frames)) (own_number channel state frames packets)
    ∙ comments_there k comment frames)

-- the packets of another channel have none of this one's comments
none_of_other : (channel other : ℕ) (state : ExportState) (saying : Saying) (packets : List PacketData) → (other == channel) ≡ false
    → is_described channel (state_behind_all (state_said state (Some (other, saying))) packets).interfaces ≡ true
    → comments_on (number_of channel (state_behind_all (state_said state (Some (other, saying))) packets).interfaces) (blocks_said state (Some (other, saying)))
    ≡ []
none_of_other channel other state (OfFrames frames) packets differ is =
    let n = number_of channel (state_behind_all (state_said state (Some (other, OfFrames frames))) packets).interfaces in
    let k = number_of other state.interfaces in
    let comment = option_map later_text (later_of other state.interfaces) in
    comments_on-append n (description state other None) (frame_blocks k comment frames)
    ∙ ap (λ l. l ++ comments_on n (frame_blocks k comment frames)) (no_comments_described n state other None)
    ∙ comments_elsewhere n k comment frames (ne_eqb k n (λ same. true≢false (sym (eq-eqb other channel
    ((is_own channel state (Some (other, OfFrames frames)) packets is).others other frames refl same)) ∙ differ)))
none_of_other channel other state (OfProgram program) packets differ is =
    no_comments_described (number_of channel (state_behind_all (state_said state (Some (other, OfProgram program))) packets).interfaces) state other
    (Some (filter_version program))
none_of_other channel other state (OfEnd end) packets differ is = refl

own_said : (channel : ℕ) (state : ExportState) (packets : List PacketData) (ahead : List FilterVersion) (saying : Saying)
    → is_described channel state.interfaces ≡ true → joined ahead ≡ later_of channel state.interfaces → Further channel packets
    → Shows channel state packets ahead (Some (channel, saying))
own_said channel state packets ahead (OfFrames frames) is same further =
    let later = later_behind frames (later_of channel state.interfaces) in
    let next = state_said state (Some (channel, OfFrames frames)) in
    let keeps = takes_number channel later state.interfaces in
    own_frames channel state frames packets (packets_blocks next packets)
    ∙ ap (λ l. its_comments (option_map later_text (later_of channel state.interfaces)) frames ++ l)
    (further next (left_ahead frames ahead) keeps.described
    (left_joined frames ahead (later_of channel state.interfaces) same ∙ sym (later_put channel later state.interfaces)))
    ∙ ap (λ o. its_comments (option_map later_text o) frames ++ comments_from (left_ahead frames ahead) (sayings_on channel packets)) (sym same)
    ∙ from_frames ahead frames (sayings_on channel packets)
    ∙ ap (comments_from ahead) (sym (own_first channel (OfFrames frames) (sayings_on channel packets)))
own_said channel state packets ahead (OfProgram program) is same further =
    let version = filter_version program in
    let next = state_said state (Some (channel, OfProgram program)) in
    let n = number_of channel (state_behind_all next packets).interfaces in
    let keeps = takes_number channel (later_with channel version state.interfaces) state.interfaces in
    comments_on-append n (description state channel (Some version)) (packets_blocks next packets)
    ∙ ap (λ l. l ++ comments_on n (packets_blocks next packets)) (no_comments_described n state channel (Some version))
    ∙ further next (ahead ++ version ∷ []) keeps.described
    (joined_push ahead version ∙ ap (λ o. Some (joined_by o version)) same
    ∙ sym (cond-true (is_described channel state.interfaces) (Some (joined_by (later_of channel state.interfaces) version)) None is)
    ∙ sym (later_put channel (later_with channel version state.interfaces) state.interfaces))
    ∙ ap (comments_from ahead) (sym (own_first channel (OfProgram program) (sayings_on channel packets)))
own_said channel state packets ahead (OfEnd end) is same further =
    further state ahead is same ∙ ap (comments_from ahead) (sym (own_first channel (OfEnd end) (sayings_on channel packets)))

-- what stays of a channel behind what is said of another one
stays_described : (channel other : ℕ) (state : ExportState) (saying : Saying) → is_described channel state.interfaces ≡ true
    → is_described channel (state_said state (Some (other, saying))).interfaces ≡ true
stays_described channel other state (OfFrames frames) is = (keeps_number channel other _ state.interfaces is).described
stays_described channel other state (OfProgram program) is = (keeps_number channel other _ state.interfaces is).described
stays_described channel other state (OfEnd end) is = is

stays_later : (channel other : ℕ) (state : ExportState) (saying : Saying) → (other == channel) ≡ false
    → later_of channel (state_said state (Some (other, saying))).interfaces ≡ later_of channel state.interfaces
stays_later channel other state (OfFrames frames) differ = later_put_beside channel other _ state.interfaces differ
stays_later channel other state (OfProgram program) differ = later_put_beside channel other _ state.interfaces differ
stays_later channel other state (OfEnd end) differ = refl

other_said : (channel other : ℕ) (state : ExportState) (packets : List PacketData) (ahead : List FilterVersion) (saying : Saying)
    → (other == channel) ≡ false → is_described channel state.interfaces ≡ true → joined ahead ≡ later_of channel state.interfaces → Further channel packets
    → Shows channel state packets ahead (Some (other, saying))
other_said channel other state packets ahead saying differ is same further =
    let next = state_said state (Some (other, saying)) in
    let n = number_of channel (state_behind_all next packets).interfaces in
    let still = stays_described channel other state saying is in
    let last = (keeps_all channel next packets still).described in
    comments_on-append n (blocks_said state (Some (other, saying))) (packets_blocks next packets)
    ∙ ap (λ l. l ++ comments_on n (packets_blocks next packets)) (none_of_other channel other state saying packets differ last)
    ∙ further next ahead still (same ∙ sym (stays_later channel other state saying differ))
    ∙ ap (comments_from ahead) (sym (none_first channel other saying (sayings_on channel packets) differ))

one_said : (channel : ℕ) (state : ExportState) (packets : List PacketData) (ahead : List FilterVersion) (said : Option (ℕ × Saying))
    → is_described channel state.interfaces ≡ true → joined ahead ≡ later_of channel state.interfaces → Further channel packets
    → Shows channel state packets ahead said
one_said channel state packets ahead None is same further = further state ahead is same
one_said channel state packets ahead (Some (other, saying)) is same further = by_cases (cases_Bool (other == channel))
  where
    by_cases : ((other == channel) ≡ true) ⊎ ((other == channel) ≡ false) → Shows channel state packets ahead (Some (other, saying))
    by_cases (inl own) =
        subst (λ c. Shows channel state packets ahead (Some (c, saying))) (sym (eqb-true other channel own))
        (own_said channel state packets ahead saying is same further)
    by_cases (inr differ) = other_said channel other state packets ahead saying differ is same further

comments_further : (channel : ℕ) (packets : List PacketData) → Further channel packets
comments_further channel [] = λ state ahead is same. refl
comments_further channel (packet ∷ packets) = λ state ahead is same.
    (one_said channel state packets ahead (saying_of packet) is same (comments_further channel packets)
    ∙ ap (comments_from ahead) (sym (flat_map-cons (λ (p : PacketData). said_on channel (saying_of p)) packet packets)))

-- ---- from the first packet on

-- the comments of the packets behind one, where the channel has no interface yet
abbrev Begins : (channel : ℕ) → List PacketData → Type 0
Begins channel packets =
    (state : ExportState) → is_described channel state.interfaces ≡ false → is_described channel (state_behind_all state packets).interfaces ≡ true
    → comments_on (number_of channel (state_behind_all state packets).interfaces) (packets_blocks state packets)
    ≡ frame_comments (sayings_on channel packets)

abbrev ShowsFirst : (channel : ℕ) (state : ExportState) (packets : List PacketData) → Option (ℕ × Saying) → Type 0
ShowsFirst channel state packets said =
    comments_on (number_of channel (state_behind_all (state_said state said) packets).interfaces)
    (blocks_said state said ++ packets_blocks (state_said state said) packets)
    ≡ frame_comments (said_on channel said ++ sayings_on channel packets)

none_behind : (frames : List ReadFrameData) → None ≡ later_behind frames None
none_behind [] = refl
none_behind (frame ∷ frames) = refl

left_none : (frames : List ReadFrameData) → left_ahead frames [] ≡ []
left_none [] = refl
left_none (frame ∷ frames) = refl

own_begins : (channel : ℕ) (state : ExportState) (packets : List PacketData) (saying : Saying) → is_described channel state.interfaces ≡ false
    → is_described channel (state_behind_all (state_said state (Some (channel, saying))) packets).interfaces ≡ true → Begins channel packets
    → ShowsFirst channel state packets (Some (channel, saying))
own_begins channel state packets (OfFrames frames) isnt is begins =
    let later = later_behind frames (later_of channel state.interfaces) in
    let next = state_said state (Some (channel, OfFrames frames)) in
    let keeps = takes_number channel later state.interfaces in
    let none = no_later channel state.interfaces isnt in
    own_frames channel state frames packets (packets_blocks next packets)
    ∙ ap (λ l. its_comments (option_map later_text (later_of channel state.interfaces)) frames ++ l)
    (comments_further channel packets next [] keeps.described
    (none_behind frames ∙ ap (later_behind frames) (sym none) ∙ sym (later_put channel later state.interfaces)))
    ∙ ap (λ o. its_comments (option_map later_text o) frames ++ comments_from [] (sayings_on channel packets)) none
    ∙ ap (λ ahead. its_comments None frames ++ comments_from ahead (sayings_on channel packets)) (sym (left_none frames))
    ∙ from_frames [] frames (sayings_on channel packets)
    ∙ ap frame_comments (sym (own_first channel (OfFrames frames) (sayings_on channel packets)))
own_begins channel state packets (OfProgram program) isnt is begins =
    let version = filter_version program in
    let next = state_said state (Some (channel, OfProgram program)) in
    let n = number_of channel (state_behind_all next packets).interfaces in
    let keeps = takes_number channel (later_with channel version state.interfaces) state.interfaces in
    comments_on-append n (description state channel (Some version)) (packets_blocks next packets)
    ∙ ap (λ l. l ++ comments_on n (packets_blocks next packets)) (no_comments_described n state channel (Some version))
    ∙ comments_further channel packets next [] keeps.described
    (sym (cond-false (is_described channel state.interfaces) (Some (joined_by (later_of channel state.interfaces) version)) None isnt)
    ∙ sym (later_put channel (later_with channel version state.interfaces) state.interfaces))
    ∙ ap frame_comments (sym (own_first channel (OfProgram program) (sayings_on channel packets)))
own_begins channel state packets (OfEnd end) isnt is begins =
    begins state isnt is ∙ ap frame_comments (sym (own_first channel (OfEnd end) (sayings_on channel packets)))

pub stays_undescribed : (channel other : ℕ) (state : ExportState) (saying : Saying) → (other == channel) ≡ false
    → is_described channel state.interfaces ≡ false → is_described channel (state_said state (Some (other, saying))).interfaces ≡ false
stays_undescribed channel other state (OfFrames frames) differ isnt = not_described_beside channel other _ state.interfaces differ isnt
stays_undescribed channel other state (OfProgram program) differ isnt = not_described_beside channel other _ state.interfaces differ isnt
stays_undescribed channel other state (OfEnd end) differ isnt = isnt

other_begins : (channel other : ℕ) (state : ExportState) (packets : List PacketData) (saying : Saying) → (other == channel) ≡ false
    → is_described channel state.interfaces ≡ false
    → is_described channel (state_behind_all (state_said state (Some (other, saying))) packets).interfaces ≡ true → Begins channel packets
    → ShowsFirst channel state packets (Some (other, saying))
other_begins channel other state packets saying differ isnt is begins =
    let next = state_said state (Some (other, saying)) in
    let n = number_of channel (state_behind_all next packets).interfaces in
    comments_on-append n (blocks_said state (Some (other, saying))) (packets_blocks next packets)
    ∙ ap (λ l. l ++ comments_on n (packets_blocks next packets)) (none_of_other channel other state saying packets differ is)
    ∙ begins next (stays_undescribed channel other state saying differ isnt) is
    ∙ ap frame_comments (sym (none_first channel other saying (sayings_on channel packets) differ))

first_said : (channel : ℕ) (state : ExportState) (packets : List PacketData) (said : Option (ℕ × Saying)) → is_described channel state.interfaces ≡ false
    → is_described channel (state_behind_all (state_said state said) packets).interfaces ≡ true → Begins channel packets
    → ShowsFirst channel state packets said
first_said channel state packets None isnt is begins = begins state isnt is
first_said channel state packets (Some (other, saying)) isnt is begins = by_cases (cases_Bool (other == channel))
  where
    by_cases : ((other == channel) ≡ true) ⊎ ((other == channel) ≡ false) → ShowsFirst channel state packets (Some (other, saying))
    by_cases (inl own) =
        let same = eqb-true other channel own in
        subst (λ c. ShowsFirst channel state packets (Some (c, saying))) (sym same)
        (own_begins channel state packets saying isnt
        (subst (λ c. is_described channel (state_behind_all (state_said state (Some (c, saying))) packets).interfaces ≡ true) same is) begins)
    by_cases (inr differ) = other_begins channel other state packets saying differ isnt is begins

-- the comments of a channel's frames
pub comments_shown : (channel : ℕ) (packets : List PacketData) → Begins channel packets
comments_shown channel [] = λ state isnt is. absurd (true≢false (sym is ∙ isnt))
comments_shown channel (packet ∷ packets) = λ state isnt is.
    (first_said channel state packets (saying_of packet) isnt is (comments_shown channel packets)
    ∙ ap frame_comments (sym (flat_map-cons (λ (p : PacketData). said_on channel (saying_of p)) packet packets)))
