-- What an export shows of a channel: its frames on its interface.
use Rattle.std.proofs.Common.{◌≡◌, ℕ, ◌⊎◌, inl, inr, Bool, true, false, cond, List, [], ◌∷◌, ◌++◌, map, Option, None}
use Rattle.std.proofs.Common.{Some, refl, sym, ap, subst, ◌∙◌, true≢false}
use Rattle.std.specs.Prelude.{◌==◌}
use Rattle.std.specs.Option.{option_map}
use Rattle.std.proofs.Math.Seq.{map-set_same}
use Rattle.std.proofs.lemmas.Bool.{eqb-true, eq-eqb, cond-true, cond-false, cases_Bool}
use Rattle.std.proofs.lemmas.List.{append_assoc, append-nil, map-append}
use Rattle.std.proofs.lemmas.List.Concat.{flat_map-cons}
use Rattle.ch11_packet.specs.declared.class.What.{What}
use Rattle.ch11_packet.specs.declared.class.What.TheVariants.{Frames, Program, End, Other}
use Rattle.ch11_packet.specs.FramesRead.{ReadFrameData}
use Rattle.ch11_packet.specs.Classes.{data_in}
use Rattle.pcapng_blocks.specs.Options.{OptionData}
use Rattle.pcapng_blocks.specs.Blocks.{CapturedData, InterfaceData, BlockData}
use Rattle.pcapng_blocks.specs.Blocks.BlockData.{OfSection, OfInterface, OfPacket}
use Rattle.rec_reader.specs.Packets.{PacketData}
use Rattle.rec_reader.specs.ChannelFrames.{channel_frames, packet_frames, frames_held}
use Rattle.rec_reader.specs.Channels.{Saying, saying_of, saying_in, stored_program}
use Rattle.rec_reader.specs.Channels.Saying.{OfFrames, OfProgram, OfEnd}
use Rattle.rec_export.specs.declared.version.FilterVersion.{FilterVersion}
use Rattle.rec_export.specs.declared.version.LaterVersions.{LaterVersions}
use Rattle.rec_export.specs.Frames.{comment_options, flag_options, note_of, frame_options, frame_blocks}
use Rattle.rec_export.specs.Versions.{later_text, filter_version}
use Rattle.rec_export.specs.Interfaces.{Interface, interface_block, channel_name, number_of}
use Rattle.rec_export.specs.Interfaces.{is_described, later_of, with_interface}
use Rattle.rec_export.specs.Export.{ExportState, description, blocks_said, state_said, packet_blocks, state_behind, packets_blocks}
use Rattle.rec_export.specs.Export.{state_behind_all, later_behind, later_with}
use Rattle.rec_export.specs.Shown.{FrameShown, packets_on, uncommented, packet_shown, frame_shown, frames_on, interfaces_in, name_in, names_in}
use Rattle.rec_export.specs.Shown.{interface_name}
use Rattle.rec_export.proofs.Numbering.{Keeps, no_interface, stands_at, one_channel, takes_number, keeps_all}

-- ---- frames on an interface

one_first : (b : Bool) (packet : CapturedData) (all first rest : List CapturedData) → all ≡ first ++ rest
    → cond b (packet ∷ all) all ≡ cond b (packet ∷ first) first ++ rest
one_first true packet all first rest e = ap (λ l. packet ∷ l) e
one_first false packet all first rest e = e

pub packets_on-append : (n : ℕ) (blocks more : List BlockData) → packets_on n (blocks ++ more) ≡ packets_on n blocks ++ packets_on n more
packets_on-append n [] more = refl
packets_on-append n (OfSection ∷ blocks) more = packets_on-append n blocks more
packets_on-append n (OfInterface i ∷ blocks) more = packets_on-append n blocks more
packets_on-append n (OfPacket p ∷ blocks) more = one_first (p.interface == n) p _ _ _ (packets_on-append n blocks more)

pub frames_on-append : (n : ℕ) (blocks more : List BlockData) → frames_on n (blocks ++ more) ≡ frames_on n blocks ++ frames_on n more
frames_on-append n blocks more =
    ap (map packet_shown) (packets_on-append n blocks more) ∙ map-append packet_shown (packets_on n blocks) (packets_on n more)

-- ---- options

first_kept : (b : Bool) (option : OptionData) (all first rest : List OptionData) → all ≡ first ++ rest
    → cond b all (option ∷ all) ≡ cond b first (option ∷ first) ++ rest
first_kept true option all first rest e = e
first_kept false option all first rest e = ap (λ l. option ∷ l) e

uncommented-append : (options more : List OptionData) → uncommented (options ++ more) ≡ uncommented options ++ uncommented more
uncommented-append [] more = refl
uncommented-append (option ∷ options) more = first_kept (option.code == 1) option _ _ _ (uncommented-append options more)

flags_left : (crc_error frame_error : Bool) → uncommented (flag_options crc_error frame_error) ≡ flag_options crc_error frame_error
flags_left true true = refl
flags_left true false = refl
flags_left false true = refl
flags_left false false = refl

none_left : (comment note : Option (List ℕ)) → uncommented (comment_options comment ++ comment_options note) ≡ []
none_left None None = refl
none_left None (Some said) = refl
none_left (Some text) None = refl
none_left (Some text) (Some said) = refl

marks_left : (comment : Option (List ℕ)) (frame : ReadFrameData)
    → uncommented (frame_options comment frame) ≡ flag_options frame.crc_error frame.frame_error
marks_left comment frame =
    uncommented-append (flag_options frame.crc_error frame.frame_error) (comment_options comment ++ comment_options (note_of frame))
    ∙ ap (λ l. uncommented (flag_options frame.crc_error frame.frame_error) ++ l) (none_left comment (note_of frame))
    ∙ append-nil (uncommented (flag_options frame.crc_error frame.frame_error))
    ∙ flags_left frame.crc_error frame.frame_error

-- ---- frames

abbrev pub shown_of : (time : ℕ) (bytes : List ℕ) (marks : List OptionData) → FrameShown
shown_of time bytes marks = record { time = time; bytes = bytes; marks = marks }

-- frames are on their interface
frames_there : (n : ℕ) (comment : Option (List ℕ)) (frames : List ReadFrameData) → frames_on n (frame_blocks n comment frames) ≡ map frame_shown frames
frames_there n comment [] = refl
frames_there n comment (frame ∷ frames) =
    ap (map packet_shown) (cond-true (n == n) _ _ (eq-eqb n n refl))
    ∙ ap (λ marks. shown_of frame.counter frame.bytes marks ∷ frames_on n (frame_blocks n None frames)) (marks_left comment frame)
    ∙ ap (λ l. frame_shown frame ∷ l) (frames_there n None frames)

-- and on no other
pub frames_elsewhere : (n other : ℕ) (comment : Option (List ℕ)) (frames : List ReadFrameData) → (other == n) ≡ false
    → frames_on n (frame_blocks other comment frames) ≡ []
frames_elsewhere n other comment [] differ = refl
frames_elsewhere n other comment (frame ∷ frames) differ =
    ap (map packet_shown) (cond-false (other == n) _ _ differ) ∙ frames_elsewhere n other None frames differ

none_on : (n : ℕ) (b : Bool) (block : BlockData) → frames_on n (block ∷ []) ≡ [] → frames_on n (cond b [] (block ∷ [])) ≡ []
none_on n true block e = refl
none_on n false block e = e

pub no_frames_described : (n : ℕ) (state : ExportState) (channel : ℕ) (version : Option FilterVersion) → frames_on n (description state channel version) ≡ []
no_frames_described n state channel version = none_on n (is_described channel state.interfaces) (interface_block state.origin channel version) refl

-- ---- one packet

-- the interface of number n is to be the channel's, of the channels that frames name
pub record IsOwn (n channel : ℕ) (state : ExportState) (said : Option (ℕ × Saying)) : Type 0 where
  pub own : (other : ℕ) (frames : List ReadFrameData) → said ≡ Some (other, OfFrames frames) → other ≡ channel → number_of other state.interfaces ≡ n
  pub others : (other : ℕ) (frames : List ReadFrameData) → said ≡ Some (other, OfFrames frames) → number_of other state.interfaces ≡ n → other ≡ channel

frames_of_one : (n channel other : ℕ) (state : ExportState) (frames : List ReadFrameData) (comment : Option (List ℕ))
    → (other ≡ channel → number_of other state.interfaces ≡ n) → (number_of other state.interfaces ≡ n → other ≡ channel)
    → frames_on n (frame_blocks (number_of other state.interfaces) comment frames) ≡ map frame_shown (cond (other == channel) frames [])
frames_of_one n channel other state frames comment own others = by_cases (cases_Bool (other == channel))
  where
    by_cases : ((other == channel) ≡ true) ⊎ ((other == channel) ≡ false)
        → frames_on n (frame_blocks (number_of other state.interfaces) comment frames) ≡ map frame_shown (cond (other == channel) frames [])
    by_cases (inl is) =
        ap (λ k. frames_on n (frame_blocks k comment frames)) (own (eqb-true other channel is))
        ∙ frames_there n comment frames ∙ ap (map frame_shown) (sym (cond-true (other == channel) frames [] is))
    by_cases (inr isnt) =
        frames_elsewhere n (number_of other state.interfaces) comment frames (apart (cases_Bool (number_of other state.interfaces == n)))
        ∙ ap (map frame_shown) (sym (cond-false (other == channel) frames [] isnt))
      where
        apart : ((number_of other state.interfaces == n) ≡ true) ⊎ ((number_of other state.interfaces == n) ≡ false)
            → (number_of other state.interfaces == n) ≡ false
        apart (inl same) = absurd (true≢false (sym (eq-eqb other channel (others (eqb-true _ _ same))) ∙ isnt))
        apart (inr differ) = differ

no_more : (b : Bool) → map frame_shown (cond b [] []) ≡ []
no_more true = refl
no_more false = refl

frames_of_packet : (n channel other : ℕ) (state : ExportState) (what : What) (bytes : List ℕ) → IsOwn n channel state (saying_in other what bytes)
    → frames_on n (blocks_said state (saying_in other what bytes)) ≡ map frame_shown (cond (other == channel) (frames_held what bytes) [])
frames_of_packet n channel other state (Frames count) bytes is =
    frames_on-append n (description state other None) _
    ∙ ap (λ l. l ++ frames_on n (frame_blocks (number_of other state.interfaces) (option_map later_text (later_of other state.interfaces)) (frames_held
    (Frames count) bytes)))
    (no_frames_described n state other None)
    ∙ frames_of_one n channel other state (frames_held (Frames count) bytes) _ (is.own other (frames_held (Frames count) bytes) refl)
    (is.others other (frames_held (Frames count) bytes) refl)
frames_of_packet n channel other state (Program named version first count) bytes is =
    no_frames_described n state named (Some (filter_version (stored_program version first count bytes))) ∙ sym (no_more (other == channel))
frames_of_packet n channel other state (End named offered kept) bytes is = sym (no_more (other == channel))
frames_of_packet n channel other state Other bytes is = sym (no_more (other == channel))

-- ---- all packets

-- the number that a channel has in the end is that of the frames that name it
pub is_own : (channel : ℕ) (state : ExportState) (said : Option (ℕ × Saying)) (packets : List PacketData)
    → is_described channel (state_behind_all (state_said state said) packets).interfaces ≡ true
    → IsOwn (number_of channel (state_behind_all (state_said state said) packets).interfaces) channel state said
is_own channel state said packets is =
    record {
      own = λ other frames says same. sym (its other frames says).number ∙ ap (λ c. number_of c last) same;
      others = λ other frames says same.
          sym (one_channel channel other last is (sym ((its other frames says).number ∙ same)));
    }
  where
    last : List Interface
    last = (state_behind_all (state_said state said) packets).interfaces

    its : (other : ℕ) (frames : List ReadFrameData) → said ≡ Some (other, OfFrames frames)
        → Keeps other state.interfaces (state_behind_all (state_said state said) packets).interfaces
    its other frames says =
        let taken : Keeps other state.interfaces (state_said state said).interfaces =
        subst (λ s. Keeps other state.interfaces (state_said state s).interfaces) (sym says)
        (takes_number other (later_behind frames (later_of other state.interfaces)) state.interfaces) in
        let kept = keeps_all other (state_said state said) packets taken.described in
        record { number = kept.number ∙ taken.number; described = kept.described }

pub frames_shown : (state : ExportState) (packets : List PacketData) (channel : ℕ) → is_described channel (state_behind_all state packets).interfaces ≡ true
    → frames_on (number_of channel (state_behind_all state packets).interfaces) (packets_blocks state packets) ≡ map frame_shown
    (channel_frames channel packets)
frames_shown state [] channel is = refl
frames_shown state (packet ∷ packets) channel is =
    let n = number_of channel (state_behind_all state (packet ∷ packets)).interfaces in
    let its = λ (p : PacketData). cond (p.header.channel == channel) (packet_frames p) [] in
    frames_on-append n (packet_blocks state packet) (packets_blocks (state_behind state packet) packets)
    ∙ ap (λ l. l ++ frames_on n (packets_blocks (state_behind state packet) packets))
    (frames_of_packet n channel packet.header.channel state packet.what (data_in packet.header packet.body) (is_own channel state
    (saying_of packet) packets is))
    ∙ ap (λ l. map frame_shown (its packet) ++ l) (frames_shown (state_behind state packet) packets channel is)
    ∙ sym (map-append frame_shown (its packet) (channel_frames channel packets))
    ∙ ap (map frame_shown) (sym (flat_map-cons its packet packets))

-- ---- channels without an interface

either : (b : Bool) → cond {A = List ReadFrameData} b [] [] ≡ []
either true = refl
either false = refl

-- a packet of frames leaves their channel with an interface
described_behind : (channel : ℕ) (state : ExportState) (frames : List ReadFrameData) (packets : List PacketData)
    → is_described channel (state_behind_all (state_said state (Some (channel, OfFrames frames))) packets).interfaces ≡ true
described_behind channel state frames packets =
    let taken = takes_number channel (later_behind frames (later_of channel state.interfaces)) state.interfaces in
    (keeps_all channel (state_said state (Some (channel, OfFrames frames))) packets taken.described).described

none_said : (channel other : ℕ) (state : ExportState) (what : What) (bytes : List ℕ) (packets : List PacketData)
    → is_described channel (state_behind_all (state_said state (saying_in other what bytes)) packets).interfaces ≡ false
    → cond (other == channel) (frames_held what bytes) [] ≡ []
none_said channel other state (Frames count) bytes packets isnt = by_cases (cases_Bool (other == channel))
  where
    by_cases : ((other == channel) ≡ true) ⊎ ((other == channel) ≡ false) → cond (other == channel) (frames_held (Frames count) bytes) [] ≡ []
    by_cases (inl is) =
        absurd (true≢false (sym (subst (λ c. is_described c (state_behind_all (state_said state (saying_in other (Frames count) bytes)) packets).interfaces
        ≡ true)
        (eqb-true other channel is) (described_behind other state (frames_held (Frames count) bytes) packets)) ∙ isnt))
    by_cases (inr differ) = cond-false (other == channel) _ _ differ
none_said channel other state (Program named version first count) bytes packets isnt = either (other == channel)
none_said channel other state (End named offered kept) bytes packets isnt = either (other == channel)
none_said channel other state Other bytes packets isnt = either (other == channel)

pub no_frames : (state : ExportState) (packets : List PacketData) (channel : ℕ) → is_described channel (state_behind_all state packets).interfaces ≡ false
    → channel_frames channel packets ≡ []
no_frames state [] channel isnt = refl
no_frames state (packet ∷ packets) channel isnt =
    let its = λ (p : PacketData). cond (p.header.channel == channel) (packet_frames p) [] in
    flat_map-cons its packet packets
    ∙ ap (λ l. l ++ channel_frames channel packets)
    (none_said channel packet.header.channel state packet.what (data_in packet.header packet.body) packets isnt)
    ∙ no_frames (state_behind state packet) packets channel isnt

-- ---- names

pub interfaces_in-append : (blocks more : List BlockData) → interfaces_in (blocks ++ more) ≡ interfaces_in blocks ++ interfaces_in more
interfaces_in-append [] more = refl
interfaces_in-append (OfSection ∷ blocks) more = interfaces_in-append blocks more
interfaces_in-append (OfInterface i ∷ blocks) more = ap (λ l. i ∷ l) (interfaces_in-append blocks more)
interfaces_in-append (OfPacket p ∷ blocks) more = interfaces_in-append blocks more

abbrev name_of : InterfaceData → Option (List ℕ)
name_of interface = name_in interface.options

names_in-append : (blocks more : List BlockData) → names_in (blocks ++ more) ≡ names_in blocks ++ names_in more
names_in-append blocks more =
    ap (map name_of) (interfaces_in-append blocks more) ∙ map-append name_of (interfaces_in blocks) (interfaces_in more)

pub frames_have_no_interface : (n : ℕ) (comment : Option (List ℕ)) (frames : List ReadFrameData) → interfaces_in (frame_blocks n comment frames) ≡ []
frames_have_no_interface n comment [] = refl
frames_have_no_interface n comment (frame ∷ frames) = frames_have_no_interface n None frames

frames_have_none : (n : ℕ) (comment : Option (List ℕ)) (frames : List ReadFrameData) → names_in (frame_blocks n comment frames) ≡ []
frames_have_none n comment frames = ap (map name_of) (frames_have_no_interface n comment frames)

-- the names so far, and that of the interface that is described
names_described : (state : ExportState) (channel : ℕ) (version : Option FilterVersion) (later : Option LaterVersions)
    → map interface_name state.interfaces ++ names_in (description state channel version)
    ≡ map interface_name (with_interface channel later state.interfaces)
names_described state channel version later = by_cases (cases_Bool (is_described channel state.interfaces))
  where
    by_cases : (is_described channel state.interfaces ≡ true) ⊎ (is_described channel state.interfaces ≡ false)
        → map interface_name state.interfaces ++ names_in (description state channel version)
        ≡ map interface_name (with_interface channel later state.interfaces)
    by_cases (inl is) =
        ap (λ blocks. map interface_name state.interfaces ++ names_in blocks) (cond-true (is_described channel state.interfaces) _ _ is)
        ∙ append-nil (map interface_name state.interfaces)
        ∙ sym (map-set_same interface_name state.interfaces (number_of channel state.interfaces) (record { channel = channel; later = later }) no_interface
        (ap (λ c. Some (channel_name c)) (sym (stands_at channel state.interfaces is))))
        ∙ ap (map interface_name) (sym (cond-true (is_described channel state.interfaces) _ _ is))
    by_cases (inr isnt) =
        ap (λ blocks. map interface_name state.interfaces ++ names_in blocks) (cond-false (is_described channel state.interfaces) _ _ isnt)
        ∙ ap (λ name. map interface_name state.interfaces ++ name ∷ []) refl
        ∙ sym (map-append interface_name state.interfaces (record { channel = channel; later = later } ∷ []))
        ∙ ap (map interface_name) (sym (cond-false (is_described channel state.interfaces) _ _ isnt))

pub names_said : (state : ExportState) (said : Option (ℕ × Saying))
    → map interface_name state.interfaces ++ names_in (blocks_said state said) ≡ map interface_name (state_said state said).interfaces
names_said state (Some (channel, OfFrames frames)) =
    ap (λ l. map interface_name state.interfaces ++ l) (names_in-append (description state channel None) _
    ∙ ap (λ l. names_in (description state channel None) ++ l) (frames_have_none _ _ frames) ∙ append-nil (names_in (description state channel None)))
    ∙ names_described state channel None (later_behind frames (later_of channel state.interfaces))
names_said state (Some (channel, OfProgram program)) =
    names_described state channel (Some (filter_version program)) (later_with channel (filter_version program) state.interfaces)
names_said state (Some (channel, OfEnd end)) = append-nil (map interface_name state.interfaces)
names_said state None = append-nil (map interface_name state.interfaces)

pub names_shown : (state : ExportState) (packets : List PacketData)
    → map interface_name state.interfaces ++ names_in (packets_blocks state packets) ≡ map interface_name (state_behind_all state packets).interfaces
names_shown state [] = append-nil (map interface_name state.interfaces)
names_shown state (packet ∷ packets) =
    ap (λ l. map interface_name state.interfaces ++ l) (names_in-append (packet_blocks state packet) (packets_blocks (state_behind state packet) packets))
    ∙ sym (append_assoc (map interface_name state.interfaces) (names_in (packet_blocks state packet)) (names_in (packets_blocks
    (state_behind state packet) packets)))
    ∙ ap (λ l. l ++ names_in (packets_blocks (state_behind state packet) packets)) (names_said state (saying_of packet))
    ∙ names_shown (state_behind state packet) packets
