-- Each number in the export of a recording's packets has its width.
use Rattle.std.proofs.Common.{◌≡◌, ℕ, ◌+◌, ◌*◌, ◌<◌, ◌≤◌, ◌^◌, ◌⊎◌, inl, inr, Bool, true, false, cond, List, [], ◌∷◌, ◌++◌, length, get_or, drop, map}
use Rattle.std.proofs.Common.{Option, None, Some, sym, ap, subst, ◌∙◌, arith, true≢false}
use Rattle.std.specs.Prelude.{◌==◌, IfSome, slice_get}
use Rattle.std.specs.Option.{option_map, option_and_then}
use Rattle.std.specs.List.{flat_map, list_any, All, AllByRecursion, IsDistinct}
use Rattle.std.specs.Cmp.{nat_eq_equiv}
use Rattle.std.specs.Int.{w32, w64, to_le_bytes}
use Rattle.std.proofs.Math.Dec.{eqb}
use Rattle.std.proofs.Math.Seq.{map-set_same}
use Rattle.std.proofs.lemmas.Bool.{eqb-true, eq-eqb, ne_eqb, ltb-false, cond-true, cond-false, cases_Bool}
use Rattle.std.proofs.lemmas.List.{length-append, length-map, map-append, get_or-map}
use Rattle.std.proofs.lemmas.List.Concat.{flat_map-cons}
use Rattle.std.proofs.lemmas.List.Elements.{All-push, All-set, All-from_get_or}
use Rattle.std.proofs.lemmas.List.Folds.{Any-from_list_any, list_any_none}
use Rattle.std.proofs.lemmas.List.Sums.{fails_before_first, prefix_len-le-length}
use Rattle.std.proofs.lemmas.Map.Keys.{IsDistinct-push}
use Rattle.std.proofs.lemmas.Map.Steps.{length-le_from_distinct_below}
use Rattle.std.proofs.lemmas.Option.{slice_get_cases}
use Rattle.ch11_packet.specs.declared.class.What.{What}
use Rattle.ch11_packet.specs.declared.class.What.TheVariants.{Frames, Program, End, Other}
use Rattle.ch11_packet.specs.declared.records.TheConstants.{PROGRAM_HEAD_LEN}
use Rattle.ch11_packet.specs.FramesRead.{ReadFrameData, IsReadFrame, BeginsFrames}
use Rattle.ch11_packet.specs.Header.{HeaderData}
use Rattle.ch11_packet.specs.Classes.{HasClass}
use Rattle.ch11_packet.proofs.Classing.{said_by_body}
use Rattle.ch11_packet.proofs.StoredInsns.{length-stored_insns}
use Rattle.pcapng_blocks.specs.Options.{OptionData, IsOption, AreOptions, option_of, name_option, resolution_option, fcs_len_option}
use Rattle.pcapng_blocks.specs.Options.{option_bytes, options_bytes, end_of_options}
use Rattle.pcapng_blocks.specs.Blocks.{BlockData, IsBlock, AreBlocks}
use Rattle.pcapng_blocks.proofs.BlockParts.{length-option, length-packet_body}
use Rattle.rec_reader.specs.Packets.{PacketData, BeginsPackets, BeginSomeBytes}
use Rattle.rec_reader.specs.Channels.{Saying, saying_in, saying_of}
use Rattle.rec_reader.specs.Channels.Saying.{OfFrames, OfProgram, OfEnd}
use Rattle.rec_export.specs.declared.version.FilterVersion.{FilterVersion}
use Rattle.rec_export.specs.declared.version.LaterVersions.{LaterVersions}
use Rattle.rec_export.specs.declared.version.LaterVersions.TheVariants.{One, Several}
use Rattle.rec_export.specs.Versions.{filter_version, version_text, joined_by, later_text}
use Rattle.rec_export.specs.Frames.{packet_flags, comment_options, flag_options, note_of, frame_options, captured, frame_blocks}
use Rattle.rec_export.specs.Interfaces.{Interface, channel_name, offset_options, description_options, interface_block, number_of, is_described, later_of}
use Rattle.rec_export.specs.Interfaces.{with_interface}
use Rattle.rec_export.specs.Export.{ExportState, description, later_behind, later_with, blocks_said, state_said, packets_blocks, state_behind}
use Rattle.rec_export.specs.Export.{state_behind_all, first_state, export_blocks}
use Rattle.rec_export.proofs.FrameOptions.{short_note}
use Rattle.rec_export.proofs.Texts.{short_version, short_several, short_name}
use Rattle.rec_export.proofs.Numbering.{no_interface, stands_at}

-- ---- versions, and what is said of them

pub record IsVersion (version : FilterVersion) : Type 0 where
  pub number : version.number < 2 ^ 32
  pub insns : version.insns < 2 ^ 16

abbrev pub IsLater : LaterVersions → Type 0
IsLater (One version) = IsVersion version
IsLater (Several first last) = (first < 2 ^ 32) × IsVersion last

joined : (later : Option LaterVersions) (version : FilterVersion) → IfSome later IsLater → IsVersion version → IsLater (joined_by later version)
joined None version are is = is
joined (Some (One first)) version are is = (are.number, is)
joined (Some (Several first last)) version are is = (are.0, is)

-- a text has at most 100 bytes
abbrev IsBrief : Option (List ℕ) → Type 0
IsBrief text = IfSome text (λ bytes. length bytes ≤ 100)

brief_version : (version : Option FilterVersion) → IfSome version IsVersion → IsBrief (option_map version_text version)
brief_version None is = tt
brief_version (Some version) is = short_version version is.number is.insns

brief_later : (later : Option LaterVersions) → IfSome later IsLater → IsBrief (option_map later_text later)
brief_later None are = tt
brief_later (Some (One version)) are = short_version version are.number are.insns
brief_later (Some (Several first last)) are = short_several first last are.0 are.1.number are.1.insns

-- ---- options

abbrev IsSmall : OptionData → Type 0
IsSmall option = IsOption option × (length option.value ≤ 100)

is_small : (code : ℕ) (value : List ℕ) → 0 < code → code < 2 ^ 16 → length value ≤ 100 → IsSmall (option_of code value)
is_small code value some fits few = (
  record {
    not_end = λ none. let none' = none in omega (arith, some, none');
    code = fits;
    value = omega (arith, few);
  },
  few,
)

small_options : (options : List OptionData) → AllByRecursion IsSmall options → AreOptions options
small_options [] are = tt
small_options (option ∷ options) are = (are.0.0, small_options options are.1)

small_len : (options : List OptionData) → AllByRecursion IsSmall options → length (flat_map option_bytes options) ≤ 107 * length options
small_len [] are = omega arith
small_len (option ∷ options) are =
    let parts = ap (λ (l : List ℕ). length l) (flat_map-cons option_bytes option options) ∙ length-append (option_bytes option)
    (flat_map option_bytes options) in
    let first = length-option option in
    let few = are.0.1 in
    let rest = small_len options are.1 in
    omega (arith, parts, first, few, rest)

small_bytes : (options : List OptionData) → AllByRecursion IsSmall options → length (options_bytes options) ≤ 107 * length options + 4
small_bytes [] are = omega arith
small_bytes (option ∷ options) are =
    let all = length-append (flat_map option_bytes (option ∷ options)) end_of_options in
    let few = small_len (option ∷ options) are in
    omega (arith, all, few)

small_append : (options more : List OptionData) → AllByRecursion IsSmall options → AllByRecursion IsSmall more → AllByRecursion IsSmall (options ++ more)
small_append [] more are also = also
small_append (option ∷ options) more are also = (are.0, small_append options more are.1 also)

small_comment : (comment : Option (List ℕ)) → IsBrief comment → AllByRecursion IsSmall (comment_options comment)
small_comment None brief = tt
small_comment (Some text) brief = (is_small 1 text (omega arith) (omega arith) brief, tt)

one_comment : (comment : Option (List ℕ)) → length (comment_options comment) ≤ 1
one_comment None = omega arith
one_comment (Some text) = omega arith

small_flags : (crc_error frame_error : Bool) → AllByRecursion IsSmall (flag_options crc_error frame_error)
small_flags true frame_error = (is_small 2 (to_le_bytes w32 (packet_flags true frame_error)) (omega arith) (omega arith) (omega arith), tt)
small_flags false true = (is_small 2 (to_le_bytes w32 (packet_flags false true)) (omega arith) (omega arith) (omega arith), tt)
small_flags false false = tt

one_flags : (crc_error frame_error : Bool) → length (flag_options crc_error frame_error) ≤ 1
one_flags true frame_error = omega arith
one_flags false true = omega arith
one_flags false false = omega arith

small_offset : (origin : Option ℕ) → AllByRecursion IsSmall (offset_options origin)
small_offset None = tt
small_offset (Some seconds) = (is_small 14 (to_le_bytes w64 seconds) (omega arith) (omega arith) (omega arith), tt)

one_offset : (origin : Option ℕ) → length (offset_options origin) ≤ 1
one_offset None = omega arith
one_offset (Some seconds) = omega arith

-- ---- blocks

are_append : (blocks more : List BlockData) → AreBlocks blocks → AreBlocks more → AreBlocks (blocks ++ more)
are_append [] more are also = also
are_append (block ∷ blocks) more are also = (are.0, are_append blocks more are.1 also)

is_captured : (interface : ℕ) (comment : Option (List ℕ)) (frame : ReadFrameData) → interface < 2 ^ 32 → IsBrief comment → IsReadFrame frame
    → IsBlock (captured interface comment frame)
is_captured interface comment frame fits brief is =
    let options = frame_options comment frame in
    let flags = flag_options frame.crc_error frame.frame_error in
    let texts = comment_options comment ++ comment_options (note_of frame) in
    let note = short_note frame.content (length frame.bytes) is.content in
    let small = small_append flags texts (small_flags frame.crc_error frame.frame_error)
    (small_append (comment_options comment) (comment_options (note_of frame)) (small_comment comment brief) (small_comment (note_of frame) note)) in
    let all_of = length-append flags texts in
    let both = length-append (comment_options comment) (comment_options (note_of frame)) in
    let first = one_flags frame.crc_error frame.frame_error in
    let second = one_comment comment in
    let third = one_comment (note_of frame) in
    let few = small_bytes options small in
    let all = length-packet_body (record { interface = interface; time = frame.counter; bytes = frame.bytes; options = options }) in
    let counter = is.counter in
    let longest = is.longest in
    (fits, omega (arith, counter), small_options options small, omega (arith, all_of, both, first, second, third, few, all, longest))

are_frames : (interface : ℕ) (comment : Option (List ℕ)) (frames : List ReadFrameData) → interface < 2 ^ 32 → IsBrief comment
    → AllByRecursion IsReadFrame frames → AreBlocks (frame_blocks interface comment frames)
are_frames interface comment [] fits brief are = tt
are_frames interface comment (frame ∷ frames) fits brief are =
    (is_captured interface comment frame fits brief are.0, are_frames interface None frames fits tt are.1)

is_interface : (origin : Option ℕ) (channel : ℕ) (version : Option FilterVersion) → channel < 2 ^ 16 → IfSome version IsVersion
    → IsBlock (interface_block origin channel version)
is_interface origin channel version fits is =
    let comment = option_map version_text version in
    let its = resolution_option 7 ∷ name_option (channel_name channel) ∷ fcs_len_option 4 ∷ offset_options origin in
    let unit = is_small 9 (7 ∷ []) (omega arith) (omega arith) (omega arith) in
    let name = is_small 2 (channel_name channel) (omega arith) (omega arith) (short_name channel fits) in
    let check = is_small 13 (4 ∷ []) (omega arith) (omega arith) (omega arith) in
    let options = description_options comment (channel_name channel) origin in
    let small : AllByRecursion IsSmall options =
    small_append its (comment_options comment) (unit, (name, (check, small_offset origin))) (small_comment comment (brief_version version is)) in
    let both = length-append its (comment_options comment) in
    let first = one_comment comment in
    let last = one_offset origin in
    let few = small_bytes options small in
    (omega arith, omega arith, small_options options small, omega (arith, both, first, last, few))

-- ---- the interfaces so far

abbrev pub channel_of : Interface → ℕ
channel_of interface = interface.channel

pub record IsInterface (interface : Interface) : Type 0 where
  pub channel : interface.channel < 2 ^ 16
  pub later : IfSome interface.later IsLater

-- each has its numbers in range, and no two are of one channel
pub record AreInterfaces (interfaces : List Interface) : Type 0 where
  pub each : All IsInterface interfaces
  pub once : IsDistinct eqb (map channel_of interfaces)

not_there : (channel : ℕ) (interfaces : List Interface) → is_described channel interfaces ≡ false
    → list_any (eqb channel) (map channel_of interfaces) ≡ false
not_there channel interfaces isnt =
    list_any_none (eqb channel) (map channel_of interfaces)
    (All-from_get_or (λ (other : ℕ). eqb channel other ≡ false) (map channel_of interfaces) 0 other)
  where
    other : (k : ℕ) → k < length (map channel_of interfaces) → eqb channel (get_or (map channel_of interfaces) k 0) ≡ false
    other k within =
        let len = length-map interfaces channel_of in
        let end = ltb-false (number_of channel interfaces) (length interfaces) isnt in
        let fails = fails_before_first (λ (interface : Interface). interface.channel == channel) interfaces k no_interface (omega (arith, within, len, end)) in
        let its = get_or-map channel_of interfaces k no_interface 0 (omega (arith, within, len)) in
        ne_eqb channel (get_or (map channel_of interfaces) k 0) (λ same. true≢false (sym (eq-eqb _ channel (sym its ∙ sym same)) ∙ fails))

put : (channel : ℕ) (later : Option LaterVersions) (interfaces : List Interface) → AreInterfaces interfaces → channel < 2 ^ 16 → IfSome later IsLater
    → AreInterfaces (with_interface channel later interfaces)
put channel later interfaces are fits short = by_cases (cases_Bool (is_described channel interfaces))
  where
    its : Interface
    its = record { channel = channel; later = later }

    by_cases : (is_described channel interfaces ≡ true) ⊎ (is_described channel interfaces ≡ false) → AreInterfaces (with_interface channel later interfaces)
    by_cases (inl is) =
        subst AreInterfaces (sym (cond-true (is_described channel interfaces) _ _ is)) (record {
          each = All-set IsInterface interfaces (number_of channel interfaces) its (record { channel = fits; later = short }) are.each;
          once =
              subst (IsDistinct eqb) (sym (map-set_same channel_of interfaces (number_of channel interfaces) its no_interface
              (sym (stands_at channel interfaces is)))) are.once;
        })
    by_cases (inr isnt) =
        subst AreInterfaces (sym (cond-false (is_described channel interfaces) _ _ isnt)) (record {
          each = All-push IsInterface interfaces its are.each (record { channel = fits; later = short });
          once =
              subst (IsDistinct eqb) (sym (map-append channel_of interfaces (its ∷ [])))
              (IsDistinct-push nat_eq_equiv (map channel_of interfaces) channel are.once (not_there channel interfaces isnt));
        })

later_there : (channel : ℕ) (interfaces : List Interface) → AreInterfaces interfaces → IfSome (later_of channel interfaces) IsLater
later_there channel interfaces are = by_cases (slice_get_cases interfaces (number_of channel interfaces)).1
  where
    found : Option Interface → Option LaterVersions
    found interface = option_and_then (λ (it : Interface). it.later) interface

    by_cases : ((it : Interface) × (number_of channel interfaces < length interfaces) × (slice_get interfaces (number_of channel interfaces) ≡ Some it)
        × (get_or interfaces (number_of channel interfaces) it ≡ it))
        ⊎ ((length interfaces ≤ number_of channel interfaces) × (slice_get interfaces (number_of channel interfaces) ≡ None))
        → IfSome (later_of channel interfaces) IsLater
    by_cases (inl at) =
        subst (λ (o : Option Interface). IfSome (option_and_then (λ (it : Interface). it.later) o) IsLater) (sym at.2)
        (subst IsInterface at.3 (are.each (number_of channel interfaces) at.0 at.1)).later
    by_cases (inr past) = subst (λ (o : Option Interface). IfSome (option_and_then (λ (it : Interface). it.later) o) IsLater) (sym past.1) tt

-- there are no more than channels can be named
few_interfaces : (interfaces : List Interface) → AreInterfaces interfaces → length interfaces ≤ 2 ^ 16
few_interfaces interfaces are =
    let most = length-le_from_distinct_below (map channel_of interfaces) (2 ^ 16) are.once named in
    let len = length-map interfaces channel_of in
    omega (arith, most, len)
  where
    named : (q : ℕ) → list_any (eqb q) (map channel_of interfaces) ≡ true → q < 2 ^ 16
    named q there =
        let one = Any-from_list_any (eqb q) (map channel_of interfaces) there in
        let len = length-map interfaces channel_of in
        let within = one.2 in
        let its = get_or-map channel_of interfaces one.0 no_interface one.1 (omega (arith, within, len)) in
        let same = eqb-true q one.1 one.4 in
        let is = one.3 in
        let fits = (are.each one.0 no_interface (omega (arith, within, len))).channel in
        omega (arith, its, same, is, fits)

number_fits : (channel : ℕ) (interfaces : List Interface) → AreInterfaces interfaces → number_of channel interfaces < 2 ^ 32
number_fits channel interfaces are =
    let most : number_of channel interfaces ≤ length interfaces = prefix_len-le-length _ interfaces in
    let few = few_interfaces interfaces are in
    omega (arith, most, few)

-- ---- what a packet says

abbrev IsSaid : Option (ℕ × Saying) → Type 0
IsSaid (Some (channel, OfFrames frames)) = (channel < 2 ^ 16) × AllByRecursion IsReadFrame frames
IsSaid (Some (channel, OfProgram program)) = (channel < 2 ^ 16) × IsVersion (filter_version program)
IsSaid (Some (channel, OfEnd end)) = Unit {0}
IsSaid None = Unit {0}

frames_fit : (frames : List ReadFrameData) (bytes rest : List ℕ) → BeginsFrames frames bytes rest → AllByRecursion IsReadFrame frames
frames_fit [] bytes rest held = tt
frames_fit (frame ∷ frames) bytes rest held = (held.1.spelled.in_range, frames_fit frames held.0 rest held.2)

is_said : (header : HeaderData) (what : What) (bytes : List ℕ) → header.channel < 2 ^ 16 → HasClass header bytes what
    → IsSaid (saying_in header.channel what bytes)
is_said header (Frames count) bytes fits class =
    let spelled = class.2 in
    (fits, subst (AllByRecursion IsReadFrame) (sym (said_by_body class.1 bytes spelled)) (frames_fit class.1 spelled.rest [] spelled.held))
is_said header (Program channel version first count) bytes fits class =
    let is = class.2.0 in
    let count_is = class.3 in
    let few = is.few in
    let stored = length-stored_insns count (drop PROGRAM_HEAD_LEN bytes) in
    (is.channel_fits, record { number = is.version_fits; insns = omega (arith, stored, count_is, few) })
is_said header (End channel offered kept) bytes fits class = tt
is_said header Other bytes fits class = tt

-- ---- one packet

shown_or_not : (frames : List ReadFrameData) (later : Option LaterVersions) → IfSome later IsLater → IfSome (later_behind frames later) IsLater
shown_or_not [] later are = are
shown_or_not (frame ∷ frames) later are = tt

one_more : (b : Bool) (later : LaterVersions) → IsLater later → IfSome (cond b (Some later) None) IsLater
one_more true later is = is
one_more false later is = tt

are_described : (state : ExportState) (channel : ℕ) (version : Option FilterVersion) → channel < 2 ^ 16 → IfSome version IsVersion
    → AreBlocks (description state channel version)
are_described state channel version fits is = described (is_described channel state.interfaces)
  where
    described : (b : Bool) → AreBlocks (cond b [] (interface_block state.origin channel version ∷ []))
    described true = tt
    described false = (is_interface state.origin channel version fits is, tt)

blocks_fit : (state : ExportState) (said : Option (ℕ × Saying)) → AreInterfaces state.interfaces → IsSaid said → AreBlocks (blocks_said state said)
blocks_fit state (Some (channel, OfFrames frames)) are is =
    are_append (description state channel None) _ (are_described state channel None is.0 tt)
    (are_frames (number_of channel state.interfaces) _ frames (number_fits channel state.interfaces are)
    (brief_later (later_of channel state.interfaces) (later_there channel state.interfaces are)) is.1)
blocks_fit state (Some (channel, OfProgram program)) are is = are_described state channel (Some (filter_version program)) is.0 is.1
blocks_fit state (Some (channel, OfEnd end)) are is = tt
blocks_fit state None are is = tt

state_fits : (state : ExportState) (said : Option (ℕ × Saying)) → AreInterfaces state.interfaces → IsSaid said
    → AreInterfaces (state_said state said).interfaces
state_fits state (Some (channel, OfFrames frames)) are is =
    put channel (later_behind frames (later_of channel state.interfaces)) state.interfaces are is.0
    (shown_or_not frames (later_of channel state.interfaces) (later_there channel state.interfaces are))
state_fits state (Some (channel, OfProgram program)) are is =
    put channel (later_with channel (filter_version program) state.interfaces) state.interfaces are is.0
    (one_more (is_described channel state.interfaces) (joined_by (later_of channel state.interfaces) (filter_version program))
    (joined (later_of channel state.interfaces) (filter_version program) (later_there channel state.interfaces are) is.1))
state_fits state (Some (channel, OfEnd end)) are is = are
state_fits state None are is = are

-- ---- all packets

all_fit : (state : ExportState) (packets : List PacketData) (at : ℕ) (bytes rest : List ℕ) → BeginsPackets at packets bytes rest
    → AreInterfaces state.interfaces → AreBlocks (packets_blocks state packets) × AreInterfaces (state_behind_all state packets).interfaces
all_fit state [] at bytes rest begins are = (tt, are)
all_fit state (packet ∷ packets) at bytes rest begins are =
    let spelled = begins.1.spelled in
    let said : IsSaid (saying_of packet) = is_said packet.header packet.what _ spelled.is_header.channel spelled.holds.class in
    let more = all_fit (state_behind state packet) packets (at + packet.header.packet_len) begins.0 rest begins.2
    (state_fits state (saying_of packet) are said) in
    (are_append (blocks_said state (saying_of packet)) _ (blocks_fit state (saying_of packet) are said) more.0, more.1)

none_yet : (origin : Option ℕ) → AreInterfaces (first_state origin).interfaces
unfolding IsDistinct
none_yet origin = record { each = λ k d within. absurd (omega (arith, within)); once = tt }

-- the blocks of an export have their widths, and no two of its interfaces are of one channel
pub export_fits : (origin : Option ℕ) (packets : List PacketData) → BeginSomeBytes packets
    → AreBlocks (export_blocks origin packets) × AreInterfaces (state_behind_all (first_state origin) packets).interfaces
export_fits origin packets begin =
    let all = all_fit (first_state origin) packets 0 begin.0 begin.1 begin.2 (none_yet origin) in
    ((tt, all.0), all.1)
