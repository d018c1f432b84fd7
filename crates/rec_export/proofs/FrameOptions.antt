-- The options of a frame's packet: what is said of bytes that are no frame, and how long it all is.
use Rattle.std.proofs.Common.{◌≡◌, ℕ, ◌+◌, ◌<◌, ◌≤◌, ◌^◌, Bool, true, false, cond, List, [], ◌∷◌, ◌++◌, length, Option, None, Some}
use Rattle.std.proofs.Common.{sym, ap, ◌∙◌, arith}
use Rattle.std.specs.Prelude.{◌==◌, IfSome, codes, nat_lt}
use Rattle.std.specs.Fmt.{decimal}
use Rattle.std.specs.List.{flat_map}
use Rattle.std.specs.Int.{w32, to_le_bytes}
use Rattle.std.proofs.lemmas.Fmt.{decimal_digit, length-decimal-le}
use Rattle.std.proofs.lemmas.List.{length-append}
use Rattle.std.proofs.lemmas.List.Concat.{flat_map-append}
use Rattle.ch11_packet.specs.FramesRead.{ReadFrameData, IsReadFrame}
use Rattle.pcapng_blocks.specs.Options.{OptionData, IsOption, AreOptions, option_of, option_bytes, options_bytes, end_of_options}
use Rattle.pcapng_blocks.proofs.BlockParts.{length-option}
use Rattle.rec_export.specs.Frames.{IsShort, packet_flags, comment_options, flag_options, note_of, note_for, frame_options}

-- ---- what is said of bytes that are no frame

-- it is short
pub short_note : (content len : ℕ) → content < 2 ^ 2 → IfSome (note_for content len) (λ text. length text ≤ 100)
short_note content len fits = by_content (content == 0)
  where
    by_length : (b : Bool) → IfSome (cond b (Some (codes "too short for an Ethernet frame with its FCS")) None) (λ text. length text ≤ 100)
    by_length true = omega arith
    by_length false = tt

    by_content : (b : Bool)
        → IfSome (cond b (cond (nat_lt len 18) (Some (codes "too short for an Ethernet frame with its FCS")) None)
        (Some (codes "content " ++ (decimal content ++ codes ": no Ethernet frame with its FCS")))) (λ text. length text ≤ 100)
    by_content true = by_length (nat_lt len 18)
    by_content false =
        let its = length-decimal-le 5 content (omega arith) (omega (arith, fits)) (omega (arith, fits)) in
        let all = length-append (decimal content) (codes ": no Ethernet frame with its FCS") in
        omega (arith, its, all)

-- that of content 1, 2 and 3, whose digit is written out
digit_said : (n : ℕ) → n < 10
    → Some (codes "content " ++ ((48 + n) ∷ codes ": no Ethernet frame with its FCS"))
    ≡ Some (codes "content " ++ (decimal n ++ codes ": no Ethernet frame with its FCS"))
digit_said n few = ap (λ digits. Some (codes "content " ++ (digits ++ codes ": no Ethernet frame with its FCS"))) (sym (decimal_digit n few))

pub content_1 : (content len : ℕ) → content ≡ 1 → Some (codes "content 1: no Ethernet frame with its FCS") ≡ note_for content len
content_1 content len is = digit_said 1 (omega arith) ∙ ap (λ c. note_for c len) (sym is)

pub content_2 : (content len : ℕ) → content ≡ 2 → Some (codes "content 2: no Ethernet frame with its FCS") ≡ note_for content len
content_2 content len is = digit_said 2 (omega arith) ∙ ap (λ c. note_for c len) (sym is)

pub content_3 : (content len : ℕ) → content ≡ 3 → Some (codes "content 3: no Ethernet frame with its FCS") ≡ note_for content len
content_3 content len is = digit_said 3 (omega arith) ∙ ap (λ c. note_for c len) (sym is)

-- ---- options

are_append : (options more : List OptionData) → AreOptions options → AreOptions more → AreOptions (options ++ more)
are_append [] more are also = also
are_append (option ∷ options) more are also = (are.0, are_append options more are.1 also)

is_option : (code : ℕ) (value : List ℕ) → 0 < code → code < 2 ^ 16 → length value < 2 ^ 16 → IsOption (option_of code value)
is_option code value some fits few =
    record {
      not_end = λ none. let none' = none in omega (arith, some, none');
      code = fits;
      value = few;
    }

are_flags : (crc_error frame_error : Bool) → AreOptions (flag_options crc_error frame_error)
are_flags true frame_error = (is_option 2 (to_le_bytes w32 (packet_flags true frame_error)) (omega arith) (omega arith) (omega arith), tt)
are_flags false true = (is_option 2 (to_le_bytes w32 (packet_flags false true)) (omega arith) (omega arith) (omega arith), tt)
are_flags false false = tt

is_comment : (comment : Option (List ℕ)) → IsShort comment → AreOptions (comment_options comment)
is_comment None short = tt
is_comment (Some text) short = (is_option 1 text (omega arith) (omega arith) short, tt)

few_note : (note : Option (List ℕ)) → IfSome note (λ text. length text ≤ 100) → IsShort note
few_note None few = tt
few_note (Some text) few = omega (arith, few)

-- ---- their bytes

abbrev bytes_of : List OptionData → List ℕ
bytes_of options = flat_map option_bytes options

parts_len : (options more : List OptionData) → length (bytes_of (options ++ more)) ≡ length (bytes_of options) + length (bytes_of more)
parts_len options more =
    ap (λ (l : List ℕ). length l) (flat_map-append option_bytes options more) ∙ length-append (bytes_of options) (bytes_of more)

whole_len : (options : List OptionData) → length (options_bytes options) ≤ length (bytes_of options) + 4
whole_len [] = omega arith
whole_len (option ∷ options) = let all = length-append (bytes_of (option ∷ options)) end_of_options in omega (arith, all)

one_len : (option : OptionData) → length (bytes_of (option ∷ [])) ≤ length option.value + 7
one_len option =
    let its = length-option option in
    let none = parts_len (option ∷ []) [] in
    let all = length-append (option_bytes option) [] in
    omega (arith, its, none, all)

flags_len : (crc_error frame_error : Bool) → length (bytes_of (flag_options crc_error frame_error)) ≤ 11
flags_len true frame_error = let one = one_len (option_of 2 (to_le_bytes w32 (packet_flags true frame_error))) in omega (arith, one)
flags_len false true = let one = one_len (option_of 2 (to_le_bytes w32 (packet_flags false true))) in omega (arith, one)
flags_len false false = omega arith

comment_len : (comment : Option (List ℕ)) (most : ℕ) → IfSome comment (λ text. length text ≤ most) → length (bytes_of (comment_options comment)) ≤ most + 7
comment_len None most few = omega arith
comment_len (Some text) most few = let one = one_len (option_of 1 text) in omega (arith, one, few)

at_most : (comment : Option (List ℕ)) → IsShort comment → IfSome comment (λ text. length text ≤ 65535)
at_most None short = tt
at_most (Some text) short = omega (arith, short)

-- ---- a frame's

-- the options are options, and have few bytes
pub record AreFew (options : List OptionData) : Type 0 where
  pub are : AreOptions options
  pub few : length (options_bytes options) < 2 ^ 17

pub frame_options_fit : (comment : Option (List ℕ)) (frame : ReadFrameData) → IsShort comment → IsReadFrame frame → AreFew (frame_options comment frame)
frame_options_fit comment frame short is =
    let flags = flag_options frame.crc_error frame.frame_error in
    let said = comment_options comment in
    let note = comment_options (note_of frame) in
    let brief = short_note frame.content (length frame.bytes) is.content in
    let whole = whole_len (flags ++ (said ++ note)) in
    let both = parts_len flags (said ++ note) in
    let texts = parts_len said note in
    let first = flags_len frame.crc_error frame.frame_error in
    let second = comment_len comment 65535 (at_most comment short) in
    let third = comment_len (note_of frame) 100 brief in
    record {
      are = are_append flags (said ++ note) (are_flags frame.crc_error frame.frame_error)
          (are_append said note (is_comment comment short) (is_comment (note_of frame) (few_note (note_of frame) brief)));
      few = omega (arith, whole, both, texts, first, second, third);
    }
