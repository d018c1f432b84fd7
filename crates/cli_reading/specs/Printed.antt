-- The lines that `audit` and `list` print.
use Rattle.std.specs.Prelude.{ℕ, ◌/◌, ◌%◌, false, codes, List, [], ◌∷◌, ◌++◌}
use Rattle.std.specs.List.{flat_map}
use Rattle.std.specs.Fmt.{decimal, digit_glyph}
use Rattle.ch11_packet.specs.declared.header.Header.{Header}
use Rattle.ch11_packet.specs.declared.class.What.{What}
use Rattle.ch11_packet.specs.declared.class.What.TheVariants.{Frames, Program, End, Other}
use Rattle.rec_reader.specs.declared.audits.answer.AuditLine.{AuditLine}

-- ---- audit

-- what an approved recording has of a channel
abbrev pub audit_line : AuditLine → List ℕ
audit_line line =
    codes "channel " ++ (decimal line.channel ++ (codes " programs " ++ (decimal line.programs
    ++ (codes " frames " ++ (decimal line.frames
    ++ (codes " offered " ++ (decimal line.offered ++ (10 ∷ []))))))))

-- how many packets hold something else
abbrev pub approved_line : (other : ℕ) → List ℕ
approved_line other = codes "yes other " ++ (decimal other ++ (10 ∷ []))

abbrev pub audit_lines : List AuditLine → (other : ℕ) → List ℕ
audit_lines lines other = flat_map audit_line lines ++ approved_line other

-- ---- list

-- numbers, each with a blank behind it
abbrev pub numbers_text : List ℕ → List ℕ
numbers_text numbers = flat_map (λ n. decimal n ++ (32 ∷ [])) numbers

-- a data type in two hexadecimal digits
abbrev pub kind_text : (kind : ℕ) → List ℕ
kind_text kind = digit_glyph false (kind / 16) ∷ digit_glyph false (kind % 16) ∷ 32 ∷ []

-- what a packet holds
abbrev pub what_text : What → List ℕ
what_text (Frames count) = codes "frames " ++ (decimal count ++ (10 ∷ []))
what_text (Program channel version first count) =
    codes "program " ++ (decimal channel ++ (codes " " ++ (decimal version
    ++ (codes " " ++ (decimal first ++ (codes " " ++ (decimal count ++ (10 ∷ []))))))))
what_text (End channel offered kept) =
    codes "end " ++ (decimal channel ++ (codes " " ++ (decimal offered
    ++ (codes " " ++ (decimal kept ++ (10 ∷ []))))))
what_text Other = codes "other\n"

-- its place, its channel, data type, sequence number, length, data length and counter
abbrev pub header_text : (at : ℕ) → Header → List ℕ
header_text at header =
    numbers_text (at ∷ header.channel ∷ []) ++ (kind_text header.kind
    ++ numbers_text (header.sequence ∷ header.packet_len ∷ header.data_len ∷ header.counter ∷ []))

abbrev pub packet_line : (at : ℕ) → Header → What → List ℕ
packet_line at header what = header_text at header ++ what_text what

-- how many packets there are, and how many hold something else
abbrev pub packets_line : (packets others : ℕ) → List ℕ
packets_line packets others =
    codes "packets " ++ (decimal packets ++ (codes " other " ++ (decimal others ++ (10 ∷ []))))
