-- What `simulate` prints of an event that was done.
use Rattle.std.specs.Prelude.{ℕ, ◌-◌, ◌/◌, ◌%◌, false, codes, List, [], ◌∷◌, ◌++◌, drop, length}
use Rattle.std.specs.List.{flat_map}
use Rattle.std.specs.Fmt.{decimal, digit_glyph}
use Rattle.rec_core.specs.declared.reply.Reply.{Reply}
use Rattle.rec_core.specs.declared.reply.Reply.TheVariants.{Took, Timed, Installed, Sent, Wrote}
use Rattle.rec_core.specs.declared.reply.Reply.TheVariants.{Closed}
use Rattle.rec_core.specs.declared.reply.Which.{Which}
use Rattle.rec_core.specs.declared.reply.Which.TheVariants.{Program, Frames, End}

-- a byte in two hexadecimal digits
abbrev pub byte_text : ℕ → List ℕ
byte_text byte = digit_glyph false (byte / 16) ∷ digit_glyph false (byte % 16) ∷ []

-- a packet that was written
abbrev pub packet_text : List ℕ → List ℕ
packet_text packet = codes "wrote " ++ (flat_map byte_text packet ++ (10 ∷ []))

-- the last bytes of an output, so many of them or all
abbrev pub last_of : List ℕ → (count : ℕ) → List ℕ
last_of bytes count = drop (length bytes - count) bytes

abbrev pub sent_text : Which → List ℕ
sent_text (Program version) = codes "sent program " ++ (decimal version ++ (10 ∷ []))
sent_text (Frames count) = codes "sent frames " ++ (decimal count ++ (10 ∷ []))
sent_text End = codes "sent end\n"

-- an event's answer, where the output has these bytes behind it
abbrev pub reply_text : Reply → (out : List ℕ) → List ℕ
reply_text (Took number version value) out =
    codes "took " ++ (decimal number ++ (codes " " ++ (decimal version
    ++ (codes " " ++ (decimal value ++ (10 ∷ []))))))
reply_text Timed out = codes "timed\n"
reply_text (Installed version mark) out =
    codes "installed " ++ (decimal version ++ (codes " " ++ (decimal mark ++ (10 ∷ []))))
reply_text (Sent which) out = sent_text which
reply_text (Wrote bytes) out = packet_text (last_of out bytes)
reply_text (Closed offered kept) out =
    codes "closed " ++ (decimal offered ++ (codes " " ++ (decimal kept ++ (10 ∷ []))))
