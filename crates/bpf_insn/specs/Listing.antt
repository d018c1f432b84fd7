-- What a numeric listing reads as: the program, or the first fault in the text's order.
-- A listing is the count of instructions and then the four numbers of each instruction, as
-- tcpdump -ddd and bpf_asm print it.
use Rattle.std.specs.Prelude.{ℕ, ◌≡◌, ◌<◌, ◌++◌, IsOk, Bool, ◌==◌, ◌||◌, nat_le, if◌then◌else◌}
use Rattle.std.specs.Prelude.{List, [], ◌∷◌, map, length, Option, None, Some, Result, Ok, Err}
use Rattle.std.specs.Char.{is_ascii_digit}
use Rattle.std.specs.List.{list_all}
use Rattle.std.specs.Str.Parse.{digits_value}
use Rattle.bpf_insn.specs.declared.insn.Insn.{Insn}
use Rattle.bpf_insn.specs.declared.parse.ListingFault.{ListingFault}
use Rattle.bpf_insn.specs.declared.parse.ListingFault.TheVariants.{Syntax, Count, Range}
use Rattle.bpf_insn.specs.Parts.{Part, cut, without_ends, non_empty}

-- a comma or a line feed
abbrev pub is_separator : ℕ → Bool
is_separator b = b == 44 || b == 10

-- a space or a tab
abbrev pub is_listing_blank : ℕ → Bool
is_listing_blank b = b == 32 || b == 9

-- a space, a tab or a carriage return
abbrev pub is_padding : ℕ → Bool
is_padding b = is_listing_blank b || b == 13

-- the pieces of a text that begins at this offset: it is cut at commas and line feeds, padding at
-- both ends is dropped, and so are empty pieces
abbrev pub pieces_from : ℕ → List ℕ → List Part
pieces_from at text = non_empty (map (without_ends is_padding) (cut is_separator at text))

-- the words of a piece, which blanks separate
abbrev pub words_from : ℕ → List ℕ → List Part
words_from at bytes = non_empty (cut is_listing_blank at bytes)

-- a word of decimal digits; leading zeros are allowed
abbrev pub is_numeral : Part → Bool
is_numeral word = list_all is_ascii_digit word.bytes

-- the words of a piece where each is a number
abbrev pub numerals_of : List Part → Option (List Part)
numerals_of words = if list_all is_numeral words then Some words else None

-- a number within its field
abbrev pub field_of : ℕ → Part → Result ℕ ListingFault
field_of most word =
    let value = digits_value 10 word.bytes in
    if nat_le value most then Ok value else Err (Range word.at)

-- and then
infixl 10 ◌>>=◌
abbrev pub ◌>>=◌ : {A B : Type 0}
    → Result A ListingFault → (A → Result B ListingFault) → Result B ListingFault
(Ok x) >>= f = f x
(Err e) >>= f = Err e

-- the count, from the numbers of the piece that begins at this offset
abbrev pub count_from : ℕ → Option (List Part) → Result ℕ ListingFault
count_from at (Some (count ∷ [])) = field_of 65535 count
count_from at _ = Err (Syntax at)

-- an instruction of these four numbers
abbrev pub insn_of_fields : Part → Part → Part → Part → Result Insn ListingFault
insn_of_fields code jt jf k = do
  code ← field_of 65535 code
  jt ← field_of 255 jt
  jf ← field_of 255 jf
  k ← field_of 4294967295 k
  Ok (record { code = code; jt = jt; jf = jf; k = k })

-- an instruction, from the numbers of the piece that begins at this offset
abbrev pub insn_from : ℕ → Option (List Part) → Result Insn ListingFault
insn_from at (Some (code ∷ jt ∷ jf ∷ k ∷ [])) = insn_of_fields code jt jf k
insn_from at _ = Err (Syntax at)

-- the count that a piece says
abbrev pub count_of : Part → Result ℕ ListingFault
count_of piece = count_from piece.at (numerals_of (words_from piece.at piece.bytes))

-- the instruction that a piece says
abbrev pub insn_of : Part → Result Insn ListingFault
insn_of piece = insn_from piece.at (numerals_of (words_from piece.at piece.bytes))

-- the instructions of all pieces, or the first fault among them
abbrev pub insns_of : List Part → Result (List Insn) ListingFault
insns_of [] = Ok []
insns_of (piece ∷ pieces) = do
  insn ← insn_of piece
  insns ← insns_of pieces
  Ok (insn ∷ insns)

-- the program of a text with these pieces and this length
abbrev pub listing_of : ℕ → List Part → Result (List Insn) ListingFault
listing_of end [] = Err (Syntax end)
listing_of end (first ∷ rest) = do
  said ← count_of first
  insns ← insns_of rest
  if length insns == said then Ok insns else Err (Count said (length insns))

-- the count is read, and so are the instructions of at least one piece after it
abbrev pub ReadsAnInsn : List Part → Type 0
ReadsAnInsn [] = ⊥
ReadsAnInsn (first ∷ rest) =
    IsOk (count_of first)
    × ((done : List Part) × (left : List Part) × (rest ≡ done ++ left)
    × (0 < length done) × IsOk (insns_of done))

-- the program that a text reads as, or its first fault
abbrev pub listing : List ℕ → Result (List Insn) ListingFault
listing text = listing_of (length text) (pieces_from 0 text)
