-- What values of the code are as data.
use Rattle.std.specs.Prelude.{ℕ, ◌||◌, Bool, not, List, [], ◌∷◌, Option}
use Rattle.bpf_insn.specs.declared.stretch.Stretch.{Stretch}
use Rattle.bpf_insn.specs.declared.parse.Span.{Span}
use Rattle.bpf_insn.specs.declared.parse.Span.TheVariants.{Gap, Piece, Blanks, Word}
use Rattle.bpf_insn.specs.declared.flow.Targets.{Targets}
use Rattle.bpf_insn.specs.declared.flow.Targets.TheVariants.{Nowhere, One, Two}
use Rattle.bpf_insn.specs.Parts.{Part}
use Rattle.bpf_insn.specs.Listing.{pieces_from, words_from, numerals_of, is_separator, is_padding}
use Rattle.bpf_insn.specs.Listing.{is_listing_blank}

-- the indexes
abbrev pub targets_data : Targets → List ℕ
targets_data Nowhere = []
targets_data (One to) = to ∷ []
targets_data (Two one other) = one ∷ other ∷ []

-- the part of a text
abbrev pub stretch_data : Stretch → Part
stretch_data stretch = record { at = stretch.at; bytes = stretch.bytes.now }

-- the pieces of a listing in it
abbrev pub pieces_in : Stretch → List Part
pieces_in stretch = pieces_from stretch.at stretch.bytes.now

-- the words of a piece in it
abbrev pub words_in : Stretch → List Part
words_in stretch = words_from stretch.at stretch.bytes.now

-- these words where each is a number
abbrev pub numerals_in : Stretch → Option (List Part)
numerals_in stretch = numerals_of (words_in stretch)

-- whether a byte of a listing is of this kind
abbrev pub is_in_span : Span → ℕ → Bool
is_in_span Gap = λ byte. is_separator byte || is_padding byte
is_in_span Piece = λ byte. not (is_separator byte)
is_in_span Blanks = λ byte. is_listing_blank byte
is_in_span Word = λ byte. not (is_listing_blank byte)
