-- The input of a run without words, and what `run` and `verify` print.
use Rattle.std.specs.Prelude.{ℕ, ◌≡◌, ◌==◌, if◌then◌else◌, List, [], ◌∷◌, ◌++◌, codes, Ok, Option}
use Rattle.std.specs.List.{before_first, after_first}
use Rattle.std.specs.Fmt.{decimal}
use Rattle.std.specs.Io.KnownBytes.{Appends}
use Rattle.hex.specs.Hex.{decode_of}
use Rattle.bpf_insn.specs.declared.insn.Insn.{Insn}
use Rattle.cli_streams.specs.Listed.{Lists}
use Rattle.bpf_machine.specs.Machine.{Runs}

-- a line without a carriage return at its end
abbrev pub without_return : List ℕ → List ℕ
without_return [] = []
without_return (b ∷ []) = if b == 13 then [] else b ∷ []
without_return (b ∷ c ∷ line) = b ∷ without_return (c ∷ line)

-- the first line of an input
abbrev pub first_line : List ℕ → List ℕ
first_line input = without_return (before_first (λ b. b == 10) input)

-- its second line; empty where it is missing
abbrev pub second_line : List ℕ → List ℕ
second_line input = without_return (before_first (λ b. b == 10) (after_first (λ b. b == 10) input))

-- the program that this listing lists is valid, and it returns the value in `steps` steps
-- on the view that these hexadecimal digits write
abbrev pub RunsOn : List ℕ → List ℕ → ℕ → ℕ → Type 0
RunsOn listing_text view_text steps value =
    (program : List Insn) × (view : List ℕ)
    × Lists listing_text program × (decode_of view_text ≡ Ok view)
    × Runs program view steps value

-- what a run prints: its value, a space, its steps and a line feed
abbrev pub outcome_line : ℕ → ℕ → List ℕ
outcome_line value steps = decimal value ++ (32 ∷ []) ++ decimal steps ++ (10 ∷ [])

-- what `verify` prints of a valid program: the number of its instructions
abbrev pub valid_line : ℕ → List ℕ
valid_line count = codes "valid " ++ (decimal count ++ (10 ∷ []))

-- the output took the line of the run of the first line's program on the second line's view
abbrev pub AnswersLines : List ℕ → Option (List ℕ) → Option (List ℕ) → Type 0
AnswersLines input before after =
    (steps : ℕ) × (value : ℕ) × RunsOn (first_line input) (second_line input) steps value
    × Appends before after (outcome_line value steps)
