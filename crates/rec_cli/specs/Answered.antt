-- What a command does with standard input and standard output, where `-` names one of them.
use Rattle.std.specs.Prelude.{ℕ, ◌≡◌, ◌≢◌, ◌^◌, ◌<◌, ◌≤◌, ◌==◌, Bool, true, false, List, [], ◌∷◌}
use Rattle.std.specs.Prelude.{◌++◌, length, codes, Option, Result, OnOk, IfSome}
use Rattle.std.specs.List.{list_any}
use Rattle.clap.specs.Words.{Text, Row, subcommand_of, takes}
use Rattle.cli_streams.specs.declared.ending.CommandEnding.{CommandEnding}
use Rattle.cli_reading.specs.Lines.{PrintsExtracted, PrintsUpgraded}
use Rattle.cli_reading.specs.Exports.{StreamsExport}
use Rattle.rec_words.specs.declared.words.Words.{Words}
use Rattle.rec_words.specs.declared.words.Words.TheVariants.{NoCommand, Asm, Dis, Verify, Run}
use Rattle.rec_words.specs.declared.words.Words.TheVariants.{List as ListOf, Audit}
use Rattle.rec_words.specs.declared.words.Words.TheVariants.{Extract, Upgrade, Export, Chapter11}
use Rattle.rec_words.specs.declared.words.Words.TheVariants.{Record}
use Rattle.rec_words.specs.declared.words.Words.TheVariants.{Simulate, Version}
use Rattle.rec_words.specs.Commands.{AsksFor, bpfrec_app}

-- the words are `chapter11 --stream` and the name of a file, which `clap` isn't asked for
abbrev pub AsksForStream : (words : List (List ℕ)) → Type 0
AsksForStream words = (setup : List ℕ) × (words ≡ codes "chapter11" ∷ codes "--stream" ∷ setup ∷ [])

-- an option: it begins with `-`, which alone is the name of a stream
abbrev pub is_option : (word : List ℕ) → Bool
is_option [] = false
is_option (only ∷ []) = false
is_option (first ∷ second ∷ rest) = first == 45

-- the words are `chapter11`, the names of two recordings or more, of SETUP and of OUT, and none is
-- an option
pub record IsSeveral (words : List (List ℕ)) (recordings : List (List ℕ))
    (setup out : List ℕ) : Type 0 where
  pub words_are : words ≡ codes "chapter11" ∷ (recordings ++ setup ∷ out ∷ [])
  pub two : 2 ≤ length recordings
  pub no_option : list_any is_option (recordings ++ setup ∷ out ∷ []) ≡ false

-- the words are of this form, which `clap` isn't asked for either
abbrev pub AsksForSeveral : (words : List (List ℕ)) → Type 0
AsksForSeveral words =
    (recordings : List (List ℕ)) × (setup : List ℕ) × (out : List ℕ)
    × IsSeveral words recordings setup out

-- the line of a recording that standard input has left is printed at `Ok`, where that is known
abbrev pub PrintsOf : {T E : Type 0} → Result T E → (left : Option (List ℕ)) → (List ℕ → Type 0)
    → Type 0
PrintsOf result left Prints =
    OnOk result (IfSome left (λ recording. length recording < 2 ^ 64 → Prints recording))

-- of what `extract` and `upgrade` read from standard input they print the line. `export` writes the
-- export of standard input to standard output where both are named, and leaves standard output as
-- it was where OUT isn't
abbrev pub AnswersCommand : {T : Type 0} → Words → (left before after : Option (List ℕ))
    → Result T CommandEnding → Type 0
AnswersCommand (Extract file channel out) left before after result =
    file.now ≡ codes "-" → PrintsOf result left
    (λ recording. PrintsExtracted channel.now recording before after)
AnswersCommand (Upgrade recording out) left before after result =
    recording.now ≡ codes "-"
    → PrintsOf result left (λ recording. PrintsUpgraded recording before after)
AnswersCommand (Export file out origin) left before after result =
    (file.now ≡ codes "-" → out.now ≡ codes "-" → StreamsExport origin left before after result)
    × (out.now ≢ codes "-" → after ≡ before)
AnswersCommand NoCommand left before after result = Unit {0}
AnswersCommand (Asm file) left before after result = Unit {0}
AnswersCommand (Dis file) left before after result = Unit {0}
AnswersCommand (Verify file) left before after result = Unit {0}
AnswersCommand (Run file view) left before after result = Unit {0}
AnswersCommand (ListOf file) left before after result = Unit {0}
AnswersCommand (Audit file) left before after result = Unit {0}
AnswersCommand (Chapter11 recording setup out) left before after result = Unit {0}
AnswersCommand (Record settings out) left before after result = Unit {0}
AnswersCommand (Simulate file) left before after result = Unit {0}
AnswersCommand Version left before after result = Unit {0}

-- a command that the words ask for was done so
pub record AnswersAsked {T : Type 0} (met : Option (Text
    × List Row)) (left before after : Option (List ℕ))
    (result : Result T CommandEnding) : Type 0 where
  pub command : Words
  pub asked : AsksFor met command
  pub answers : AnswersCommand command left before after result

-- what the words ask for was done so, where `clap` is asked for them and takes them
abbrev pub AnswersWords : {T : Type 0} → (words : List (List ℕ))
    → (left before after : Option (List ℕ))
    → Result T CommandEnding → Type 0
AnswersWords words left before after result =
    ¬ AsksForStream words → ¬ AsksForSeveral words → takes bpfrec_app words ≡ true
    → AnswersAsked (subcommand_of bpfrec_app words) left before after result
