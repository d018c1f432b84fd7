-- The command line: what the crate clap makes of the words, for the commands of this program.
use Rattle.std.specs.Prelude.{◌≡◌, ◌≢◌, List, [], ◌∷◌, Option, Some, Bool, true, false, unwrap_or}
use Rattle.std.specs.Prelude.{codes}
use Rattle.std.specs.Borrow.{Bor}
use Rattle.std.specs.Option.{option_map}
use Rattle.clap.specs.Words.{App, Row, Rule, Text, first_of, new_app, new_rule, with_rule}
use Rattle.clap.specs.Words.{with_subcommand}
use Rattle.clap.specs.declared.builder.ArgAction.TheVariants.{Set}
use Rattle.rec_words.specs.declared.words.Words.{Words}
use Rattle.rec_words.specs.declared.words.Words.TheVariants.{NoCommand, Asm, Dis, Verify, Run}
use Rattle.rec_words.specs.declared.words.Words.TheVariants.{List as ListOf, Audit}
use Rattle.rec_words.specs.declared.words.Words.TheVariants.{Extract, Upgrade, Export, Chapter11}
use Rattle.rec_words.specs.declared.words.Words.TheVariants.{Record}
use Rattle.rec_words.specs.declared.words.Words.TheVariants.{Simulate, Version}

-- a word by its name, and whether it must be given
abbrev pub operand_rule : Text × Bool → Rule
operand_rule word = record (new_rule word.0) { required = word.1; action = Some Set }

-- a word that must be given, and one that needn't be
abbrev pub given : Text → Text × Bool
given name = (name, true)

abbrev pub optional : Text → Text × Bool
optional name = (name, false)

-- a command that takes these words, in order
abbrev pub with_words : App → List (Text × Bool) → App
with_words app [] = app
with_words app (word ∷ rest) = with_words (with_rule app (operand_rule word)) rest

-- a command by its name and its words
abbrev pub command_app : Text × List (Text × Bool) → App
command_app command = with_words (new_app command.0) command.1

-- the commands, each with its words
abbrev pub commands : List (Text × List (Text × Bool))
commands =
    (codes "asm", given (codes "FILE") ∷ [])
    ∷ (codes "dis", given (codes "FILE") ∷ [])
    ∷ (codes "verify", given (codes "FILE") ∷ [])
    ∷ (codes "run", given (codes "FILE") ∷ given (codes "HEX") ∷ [])
    ∷ (codes "list", given (codes "FILE") ∷ [])
    ∷ (codes "audit", given (codes "FILE") ∷ [])
    ∷ (
      codes "extract",
      given (codes "FILE") ∷ given (codes "CHANNEL") ∷ given (codes "OUT") ∷ [],
    )
    ∷ (codes "upgrade", given (codes "IN") ∷ given (codes "OUT") ∷ [])
    ∷ (
      codes "export",
      given (codes "FILE") ∷ given (codes "OUT") ∷ optional (codes "ORIGIN") ∷ [],
    )
    ∷ (
      codes "chapter11",
      given (codes "RECORDING") ∷ given (codes "SETUP") ∷ given (codes "OUT") ∷ [],
    )
    ∷ (codes "record", given (codes "SETTINGS") ∷ given (codes "OUT") ∷ [])
    ∷ (codes "simulate", given (codes "FILE") ∷ [])
    ∷ (codes "version", [])
    ∷ []

-- the program without its commands: a command must stand among the words after its name, or one of
-- the flags for help and for the version
abbrev pub top_app : App
top_app =
    let named = new_app (codes "bpfrec") in
    record named {
      top = record named.top
          { no_binary_name = true; subcommand_required = true; has_version = true };
    }

-- a program with these commands, in order
abbrev pub with_commands : App → List (Text × List (Text × Bool)) → App
with_commands app [] = app
with_commands app (command ∷ rest) =
    with_commands (with_subcommand app (command_app command).top) rest

-- the program
abbrev pub bpfrec_app : App
bpfrec_app = with_commands top_app commands

-- the word given for a name
abbrev pub word_for : Text → List Row → Text
word_for name rows = unwrap_or (first_of name rows) []

-- a word that may be given
abbrev pub texts_of : Option (Bor Text) → Option Text
texts_of word = option_map (λ (text : Bor Text). text.now) word

-- the command and the words of a subcommand with its matches
abbrev pub AsksFor : Option (Text × List Row) → Words → Type 0
AsksFor met NoCommand =
    (rows : List Row) → (met ≢ Some (codes "asm", rows)) × (met ≢ Some (codes "dis", rows))
    × (met ≢ Some (codes "verify", rows)) × (met ≢ Some (codes "run", rows))
    × (met ≢ Some (codes "list", rows)) × (met ≢ Some (codes "audit", rows))
    × (met ≢ Some (codes "extract", rows)) × (met ≢ Some (codes "upgrade", rows))
    × (met ≢ Some (codes "export", rows)) × (met ≢ Some (codes "chapter11", rows))
    × (met ≢ Some (codes "record", rows)) × (met ≢ Some (codes "simulate", rows))
    × (met ≢ Some (codes "version", rows))
AsksFor met (Asm file) =
    (rows : List Row) × (met ≡ Some (codes "asm", rows)) × (file.now ≡ word_for (codes "FILE") rows)
AsksFor met (Dis file) =
    (rows : List Row) × (met ≡ Some (codes "dis", rows)) × (file.now ≡ word_for (codes "FILE") rows)
AsksFor met (Verify file) =
    (rows : List Row) × (met ≡ Some (codes "verify", rows))
    × (file.now ≡ word_for (codes "FILE") rows)
AsksFor met (Run file view) =
    (rows : List Row) × (met ≡ Some (codes "run", rows))
    × (file.now ≡ word_for (codes "FILE") rows) × (view.now ≡ word_for (codes "HEX") rows)
AsksFor met (ListOf file) =
    (rows : List Row) × (met ≡ Some (codes "list", rows))
    × (file.now ≡ word_for (codes "FILE") rows)
AsksFor met (Audit file) =
    (rows : List Row) × (met ≡ Some (codes "audit", rows))
    × (file.now ≡ word_for (codes "FILE") rows)
AsksFor met (Extract file channel out) =
    (rows : List Row) × (met ≡ Some (codes "extract", rows))
    × (file.now ≡ word_for (codes "FILE") rows) × (channel.now ≡ word_for (codes "CHANNEL") rows)
    × (out.now ≡ word_for (codes "OUT") rows)
AsksFor met (Upgrade recording out) =
    (rows : List Row) × (met ≡ Some (codes "upgrade", rows))
    × (recording.now ≡ word_for (codes "IN") rows) × (out.now ≡ word_for (codes "OUT") rows)
AsksFor met (Export file out origin) =
    (rows : List Row) × (met ≡ Some (codes "export", rows))
    × (file.now ≡ word_for (codes "FILE") rows) × (out.now ≡ word_for (codes "OUT") rows)
    × (texts_of origin ≡ first_of (codes "ORIGIN") rows)
AsksFor met (Chapter11 recording setup out) =
    (rows : List Row) × (met ≡ Some (codes "chapter11", rows))
    × (recording.now ≡ word_for (codes "RECORDING") rows)
    × (setup.now ≡ word_for (codes "SETUP") rows) × (out.now ≡ word_for (codes "OUT") rows)
AsksFor met (Record settings out) =
    (rows : List Row) × (met ≡ Some (codes "record", rows))
    × (settings.now ≡ word_for (codes "SETTINGS") rows) × (out.now ≡ word_for (codes "OUT") rows)
AsksFor met (Simulate file) =
    (rows : List Row) × (met ≡ Some (codes "simulate", rows))
    × (file.now ≡ word_for (codes "FILE") rows)
AsksFor met Version = (rows : List Row) × (met ≡ Some (codes "version", rows))
