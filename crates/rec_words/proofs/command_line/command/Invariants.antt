use Rattle.std.proofs.Common.{◌≡◌, false, drop}
use Rattle.clap.specs.Words.{app_of}
use Rattle.clap.specs.declared.builder.Command.TheViews.{out-Command as fields_of}
use Rattle.rec_words.specs.Commands.{command_app, with_words}
use Rattle.rec_words.specs.CommandTexts.{command_data, words_data}
use Rattle.rec_words.proofs.command_line.command.Given as goal

-- the command with the words that are left is the whole one
abbrev pub invariant-words : goal.invariant-words
invariant-words l =
    (with_words (app_of l.command) (words_data (drop l.word-index l.word-items)) ≡ command_app (command_data l.texts))
    × ((fields_of l.command).has_globals ≡ false)
