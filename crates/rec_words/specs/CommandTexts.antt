-- The table of the commands as data.
use Rattle.std.specs.Prelude.{Bool, List, map}
use Rattle.clap.specs.Words.{Text}
use Rattle.rec_words.specs.declared.command_line.CommandTexts.{CommandTexts}
use Rattle.rec_words.specs.declared.command_line.WordTexts.{WordTexts}

-- a word's name, and whether it must be given
abbrev pub word_data : WordTexts → Text × Bool
word_data word = (word.name.now, word.is_required)

-- words, one by one
abbrev pub words_data : List WordTexts → List (Text × Bool)
words_data = map word_data

-- a command's name and those of its words
abbrev pub command_data : CommandTexts → Text × List (Text × Bool)
command_data command = (command.name.now, words_data command.words.now)
