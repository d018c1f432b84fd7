use Rattle.std.proofs.Common.{◌≡◌, false, drop, map}
use Rattle.clap.specs.Words.{app_of}
use Rattle.clap.specs.declared.builder.Command.TheViews.{out-Command as fields_of}
use Rattle.rec_words.specs.Commands.{top_app, with_commands}
use Rattle.rec_words.specs.CommandTexts.{command_data}
use Rattle.rec_words.proofs.command_line.with_commands.Given as goal

-- the program with the commands that are left is the whole one
abbrev pub invariant-commands : goal.invariant-commands
invariant-commands l =
    (with_commands (app_of l.program) (map command_data (drop l.texts-index l.commands))
    ≡ with_commands top_app (map command_data l.commands))
    × ((fields_of l.program).has_globals ≡ false)
