use Rattle.std.proofs.Common.{◌≡◌, ℕ, ◌+◌, ◌<◌, List, Bool, false, map, length, get_or, drop, refl, ap}
use Rattle.std.specs.Prelude.{◌||◌}
use Rattle.std.proofs.lemmas.List.{drop_more}
use Rattle.clap.specs.Words.{App, Shape, with_subcommand}
use Rattle.rec_words.specs.declared.command_line.CommandTexts.{CommandTexts}
use Rattle.rec_words.specs.Commands.{command_app, with_commands}
use Rattle.rec_words.specs.CommandTexts.{command_data}
use Rattle.rec_words.proofs.command_line.with_commands.Goals as goal

-- the first of the commands that are left is added
one_more : (app next whole : App) (sub : Shape) (all : List CommandTexts) (at : ℕ) (d : CommandTexts) → at < length all
    → next ≡ with_subcommand app sub → sub ≡ (command_app (command_data (get_or all at d))).top
    → with_commands app (map command_data (drop at all)) ≡ whole
    → with_commands next (map command_data (drop (at + 1) all)) ≡ whole
one_more app next whole sub all at d here added same before =
    rw (added, same) (rw (drop_more all at d here) at before)

-- the program has no global argument with a further command, where it had none before and the
-- command has none
none_global : (before command with_command : Bool) → with_command ≡ (before || command) → before ≡ false → command ≡ false → with_command ≡ false
none_global before command with_command either none none_of_it = rw (either, none, none_of_it) refl

pub commands-preserved : goal.commands-preserved
commands-preserved c =
    let top = ap (λ a. a.top) c.in_ok-command.ensures.app in
    let adds = c.in_ok-program-2.ensures.shape c.in_ok-command.ensures.local in (
      one_more _ _ _ _ c.args.commands.now c.commands.texts-index _ c.commands-test.true adds top c.commands.invariant.0,
      none_global _ _ _ c.in_ok-program-2.ensures.globals c.commands.invariant.1 c.in_ok-command.ensures.local,
    )
