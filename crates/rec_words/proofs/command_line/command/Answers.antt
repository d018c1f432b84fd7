use Rattle.std.proofs.Common.{◌≡◌, ℕ, ◌+◌, ◌<◌, List, Bool, false, length, get_or, drop, refl}
use Rattle.std.specs.Prelude.{◌||◌}
use Rattle.std.proofs.lemmas.List.{drop_more}
use Rattle.clap.specs.Words.{App, Rule, with_rule}
use Rattle.rec_words.specs.declared.command_line.WordTexts.{WordTexts}
use Rattle.rec_words.specs.Commands.{operand_rule, with_words}
use Rattle.rec_words.specs.CommandTexts.{word_data, words_data}
use Rattle.rec_words.proofs.command_line.command.Goals as goal

-- the first of the words that are left is added
one_more : (app next whole : App) (rule : Rule) (all : List WordTexts) (at : ℕ) (d : WordTexts) → at < length all
    → next ≡ with_rule app rule → rule ≡ operand_rule (word_data (get_or all at d))
    → with_words app (words_data (drop at all)) ≡ whole
    → with_words next (words_data (drop (at + 1) all)) ≡ whole
one_more app next whole rule all at d here added same before =
    rw (added, same) (rw (drop_more all at d here) at before)

-- no argument so far is global, nor is the one that is added
none_global : (old one new : Bool) → new ≡ (old || one) → old ≡ false → one ≡ false → new ≡ false
none_global old one new e f g = rw (e, f, g) refl

pub words-preserved : goal.words-preserved
words-preserved c =
    let adds = c.in_ok-command.ensures.shape c.operand.ensures.local in (
      one_more _ _ _ _ _ c.words.word-index _ c.words-test.true adds c.operand.ensures.rule c.words.invariant.0,
      none_global _ _ _ c.in_ok-command.ensures.globals c.words.invariant.1 c.operand.ensures.local,
    )
