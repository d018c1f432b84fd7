use Rattle.std.proofs.Common.{sym, ◌∙◌}
use Rattle.rec_words.proofs.Matches.{value_is}
use Rattle.rec_words.proofs.words.optional_word_for.Goals as goal

pub returns : goal.returns
returns c = c.get_str.ensures ∙ sym (value_is c.args.matches.now c.args.name.now)
