use Rattle.std.proofs.Common.{refl, ◌∙◌, ap, Bor, ℕ, List}
use Rattle.rec_words.proofs.Matches.{word_is}
use Rattle.rec_words.proofs.words.word_for.Goals as goal

pub returns : goal.returns
returns c =
    ap (λ (s : Bor (List ℕ)). s.now) c.unwrap_or.ensures
    ∙ word_is c.args.matches.now c.args.name.now c.get_str.result _ refl c.get_str.ensures
