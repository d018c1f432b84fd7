use Rattle.std.proofs.Common.{◌∙◌, ap, lit<, List, ℕ, Bor}
use Rattle.std.proofs.lemmas.Str.Pattern.{strip_suffix_char}
use Rattle.cli_filters.proofs.Returns.{stripped_is}
use Rattle.cli_filters.proofs.no_words.without_return.Goals as goal

pub returns : goal.returns
returns c =
    ap (λ (b : Bor (List ℕ)). b.now) c.unwrap_or.ensures
    ∙ stripped_is c.args.line c.strip_suffix.result (strip_suffix_char 13 c.args.line.now c.strip_suffix.result c.strip_suffix.ensures.cases (lit< tt))
