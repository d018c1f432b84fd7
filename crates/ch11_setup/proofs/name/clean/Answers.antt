use Rattle.std.proofs.Common.{◌≡◌, ◌<◌, ◌∙◌, ap, sym, subst, take, All}
use Rattle.ch11_setup.specs.Names.{plain_text, trimmed}
use Rattle.ch11_setup.proofs.CleanedNames.{ascii_name}
use Rattle.ch11_setup.proofs.name.clean.Goals as goal

pub ascii_text-requires-2 : goal.ascii_text-requires-2
ascii_text-requires-2 c =
    let same : c.first_of-name.result.now ≡ take 32 (trimmed (plain_text c.args.text.now)) =
    c.first_of-name.ensures ∙ ap (take 32) (c.trim.ensures ∙ ap trimmed (c.deref.ensures.value ∙ c.in_ok-plain.ensures)) in
    subst (All (λ byte. byte < 128)) (sym same) (ascii_name c.args.text.now)
