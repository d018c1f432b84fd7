use Rattle.std.proofs.Common.{List, ℕ, ap, ◌∙◌, ◌&&◌, not, bytes_eq}
use Rattle.rec_words.specs.ReservedNames.{is_taken, plain_name, test_attribute}
use Rattle.rec_words.proofs.setup_file.reserved.is_reserved.Goals as goal

pub returns : goal.returns
returns c = c.is_taken_name.ensures ∙ ap (λ (plain : List ℕ). not (bytes_eq c.args.name.now test_attribute) && is_taken plain)
    (c.deref.ensures.value ∙ (c.in_ok-plain.ensures ∙ ap plain_name c.as_bytes.ensures.value))
