use Rattle.std.proofs.Common.{ℕ, List, Bor, ◌∙◌, sym}
use Rattle.std.specs.Prelude.{bytes_eq}
use Rattle.rec_words.proofs.SettingsRead.{any_of_map}
use Rattle.rec_words.proofs.setup_file.reserved.is_one.Goals as goal

pub returns : goal.returns
returns c =
    c.contains.ensures.value
    ∙ sym (any_of_map (λ one. bytes_eq one c.args.name.now) (λ (k : Bor (List ℕ)). k.now) c.args.names.now)
