use Rattle.std.proofs.Common.{ℕ, ◌≡◌, ◌≤◌, ◌<◌, List, [], ◌∷◌, length, get_or, map, string_bytes, codes, ap, ◌∙◌, sym, arith}
use Rattle.std.proofs.lemmas.Slice.Eq.{bytes_eq-Decides}
use Rattle.rec_cli.proofs.entry.stream_setup.Goals as goal

three_there : {S : Type 0} (words : List S) (a b c : S) → 3 ≤ length words → length words < 4 → a ≡ get_or words 0 a → b ≡ get_or words 1 b
    → c ≡ get_or words 2 c → words ≡ a ∷ b ∷ c ∷ []
three_there [] a b c least most is_a is_b is_c = absurd (omega (arith, least))
three_there (x ∷ []) a b c least most is_a is_b is_c = absurd (omega (arith, least))
three_there (x ∷ y ∷ []) a b c least most is_a is_b is_c = absurd (omega (arith, least))
three_there (x ∷ y ∷ z ∷ []) a b c least most is_a is_b is_c = cc
three_there (x ∷ y ∷ z ∷ w ∷ words) a b c least most is_a is_b is_c = absurd (omega (arith, most))

pub returns-then-not-starts_with-clause-asked : goal.returns-then-not-starts_with-clause-asked
returns-then-not-starts_with-clause-asked c =
    let setup = string_bytes c.setup-item.result in
    let command : string_bytes c.command-item.result ≡ codes "chapter11" =
    sym c.as_str.ensures.value ∙ (bytes_eq-Decides c.as_str.result.now (codes "chapter11")).0 (sym c.if-eq.ensures) in
    let option : string_bytes c.option-item.result ≡ codes "--stream" =
    sym c.as_str-then-eq.ensures.value ∙ (bytes_eq-Decides c.as_str-then-eq.result.now (codes "--stream")).0 (sym c.if-eq-2.ensures) in
    let words = three_there c.args.words.now c.command-item.result c.option-item.result c.setup-item.result c.in-len3.len_at_least c.in-len3.len_below
    c.command-item.is c.option-item.is c.setup-item.is in (
      setup,
      ap (map string_bytes) words ∙ ap (λ (word : List ℕ). word ∷ string_bytes c.option-item.result ∷ setup ∷ []) command
          ∙ ap (λ (word : List ℕ). codes "chapter11" ∷ word ∷ setup ∷ []) option,
    )
