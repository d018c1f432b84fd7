use Rattle.std.proofs.Common.{ℕ, ◌≡◌, ◌≤◌, ◌-◌, Bool, true, false, not}
use Rattle.std.proofs.Common.{List, [], ◌∷◌, ◌++◌, length, get_or, take, drop, map, string_bytes, codes, ap, ◌∙◌, sym, arith}
use Rattle.std.proofs.lemmas.List.{length-map, map-append, take_all, take-append-drop}
use Rattle.std.proofs.lemmas.Slice.Eq.{bytes_eq-Decides}
use Rattle.std.specs.List.{list_any}
use Rattle.rec_cli.specs.Answered.{is_option}
use Rattle.rec_cli.proofs.several.several_in.Goals as goal

first_there : {S : Type 0} (words : List S) (first : S) → 1 ≤ length words → first ≡ get_or words 0 first
    → words ≡ first ∷ take (length words - 1) (drop 1 words)
first_there [] first least is = absurd (omega (arith, least))
first_there (x ∷ words) first least is =
    let all : take (length (x ∷ words) - 1) words ≡ words = take_all (length (x ∷ words) - 1) words (omega arith) in rw all cc

two_there : {S : Type 0} (words : List S) (a b : S) → length words ≡ 2 → a ≡ get_or words 0 a → b ≡ get_or words 1 b → words ≡ a ∷ b ∷ []
two_there [] a b many is_a is_b = absurd (omega (arith, many))
two_there (x ∷ []) a b many is_a is_b = absurd (omega (arith, many))
two_there (x ∷ y ∷ []) a b many is_a is_b = cc
two_there (x ∷ y ∷ z ∷ words) a b many is_a is_b = absurd (omega (arith, many))

unless_not : (is : Bool) → false ≡ not is → is ≡ true
unless_not true told = cc
unless_not false told = absurd (cc)

pub returns-clause-asked : goal.returns-clause-asked
returns-clause-asked c =
    let front = c.split_at.result.0.now in let back = c.split_at.result.1.now in
    let setup = c.index-last-0.result in let out = c.index-last-1.result in
    let rest = take (length c.args.words.now - 1) (drop 1 c.args.words.now) in
    let two : back ≡ setup ∷ out ∷ [] =
    two_there back setup out (omega (arith, c.split_at.ensures.back_len, c.if-operands-lt4.false)) c.index-last-0.is c.index-last-1.is in
    let cut : rest ≡ front ++ setup ∷ out ∷ [] = rw (c.split_at.ensures.front, ← two, c.split_at.ensures.back) (sym (take-append-drop _ rest)) in
    let whole : c.args.words.now ≡ c.command-item.result ∷ rest =
    first_there c.args.words.now c.command-item.result c.in-len1-up.len_at_least c.command-item.is in
    let named : map string_bytes rest ≡ map string_bytes front ++ string_bytes setup ∷ string_bytes out ∷ [] =
    ap (map string_bytes) cut ∙ map-append string_bytes front (setup ∷ out ∷ []) in
    let command : string_bytes c.command-item.result ≡ codes "chapter11" =
    sym c.as_str.ensures.value ∙ (bytes_eq-Decides c.as_str.result.now (codes "chapter11")).0 (unless_not _ c.if-ne.ensures) in
    rw (c.as_str-2.ensures.value, c.as_str-3.ensures.value) (record {
      words_are = ap (map string_bytes) whole ∙ ap (λ (word : List ℕ). word ∷ map string_bytes rest) command
          ∙ ap (λ (words : List (List ℕ)). codes "chapter11" ∷ words) named;
      two = rw (length-map front string_bytes) (omega (arith, c.split_at.ensures.front_len, c.if-operands-lt4.false));
      no_option = ap (list_any is_option) (sym named) ∙ sym c.if-has_option.ensures;
    })
