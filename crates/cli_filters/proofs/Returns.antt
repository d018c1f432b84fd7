-- A line with and without a carriage return at its end.
use Rattle.std.proofs.Common.{ℕ, ◌≡◌, ◌≢◌, ◌⊎◌, inl, inr, List, [], ◌∷◌, ◌++◌, refl, sym, ap, true, false, eqb, Option, None, Some, ◌∙◌, Bor}
use Rattle.std.specs.Prelude.{MatchOption, unwrap_or}
use Rattle.std.proofs.lemmas.Bool.{cases_Bool, eqb-true}
use Rattle.cli_filters.specs.Lines.{without_return}

pub return_dropped : (front : List ℕ) → without_return (front ++ 13 ∷ []) ≡ front
return_dropped [] = refl
return_dropped (b ∷ []) = refl
return_dropped (b ∷ c ∷ front) = ap (λ line. b ∷ line) (return_dropped (c ∷ front))

one : (b : ℕ) → ((front : List ℕ) → b ∷ [] ≢ front ++ 13 ∷ []) → (eqb b 13 ≡ true) ⊎ (eqb b 13 ≡ false) → without_return (b ∷ []) ≡ b ∷ []
one b none (inl is) = absurd (none [] (ap (λ x. x ∷ []) (eqb-true b 13 is)))
one b none (inr other) = rw other refl

pub return_missing : (line : List ℕ) → ((front : List ℕ) → line ≢ front ++ 13 ∷ []) → without_return line ≡ line
return_missing [] none = refl
return_missing (b ∷ []) none = one b none (cases_Bool (eqb b 13))
return_missing (b ∷ c ∷ line) none = ap (λ rest. b ∷ rest) (return_missing (c ∷ line) (λ front e. none (b ∷ front) (ap (λ rest. b ∷ rest) e)))

-- what is left of a line whose last carriage return was taken, where it had one
pub stripped_is : (line : Bor (List ℕ)) (front : Option (Bor (List ℕ)))
    → MatchOption front ((rest : List ℕ) → line.now ≢ rest ++ 13 ∷ []) (λ rest. line.now ≡ rest.now ++ 13 ∷ [])
    → (unwrap_or front line).now ≡ without_return line.now
stripped_is line None none = sym (return_missing line.now none)
stripped_is line (Some rest) is = sym (ap without_return is ∙ return_dropped rest.now)
