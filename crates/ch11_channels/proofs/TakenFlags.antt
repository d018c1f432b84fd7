-- A table of flags, of which one more is set.
use Rattle.std.proofs.Common.{ℕ, ◌≡◌, ◌<◌, ◌+◌, ◌^◌, ◌==◌, inl, inr, Bool, true, false, true≢false, List, [], ◌∷◌, ◌++◌, length, get_or, set}
use Rattle.std.proofs.Common.{take, replicate, refl, sym, ap, subst, ◌∙◌, eq-eqb}
use Rattle.std.specs.Prelude.{◌||◌}
use Rattle.std.specs.List.{list_any}
use Rattle.std.proofs.lemmas.Bool.{cases_Bool, eqb-true}
use Rattle.std.proofs.lemmas.List.{length-replicate, get_or-replicate, length-set, get_or-set_same, get_or-set_other}
use Rattle.std.proofs.lemmas.List.Folds.{list_any-append, list_any_more}
use Rattle.ch11_channels.specs.declared.channels.RunChannel.{RunChannel}
use Rattle.ch11_channels.specs.declared.channels.FileChannel.{FileChannel}
use Rattle.ch11_channels.specs.GivenIds.{AreTakenIds, has_own, is_given, is_taken_id}

or_true : (b : Bool) → (b || true) ≡ true
or_true true = refl
or_true false = refl

or_false : (b : Bool) → (b || false) ≡ b
or_false true = refl
or_false false = refl

or_assoc : (a b c : Bool) → (a || (b || c)) ≡ ((a || b) || c)
or_assoc true b c = refl
or_assoc false b c = refl

flag_set : (taken : List Bool) (at : ℕ) (p q : ℕ → Bool) → at < length taken → ((id : ℕ) → id < length taken → get_or taken id false ≡ p id)
    → ((id : ℕ) → q id ≡ (p id || (at == id))) → (id : ℕ) → id < length taken → get_or (set taken at true) id false ≡ q id
flag_set taken at p q within said more id fits = elim (cases_Bool (at == id)) as (λ _. get_or (set taken at true) id false ≡ q id) [
  | inl on ↦
      subst (λ n. get_or (set taken at true) n false ≡ true) (eqb-true at id on) (get_or-set_same taken at true false within)
      ∙ sym (more id ∙ ap (λ b. p id || b) on ∙ or_true (p id))
  | inr off ↦
      get_or-set_other taken at id true false (λ same. true≢false (sym (eq-eqb at id (sym same)) ∙ off))
      ∙ (said id fits ∙ sym (more id ∙ ap (λ b. p id || b) off ∙ or_false (p id)))
]

taken_after : (taken : List Bool) (at : ℕ) (named more : List RunChannel) (ahead behind : List FileChannel) → AreTakenIds taken named ahead
    → at < 2 ^ 16 → ((id : ℕ) → is_taken_id more behind id ≡ (is_taken_id named ahead id || (at == id))) → AreTakenIds (set taken at true) more behind
taken_after taken at named more ahead behind are fits adds = record {
  whole = length-set taken at true ∙ are.whole;
  said = λ id within. flag_set taken at (is_taken_id named ahead) (is_taken_id more behind) (subst (λ n. at < n) (sym are.whole) fits)
      (λ other o. are.said other (subst (λ n. other < n) are.whole o)) adds id (subst (λ n. id < n) (sym are.whole) within);
}

-- where nothing is named, none is taken
pub none_taken : (taken : List Bool) → taken ≡ replicate (2 ^ 16) false → AreTakenIds taken [] []
none_taken taken is = record {
  whole = ap length is ∙ length-replicate (2 ^ 16) false;
  said = λ id within. ap (λ l. get_or l id false) is ∙ get_or-replicate (2 ^ 16) id false false within;
}

-- the ID of a further channel
pub taken_given : (taken : List Bool) (named : List RunChannel) (ahead : List FileChannel) (one : FileChannel) → AreTakenIds taken named ahead
    → one.id < 2 ^ 16 → AreTakenIds (set taken one.id true) named (ahead ++ one ∷ [])
taken_given taken named ahead one are fits = taken_after taken one.id named named ahead (ahead ++ one ∷ []) are fits
    (λ id. ap (λ b. list_any (has_own id) named || b) (list_any-append (is_given id) ahead (one ∷ [])
    ∙ ap (λ b. list_any (is_given id) ahead || b) (or_false (one.id == id)))
    ∙ or_assoc (list_any (has_own id) named) (list_any (is_given id) ahead) (one.id == id))

-- that of a further channel that is named
pub taken_named : (taken : List Bool) (named : List RunChannel) (k : ℕ) (one : RunChannel) → AreTakenIds taken (take k named) [] → k < length named
    → one ≡ get_or named k one → one.channel < 2 ^ 16 → AreTakenIds (set taken one.channel true) (take (k + 1) named) []
taken_named taken named k one are within at fits = taken_after taken one.channel (take k named) (take (k + 1) named) [] [] are fits
    (λ id. or_false (list_any (has_own id) (take (k + 1) named)) ∙ list_any_more (has_own id) named k one within
    ∙ ap (λ (x : RunChannel). list_any (has_own id) (take k named) || has_own id x) (sym at)
    ∙ ap (λ b. b || (one.channel == id)) (sym (or_false (list_any (has_own id) (take k named)))))
