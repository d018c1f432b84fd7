-- An unset read, walked from its first place to its last, and built from its last place to its first.
use Rattle.std.proofs.Common.{ℕ, ◌≡◌, ◌↔◌, List, [], ◌∷◌, ◌++◌, refl, sym, ap, subst}
use Rattle.std.proofs.lemmas.Option.{slice_get_within}
use Rattle.bpf_insn.specs.declared.insn.Insn.{Insn}
use Rattle.bpf_verify.specs.ControlFlow.{Edge, GoesByEdges, IsPath, ReadsWord, WritesWord, NoneWrites, UnsetRead}

-- an edge leads from this place to the first of these, and so on, no instruction on the way writes the word, and the last one reads it
abbrev pub WalksUnset : List Insn → ℕ → List ℕ → ℕ → Type 0
WalksUnset p at [] word = ReadsWord p at word
WalksUnset p at (next ∷ rest) word = (Edge p at next × (WritesWord p at word → ⊥)) × WalksUnset p next rest word

walk_ends : (p : List Insn) (at : ℕ) (rest : List ℕ) (word : ℕ) → WalksUnset p at rest word
    → (last : ℕ) × (earlier : List ℕ) × (at ∷ rest ≡ earlier ++ last ∷ []) × GoesByEdges p (at ∷ rest) × ReadsWord p last word × NoneWrites p earlier word
walk_ends p at [] word walk = (at, [], refl, slice_get_within p at walk.0 walk.1, walk, tt)
walk_ends p at (next ∷ rest) word walk =
    let ends = walk_ends p next rest word walk.1 in
    (ends.0, at ∷ ends.1, ap (λ xs. at ∷ xs) ends.2, (walk.0.0, ends.3), ends.4, (walk.0.1, ends.5))

not_empty : (xs : List ℕ) (last : ℕ) → [] ≡ xs ++ last ∷ [] → ⊥
not_empty [] last e = cc
not_empty (x ∷ xs) last e = cc

ends_walk : (p : List Insn) (at : ℕ) (rest : List ℕ) (word last : ℕ) (earlier : List ℕ)
    → at ∷ rest ≡ earlier ++ last ∷ [] → GoesByEdges p (at ∷ rest) → ReadsWord p last word → NoneWrites p earlier word → WalksUnset p at rest word
ends_walk p at [] word last [] e goes reads none = let same : last ≡ at = cc in subst (λ x. ReadsWord p x word) same reads
ends_walk p at [] word last (x ∷ xs) e goes reads none = let tail : [] ≡ xs ++ last ∷ [] = cc in absurd (not_empty xs last tail)
ends_walk p at (next ∷ rest) word last [] e goes reads none = let bad : ⊥ = cc in absurd bad
ends_walk p at (next ∷ rest) word last (x ∷ xs) e goes reads none =
    let same : x ≡ at = cc in
    let tail : next ∷ rest ≡ xs ++ last ∷ [] = cc in
    ((goes.0, subst (λ y. WritesWord p y word → ⊥) same none.0), ends_walk p next rest word last xs tail goes.1 reads none.1)

-- an unset read begins with the first instruction and walks on from there
pub unset_walks : (p : List Insn) (path : List ℕ) (first : ℕ) (rest : List ℕ) (word : ℕ) → path ≡ first ∷ rest → UnsetRead p path word
    ↔ ((first ≡ 0) × WalksUnset p first rest word)
unset_walks p path first rest word is = subst (λ xs. UnsetRead p xs word ↔ ((first ≡ 0) × WalksUnset p first rest word)) (sym is) (
  λ unset. let at = unset.1 in (at.2.0, ends_walk p first rest word unset.0 at.0 at.1 at.2.1 at.3 at.4),
  λ walk. let ends = walk_ends p first rest word walk.1 in (ends.0, (ends.1, ends.2, (walk.0, ends.3), ends.4, ends.5)),
)

-- these places begin with this one and go by edges
abbrev pub GoesFrom : List Insn → ℕ → List ℕ → Type 0
GoesFrom p start [] = ⊥
GoesFrom p start (first ∷ rest) = (first ≡ start) × GoesByEdges p (first ∷ rest)

pub goes_before : (p : List Insn) (from start : ℕ) (path : List ℕ) → Edge p from start → GoesFrom p start path → GoesFrom p from (from ∷ path)
goes_before p from start [] edge goes = absurd goes
goes_before p from start (first ∷ rest) edge goes = (refl, (subst (λ x. Edge p from x) (sym goes.0) edge, goes.1))

pub path_from_first : (p : List Insn) (start : ℕ) (path : List ℕ) → start ≡ 0 → GoesFrom p start path → IsPath p path
path_from_first p start [] zero goes = absurd goes
path_from_first p start (first ∷ rest) zero goes = subst (λ n. GoesFrom p n (first ∷ rest)) zero goes
