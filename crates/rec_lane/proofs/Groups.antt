-- Groups are the frames of one version, one after the other.
use Rattle.std.proofs.Common.{ℕ, ◌≡◌, ◌≢◌, inl, inr, List, [], ◌∷◌, ◌++◌, refl, sym, ◌∙◌, ap, subst, Some, All}
use Rattle.std.specs.Prelude.{slice_get}
use Rattle.std.proofs.lemmas.Bool.{cases_Bool, eqb-true, eqb-false}
use Rattle.std.proofs.lemmas.Option.{none-some}
use Rattle.std.proofs.lemmas.List.{append_assoc}
use Rattle.std.proofs.lemmas.List.Elements.{All-nil, All-head, All-tail, All-cons, All-push}
use Rattle.rec_lane.specs.Offered.{OfferedFrame}
use Rattle.rec_lane.specs.Parts.{ended_from, last_from, as_part}
use Rattle.rec_lane.specs.Pieces.{has_group_version, groups, IsFirstGroup, AreGroups}
use Rattle.rec_lane.proofs.FramesMet.{heads, tails, some_is}
use Rattle.rec_lane.proofs.Fronts.{not_empty, none_left}

-- a frame of this version
abbrev pub HasVersion : ℕ → OfferedFrame → Type 0
HasVersion version f = f.version ≡ version

-- the groups from an open one on
groups_from : (g : OfferedFrame) (gs xs : List OfferedFrame) → All (HasVersion g.version) (g ∷ gs)
    → AreGroups ((g ∷ gs) ++ xs) (ended_from has_group_version (g ∷ gs) xs ++ as_part (last_from has_group_version (g ∷ gs) xs))
groups_from g gs [] same = (
  [],
  record {
    front = refl;
    some = not_empty g gs;
    version = g.version;
    same = same;
    ended = λ f is. absurd (none-some f is);
  },
  refl,
)
groups_from g gs (x ∷ xs) same =
    elim (cases_Bool (has_group_version (g ∷ gs) x)) as (λ _. AreGroups ((g ∷ gs) ++ x ∷ xs)
    (ended_from has_group_version (g ∷ gs) (x ∷ xs) ++ as_part (last_from has_group_version (g ∷ gs) (x ∷ xs)))) [
      | inl on ↦ rw on (
          subst (λ fs. AreGroups fs (ended_from has_group_version ((g ∷ gs) ++ x ∷ []) xs ++ as_part (last_from has_group_version ((g ∷ gs) ++ x ∷ []) xs)))
          (append_assoc (g ∷ gs) (x ∷ []) xs)
          (groups_from g (gs ++ x ∷ []) xs (All-push (HasVersion g.version) (g ∷ gs) x same (sym (eqb-true g.version x.version on)))))
      | inr off ↦ rw off ((
        x ∷ xs,
        record {
          front = refl;
          some = not_empty g gs;
          version = g.version;
          same = same;
          ended = λ f is one. eqb-false g.version x.version off (sym one ∙ ap (λ (y : OfferedFrame). y.version) (sym (some_is x f is)));
        },
        groups_from x [] xs (All-cons (HasVersion x.version) x [] refl (All-nil (HasVersion x.version))),
      ))
    ]

pub groups_are : (offered : List OfferedFrame) → AreGroups offered (groups offered)
groups_are [] = refl
groups_are (x ∷ xs) = groups_from x [] xs (All-cons (HasVersion x.version) x [] refl (All-nil (HasVersion x.version)))

-- ---- one answer

-- what is left begins with another version
abbrev Ended : ℕ → List OfferedFrame → Type 0
Ended version rest = (f : OfferedFrame) → slice_get rest 0 ≡ Some f → f.version ≢ version

-- two groups of one version are one
same_group : (version : ℕ) (group rest other more : List OfferedFrame) → group ++ rest ≡ other ++ more
    → All (HasVersion version) group → All (HasVersion version) other → Ended version rest → Ended version more
    → (group ≡ other) × (rest ≡ more)
same_group version [] rest [] more same a b c d = (refl, same)
same_group version [] rest (y ∷ ys) more same a b c d =
    absurd (c y (ap (λ xs. slice_get xs 0) same) (All-head (HasVersion version) y ys b))
same_group version (x ∷ xs) rest [] more same a b c d =
    absurd (d x (sym (ap (λ ys. slice_get ys 0) same)) (All-head (HasVersion version) x xs a))
same_group version (x ∷ xs) rest (y ∷ ys) more same a b c d =
    let others = same_group version xs rest ys more (tails x y (xs ++ rest) (ys ++ more) same) (All-tail (HasVersion version) x xs a)
    (All-tail (HasVersion version) y ys b) c d in
    (ap (λ z. z ∷ xs) (heads x y (xs ++ rest) (ys ++ more) same) ∙ ap (λ zs. y ∷ zs) others.0, others.1)

-- groups that begin alike are of one version
same_version : (frames group rest other more : List OfferedFrame) → (a : IsFirstGroup frames group rest) → (b : IsFirstGroup frames other more)
    → a.version ≡ b.version
same_version frames [] rest other more a b = absurd (a.some refl)
same_version frames (x ∷ xs) rest [] more a b = absurd (b.some refl)
same_version frames (x ∷ xs) rest (y ∷ ys) more a b =
    sym (All-head (HasVersion a.version) x xs a.same)
    ∙ (ap (λ (f : OfferedFrame). f.version) (heads x y (xs ++ rest) (ys ++ more) (sym a.front ∙ b.front))
    ∙ All-head (HasVersion b.version) y ys b.same)

pub one_groups : (offered : List OfferedFrame) (some other : List (List OfferedFrame)) → AreGroups offered some → AreGroups offered other → some ≡ other
one_groups offered [] [] a b = refl
one_groups offered [] (h ∷ hs) a b = absurd (none_left offered h b.0 a b.1.front b.1.some)
one_groups offered (g ∷ gs) [] a b = absurd (none_left offered g a.0 b a.1.front a.1.some)
one_groups offered (g ∷ gs) (h ∷ hs) a b =
    let version = same_version offered g a.0 h b.0 a.1 b.1 in
    let same = same_group a.1.version g a.0 h b.0 (sym a.1.front ∙ b.1.front) a.1.same
    (subst (λ v. All (HasVersion v) h) (sym version) b.1.same) a.1.ended
    (subst (λ v. Ended v b.0) (sym version) b.1.ended) in
    ap (λ x. x ∷ gs) same.0
    ∙ ap (λ xs. h ∷ xs) (one_groups a.0 gs hs a.2 (subst (λ rest. AreGroups rest hs) (sym same.1) b.2))
