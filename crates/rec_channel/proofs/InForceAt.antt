-- The version in force, counted: the versions that have begun by a frame stand in front of those that
-- have not, since marks never fall.
use Rattle.std.proofs.Common.{ℕ, zero, suc, ◌+◌, ◌-◌, ◌≡◌, ◌<◌, ◌≤◌, ◌⊎◌, inl, inr, Bool, true, false, List, [], ◌∷◌, ◌++◌}
use Rattle.std.proofs.Common.{length, Some, get_or, refl, sym, ◌∙◌, ap, subst, arith, All, if◌then◌else◌}
use Rattle.std.specs.Prelude.{slice_get, unwrap_or, count_by, AllPairs, nat_le}
use Rattle.std.proofs.lemmas.Bool.{cases_Bool, leb-true, le-leb, both_ways}
use Rattle.std.proofs.lemmas.List.Sums.{count_by-le-length, sum_by-append, sum_by-cons}
use Rattle.std.proofs.lemmas.Option.{slice_get_within, slice_get-get_or, get_or_from_slice_get}
use Rattle.rec_channel.specs.History.{Version, IsHistory, InForce, version_at}

abbrev pub has_begun : ℕ → Version → Bool
has_begun number v = nat_le v.mark number

abbrev Rises : List Version → Type 0
Rises history = AllPairs (λ (v w : Version). v.mark ≤ w.mark) history

counted_one : (number : ℕ) (v : Version) (vs : List Version) → has_begun number v ≡ true
    → count_by (has_begun number) (v ∷ vs) ≡ 1 + count_by (has_begun number) vs
counted_one number v vs so = sum_by-cons (λ x. if has_begun number x then 1 else 0) v vs ∙ rw so refl

counted_none : (number : ℕ) (v : Version) (vs : List Version) → has_begun number v ≡ false
    → count_by (has_begun number) (v ∷ vs) ≡ count_by (has_begun number) vs
counted_none number v vs not_so = sum_by-cons (λ x. if has_begun number x then 1 else 0) v vs ∙ rw not_so (omega arith)

none_counted : (number : ℕ) (vs : List Version) → ((k : ℕ) (w : Version) → slice_get vs k ≡ Some w → has_begun number w ≡ false)
    → count_by (has_begun number) vs ≡ 0
none_counted number [] none = refl
none_counted number (v ∷ vs) none = counted_none number v vs (none 0 v refl) ∙ none_counted number vs (λ k. none (suc k))

rest_rises : (v : Version) (vs : List Version) → Rises (v ∷ vs) → Rises vs
rest_rises v vs rises = λ i j d before within. rises (suc i) (suc j) d (omega (arith, before)) (omega (arith, within))

first_least : (v : Version) (vs : List Version) → Rises (v ∷ vs) → (k : ℕ) (w : Version) → slice_get vs k ≡ Some w → v.mark ≤ w.mark
first_least v vs rises k w is =
    let within = slice_get_within vs k w is in
    subst (λ (x : Version). v.mark ≤ x.mark) (get_or_from_slice_get vs k w w is) (rises 0 (suc k) w (omega arith) (omega (arith, within)))

not_begun : (v : Version) (vs : List Version) (number : ℕ) → Rises (v ∷ vs) → has_begun number v ≡ false → (k : ℕ) (w : Version) → slice_get vs k ≡ Some w
    → (has_begun number w ≡ true) ⊎ (has_begun number w ≡ false) → has_begun number w ≡ false
not_begun v vs number rises not k w is (inr not_so) = not_so
not_begun v vs number rises not k w is (inl so) =
    let least = first_least v vs rises k w is in
    absurd (both_ways _ not (le-leb v.mark number (let begun = leb-true w.mark number so in omega (arith, least, begun))))

same_version : (v w : Version) → Some v ≡ Some w → v ≡ w
same_version v w e = ap (λ o. unwrap_or o v) e

begun_of : (v : Version) (vs : List Version) (number : ℕ) → Rises (v ∷ vs)
    → ((k : ℕ) (w : Version) → slice_get vs k ≡ Some w → (w.mark ≤ number → k < count_by (has_begun number) vs)
    × (k < count_by (has_begun number) vs → w.mark ≤ number))
    → (has_begun number v ≡ true) ⊎ (has_begun number v ≡ false) → (k : ℕ) (w : Version) → slice_get (v ∷ vs) k ≡ Some w
    → (w.mark ≤ number → k < count_by (has_begun number) (v ∷ vs)) × (k < count_by (has_begun number) (v ∷ vs) → w.mark ≤ number)
begun_of v vs number rises more (inl so) zero w is =
    let same = same_version v w is in
    let count = counted_one number v vs so in
    (λ _. omega (arith, count), λ _. subst (λ (x : Version). x.mark ≤ number) same (leb-true v.mark number so))
begun_of v vs number rises more (inl so) (suc k) w is =
    let later = more k w is in
    let count = counted_one number v vs so in
    (λ begun. (let h = later.0 begun in omega (arith, h, count)), λ below. later.1 (omega (arith, below, count)))
begun_of v vs number rises more (inr not_so) zero w is =
    let none = none_counted number vs (λ j x stands. not_begun v vs number rises not_so j x stands (cases_Bool (has_begun number x))) in
    let count = counted_none number v vs not_so in
    let same = same_version v w is in (
      λ begun. absurd (both_ways _ not_so (le-leb v.mark number (subst (λ (x : Version). x.mark ≤ number) (sym same) begun))),
      λ below. absurd (omega (arith, below, count, none)),
    )
begun_of v vs number rises more (inr not_so) (suc k) w is =
    let none = none_counted number vs (λ j x stands. not_begun v vs number rises not_so j x stands (cases_Bool (has_begun number x))) in
    let count = counted_none number v vs not_so in
    let late = not_begun v vs number rises not_so k w is (cases_Bool (has_begun number w)) in (
      λ begun. absurd (both_ways _ late (le-leb w.mark number begun)),
      λ below. absurd (omega (arith, below, count, none)),
    )

-- a version has begun exactly if its index is below the number of those that have
pub begun_first : (history : List Version) (number : ℕ) → Rises history → (k : ℕ) (w : Version) → slice_get history k ≡ Some w
    → (w.mark ≤ number → k < count_by (has_begun number) history) × (k < count_by (has_begun number) history → w.mark ≤ number)
begun_first [] number rises k w is = cc
begun_first (v ∷ vs) number rises k w is = begun_of v vs number rises (begun_first vs number (rest_rises v vs rises)) (cases_Bool (has_begun number v)) k w is

some_begun : (offered : ℕ) (history : List Version) (number : ℕ) → IsHistory offered history → 0 < count_by (has_begun number) history
some_begun offered [] number h = absurd (let e = h.some in omega (arith, e))
some_begun offered (v ∷ vs) number h = (begun_first (v ∷ vs) number h.rise 0 v refl).0 (let e = h.first v refl in omega (arith, e))

pub counted_is_in_force : (offered : ℕ) (history : List Version) (number : ℕ) → IsHistory offered history → InForce history number (version_at history number)
counted_is_in_force offered history number h =
    let v : Version = record { program = []; mark = 0 } in
    let count = count_by (has_begun number) history in
    let some = some_begun offered history number h in
    let most = count_by-le-length (has_begun number) history in
    let last : count - 1 < length history = omega (arith, some, most) in
    let stands = slice_get-get_or history (count - 1) v last in
    record {
      entry = get_or history (count - 1) v;
      stands = stands;
      begun = (begun_first history number h.rise (count - 1) (get_or history (count - 1) v) stands).1 (omega (arith, some));
      last = λ other w is begun. let below = (begun_first history number h.rise other w is).0 begun in omega (arith, below);
    }

late_none : (number : ℕ) (more : List Version) → All (λ (v : Version). number < v.mark) more → (k : ℕ) (w : Version) → slice_get more k ≡ Some w
    → (has_begun number w ≡ true) ⊎ (has_begun number w ≡ false) → has_begun number w ≡ false
late_none number more late k w is (inr not_so) = not_so
late_none number more late k w is (inl so) =
    let begun = leb-true w.mark number so in
    let after : number < w.mark = subst (λ (x : Version). number < x.mark) (get_or_from_slice_get more k w w is) (late k w (slice_get_within more k w is)) in
    absurd (omega (arith, begun, after))

-- versions that begin later don't change the version at a frame
pub later_same : (history more : List Version) (number : ℕ) → All (λ (v : Version). number < v.mark) more
    → version_at (history ++ more) number ≡ version_at history number
later_same history more number late =
    let both = sum_by-append (λ v. if has_begun number v then 1 else 0) history more in
    let none = none_counted number more (λ k w is. late_none number more late k w is (cases_Bool (has_begun number w))) in
    omega (arith, both, none)

stands_in_more : (history more : List Version) (k : ℕ) (w : Version) → slice_get history k ≡ Some w → slice_get (history ++ more) k ≡ Some w
stands_in_more [] more k w is = cc
stands_in_more (v ∷ vs) more zero w is = is
stands_in_more (v ∷ vs) more (suc k) w is = stands_in_more vs more k w is

stands_in_either : (history more : List Version) (k : ℕ) (w : Version) → slice_get (history ++ more) k ≡ Some w
    → (slice_get history k ≡ Some w) ⊎ ((j : ℕ) × (slice_get more j ≡ Some w))
stands_in_either [] more k w is = inr (k, is)
stands_in_either (v ∷ vs) more zero w is = inl is
stands_in_either (v ∷ vs) more (suc k) w is = stands_in_either vs more k w is

begins_late : (number : ℕ) (more : List Version) → All (λ (v : Version). number < v.mark) more → (j : ℕ) (w : Version) → slice_get more j ≡ Some w
    → number < w.mark
begins_late number more late j w is = subst (λ (x : Version). number < x.mark) (get_or_from_slice_get more j w w is) (late j w (slice_get_within more j w is))

-- nor the version in force there
pub later_kept : (history more : List Version) (number version : ℕ) → All (λ (v : Version). number < v.mark) more → InForce history number version
    → InForce (history ++ more) number version
later_kept history more number version late f = record {
  entry = f.entry;
  stands = stands_in_more history more version f.entry f.stands;
  begun = f.begun;
  last = λ other w is begun. elim (stands_in_either history more other w is) as (λ _. other ≤ version) [
    | inl before ↦ f.last other w before begun
    | inr after ↦ absurd (let late_one = begins_late number more late after.0 w after.1 in omega (arith, late_one, begun))
  ];
}

pub later_nothing_else : (history more : List Version) (number version : ℕ) → All (λ (v : Version). number < v.mark) more
    → InForce (history ++ more) number version → InForce history number version
later_nothing_else history more number version late f = record {
  entry = f.entry;
  stands = elim (stands_in_either history more version f.entry f.stands) as (λ _. slice_get history version ≡ Some f.entry) [
    | inl before ↦ before
    | inr after ↦ absurd (let late_one = begins_late number more late after.0 f.entry after.1 in let begun = f.begun in omega (arith, late_one, begun))
  ];
  begun = f.begun;
  last = λ other w is. f.last other w (stands_in_more history more other w is);
}
