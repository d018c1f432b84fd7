-- The stands of channels in their heap: one more, the first, and a first that stands elsewhere.
use Rattle.std.proofs.Common.{ℕ, suc, zero, ◌+◌, ◌≡◌, ◌≢◌, ◌<◌, inl, inr, ◌⊎◌, List, [], ◌∷◌, length, map, get_or, refl, sym, ◌∙◌, ap, subst, arith, All, Some}
use Rattle.std.specs.Prelude.{false, slice_get, slice_set, Contains, IsPermutation, nat_eq, nat_lt}
use Rattle.std.specs.List.{IsDistinct}
use Rattle.std.specs.BinaryHeap.{IsHeap, IsUpperBound}
use Rattle.std.specs.Ordering.{is_lt, nat_cmp, ordering_then}
use Rattle.std.specs.declared.cmp.Ordering.{Ordering}
use Rattle.std.specs.declared.cmp.Ordering.TheVariants.{Less, Equal, Greater}
use Rattle.std.specs.declared.cmp.Reverse.{Reverse}
use Rattle.std.proofs.lemmas.Bool.{true≢false, cases_Bool, eq-eqb}
use Rattle.std.proofs.lemmas.Bool.Decides.{nat_tests}
use Rattle.std.proofs.lemmas.List.Elements.{All-nil, All-cons, All-head, All-tail, All-weaker, All-map, All-contains, All-from_recursion, recursion_from_All}
use Rattle.std.proofs.lemmas.List.Sorted.{All-permutation, Contains-permutation, IsPermutation-map}
use Rattle.std.proofs.lemmas.Map.Keys.{IsDistinct-cons, IsDistinct-head, IsDistinct-IsPermutation}
use Rattle.std.proofs.lemmas.Option.{slice_get_within, same_Some, none-some}
use Rattle.ch11_merge.specs.declared.source.Head.{Head}
use Rattle.ch11_merge.specs.declared.source.Head.TheVariants.{At, Uncounted, End}
use Rattle.ch11_merge.specs.declared.channels.MergedChannel.{MergedChannel}
use Rattle.ch11_merge.specs.declared.waiting.Waiting.{Waiting}
use Rattle.ch11_merge.specs.contracts.waiting.WaitingOrd.TheImpl.{ghosts}
use Rattle.ch11_merge.specs.Merging.{is_ahead}
use Rattle.ch11_merge.specs.Placing.{IsLeastIn}
use Rattle.ch11_merge.specs.Waiting.{reverse_order, index_of, IsStand, AreStands, IsFirstOf, StandsAgain}
use Rattle.ch11_packet.proofs.ChangedLists.{set_there, set_elsewhere, all_from_there}

-- ---- which comes first

-- which head comes first: one with a counter, the lesser counter, and the end last
abbrev head_order : Head → Head → Ordering
head_order (At a) (At b) = nat_cmp a b
head_order (At a) Uncounted = Less
head_order (At a) End = Less
head_order Uncounted (At b) = Greater
head_order Uncounted Uncounted = Equal
head_order Uncounted End = Less
head_order End (At b) = Greater
head_order End Uncounted = Greater
head_order End End = Equal

-- and of equal heads the lesser channel, then the lesser index
abbrev waiting_order : Waiting → Waiting → Ordering
waiting_order a b = ordering_then (head_order a.head b.head)
    (ordering_then (nat_cmp a.channel b.channel) (nat_cmp a.at b.at))

order_is : (a b : Head) (m n i j : ℕ) → ghosts.cmp (record { head = a; channel = m; at = i }) (record { head = b; channel = n; at = j })
    ≡ waiting_order (record { head = a; channel = m; at = i }) (record { head = b; channel = n; at = j })
order_is (At a) (At b) m n i j = refl
order_is (At a) Uncounted m n i j = refl
order_is (At a) End m n i j = refl
order_is Uncounted (At b) m n i j = refl
order_is Uncounted Uncounted m n i j = refl
order_is Uncounted End m n i j = refl
order_is End (At b) m n i j = refl
order_is End Uncounted m n i j = refl
order_is End End m n i j = refl

-- what isn't less doesn't go ahead
not_ahead : (a b : Head) (m n i j : ℕ) → is_lt (waiting_order (record { head = a; channel = m; at = i }) (record { head = b; channel = n; at = j })) ≡ false
    → is_ahead a m b n ≡ false
not_ahead (At a) (At b) m n i j is = grind (arith, nat_tests)
not_ahead (At a) Uncounted m n i j is = absurd (true≢false is)
not_ahead (At a) End m n i j is = absurd (true≢false is)
not_ahead Uncounted (At b) m n i j is = refl
not_ahead Uncounted Uncounted m n i j is = grind (arith, nat_tests)
not_ahead Uncounted End m n i j is = absurd (true≢false is)
not_ahead End (At b) m n i j is = refl
not_ahead End Uncounted m n i j is = refl
not_ahead End End m n i j is = refl

-- ---- elements

from_map : {X Y : Type 0} (f : X → Y) (xs : List X) (y : Y) (k : ℕ) → k < length (map f xs) → get_or (map f xs) k y ≡ y
    → (x : X) × Contains xs x × (f x ≡ y)
from_map f [] y k within is = absurd (omega (arith, within))
from_map f (x ∷ xs) y zero within is = (x, (0, omega arith, refl), is)
from_map f (x ∷ xs) y (suc k) within is =
    let r = from_map f xs y k (omega (arith, within)) is in
    (r.0, (suc r.1.0, omega (arith, r.1.1), r.1.2), r.2)

in_front : {X : Type 0} (x : X) (xs : List X) → Contains (x ∷ xs) x
in_front x xs = (0, omega arith, refl)

behind_front : {X : Type 0} (y : X) (xs : List X) (x : X) → Contains xs x → Contains (y ∷ xs) x
behind_front y xs x c = (suc c.0, omega (arith, c.1), c.2)

there_contains : {X : Type 0} (xs : List X) (x : X) → slice_get xs 0 ≡ Some x → Contains xs x
there_contains [] x is = absurd (none-some x is)
there_contains (y ∷ ys) x is = (0, omega arith, same_Some y x is)

-- ---- one more stand

cases_last : (k at : ℕ) → at < k + 1 → (at ≡ k) ⊎ (at < k)
cases_last k at less = elim (cases_Bool (nat_lt at k)) as (λ _. (at ≡ k) ⊎ (at < k)) [
  | inl on ↦ inr (grind (arith, nat_tests))
  | inr off ↦ inl (grind (arith, nat_tests))
]

flips : (x y : ℕ) → nat_eq x y ≡ nat_eq y x
flips x y = grind (arith, nat_tests)

apart_after : (k : ℕ) (heap : List (Reverse Waiting)) → All (λ stand. stand.0.at < k) heap → All (λ at. nat_eq k at ≡ false) (map index_of heap)
apart_after k heap below = All-map (λ at. nat_eq k at ≡ false) index_of heap
    (All-weaker (λ stand. stand.0.at < k) (λ stand. nat_eq k stand.0.at ≡ false) (λ stand less. grind (arith, nat_tests)) heap below)

pub no_stands : {S : Type 0} (stands : S → Head) (channels : List (MergedChannel S)) → IsHeap reverse_order [] → AreStands stands channels 0 []
unfolding IsDistinct
no_stands stands channels ordered = record {
  ordered = ordered;
  right = All-nil (IsStand stands channels);
  below = All-nil (λ stand. stand.0.at < 0);
  each = λ at less. absurd (omega (arith, less));
  apart = tt;
}

-- what stands in a heap stands in one of the same stands
each_moved : (k : ℕ) (heap new : List (Reverse Waiting)) → IsPermutation heap new → ((at : ℕ) → at < k → Contains (map index_of heap) at)
    → (at : ℕ) → at < k → Contains (map index_of new) at
each_moved k heap new same each at less =
    Contains-permutation (map index_of heap) (map index_of new) at (IsPermutation-map index_of heap new same) (each at less)

apart_moved : (heap new : List (Reverse Waiting)) → IsPermutation heap new → IsDistinct nat_eq (map index_of heap) → IsDistinct nat_eq (map index_of new)
apart_moved heap new same = IsDistinct-IsPermutation nat_eq flips (map index_of heap) (map index_of new) (IsPermutation-map index_of heap new same)

pub one_more_stand : {S : Type 0} (stands : S → Head) (channels : List (MergedChannel S)) (k : ℕ) (stand : Reverse Waiting) (heap new : List (Reverse Waiting))
    → AreStands stands channels k heap → IsStand stands channels stand → stand.0.at ≡ k → IsPermutation (stand ∷ heap) new → IsHeap reverse_order new
    → AreStands stands channels (k + 1) new
one_more_stand stands channels k stand heap new so is at_is same ordered = record {
  ordered = ordered;
  right = All-permutation (IsStand stands channels) (stand ∷ heap) new same (All-cons (IsStand stands channels) stand heap is so.right);
  below = All-permutation (λ s. s.0.at < k + 1) (stand ∷ heap) new same (All-cons (λ s. s.0.at < k + 1) stand heap (omega (arith, at_is))
      (All-weaker (λ s. s.0.at < k) (λ s. s.0.at < k + 1) (λ s less. omega (arith, less)) heap so.below));
  each = each_moved (k + 1) (stand ∷ heap) new same (λ at less. elim (cases_last k at less) as (λ _. Contains (map index_of (stand ∷ heap)) at) [
    | inl last ↦ subst (λ (i : ℕ). Contains (map index_of (stand ∷ heap)) i) (at_is ∙ sym last) (in_front (index_of stand) (map index_of heap))
    | inr early ↦ behind_front (index_of stand) (map index_of heap) at (so.each at early)
  ]);
  apart = apart_moved (stand ∷ heap) new same (IsDistinct-cons nat_eq stand.0.at (map index_of heap)
      (recursion_from_All (λ at. nat_eq stand.0.at at ≡ false) (map index_of heap)
      (rw at_is (apart_after k heap so.below))) so.apart);
}

-- ---- the first stand

-- the stand of a channel, in the heap
record StandOf {S : Type 0} (stands : S → Head) (heap : List (Reverse Waiting)) (c : MergedChannel S) : Type 0 where
  pub stand : Reverse Waiting
  pub contained : Contains heap stand
  pub head_is : stand.0.head ≡ stands c.source
  pub channel_is : stand.0.channel ≡ c.channel

stand_of : {S : Type 0} (stands : S → Head) (channels : List (MergedChannel S)) (heap : List (Reverse Waiting)) (at : ℕ) (c : MergedChannel S)
    → AreStands stands channels (length channels) heap → slice_get channels at ≡ Some c → StandOf stands heap c
stand_of {S = S} stands channels heap at c so there =
    let e = so.each at (slice_get_within channels at c there) in
    let m = from_map index_of heap at e.0 e.1 e.2 in
    let r = All-contains (IsStand stands channels) heap m.0 so.right m.1 in
    let same : r.of ≡ c = same_Some r.of c (sym r.there ∙ (ap (slice_get channels) m.2 ∙ there)) in
    record {
      stand = m.0;
      contained = m.1;
      head_is = r.head_is ∙ ap (λ (d : MergedChannel S). stands d.source) same;
      channel_is = r.channel_is ∙ ap (λ (d : MergedChannel S). d.channel) same;
    }

-- no channel goes ahead of the first stand
none_ahead : {S : Type 0} (stands : S → Head) (channels : List (MergedChannel S)) (heap : List (Reverse Waiting)) (first : Reverse Waiting)
    → AreStands stands channels (length channels) heap → IsUpperBound reverse_order first heap
    → All (λ c. is_ahead (stands c.source) c.channel first.0.head first.0.channel ≡ false) channels
none_ahead stands channels heap first so least =
    all_from_there (λ c. is_ahead (stands c.source) c.channel first.0.head first.0.channel ≡ false) channels (λ at c there.
    let s = stand_of stands channels heap at c so there in
    let n = not_ahead s.stand.0.head first.0.head s.stand.0.channel first.0.channel s.stand.0.at first.0.at
    (subst (λ (o : Ordering). is_lt o ≡ false) (order_is s.stand.0.head first.0.head s.stand.0.channel first.0.channel s.stand.0.at first.0.at)
    (All-contains (λ r. is_lt (reverse_order first r) ≡ false) heap s.stand
    (All-from_recursion (λ r. is_lt (reverse_order first r) ≡ false) heap least) s.contained)) in
    subst (λ (id : ℕ). is_ahead (stands c.source) id first.0.head first.0.channel ≡ false) s.channel_is
    (subst (λ (h : Head). is_ahead h s.stand.0.channel first.0.head first.0.channel ≡ false) s.head_is n))

only_end : (a : Head) (m n : ℕ) → is_ahead a m End n ≡ false → a ≡ End
only_end End m n p = refl
only_end Uncounted m n p = absurd (true≢false p)
only_end (At a) m n p = absurd (true≢false p)

pub all_at_end : {S : Type 0} (stands : S → Head) (channels : List (MergedChannel S)) (heap : List (Reverse Waiting)) (first : Reverse Waiting)
    → AreStands stands channels (length channels) heap → IsUpperBound reverse_order first heap → first.0.head ≡ End
    → All (λ c. stands c.source ≡ End) channels
all_at_end stands channels heap first so least is =
    All-weaker (λ c. is_ahead (stands c.source) c.channel first.0.head first.0.channel ≡ false) (λ c. stands c.source ≡ End)
    (λ c behind. only_end (stands c.source) c.channel first.0.channel
    (subst (λ (h : Head). is_ahead (stands c.source) c.channel h first.0.channel ≡ false) is behind))
    channels (none_ahead stands channels heap first so least)

pub none_at_all : {S : Type 0} (stands : S → Head) (channels : List (MergedChannel S)) (heap : List (Reverse Waiting))
    → AreStands stands channels (length channels) heap → length heap ≡ 0 → All (λ c. stands c.source ≡ End) channels
none_at_all stands channels [] so none = all_from_there (λ c. stands c.source ≡ End) channels (λ at c there.
    let e = so.each at (slice_get_within channels at c there) in
    absurd (omega (arith, e.1)))
none_at_all stands channels (s ∷ heap) so none = absurd (omega (arith, none))

-- the channel of the first stand is the least
pub record FirstStand {S : Type 0} (stands : S → Head) (channels : List (MergedChannel S)) (heap : List (Reverse Waiting)) (at : ℕ) : Type 0 where
  pub least : IsLeastIn (λ c. stands c.source) (λ c. c.channel) channels at
  pub within : at < length channels
  pub first : IsFirstOf heap at

pub first_stand : {S : Type 0} (stands : S → Head) (channels : List (MergedChannel S)) (heap : List (Reverse Waiting)) (first : Reverse Waiting)
    → AreStands stands channels (length channels) heap → IsUpperBound reverse_order first heap → slice_get heap 0 ≡ Some first → first.0.head ≢ End
    → FirstStand stands channels heap first.0.at
first_stand {S = S} stands channels heap first so least there some =
    let r = All-contains (IsStand stands channels) heap first so.right (there_contains heap first there) in
    record {
      least = record {
        least = r.of;
        there = r.there;
        some = λ none. some (r.head_is ∙ none);
        ahead = rw (← r.head_is, ← r.channel_is) (none_ahead stands channels heap first so least);
      };
      within = slice_get_within channels first.0.at r.of r.there;
      first = record { first = first; there = there; is = refl };
    }

-- ---- a first stand that stands elsewhere

-- of a list with these elements, in another order, what its first says
top_of : {X : Type 0} (heap : List X) (a b : X) → slice_get heap 0 ≡ Some a → slice_get heap 0 ≡ Some b → a ≡ b
top_of heap a b p q = same_Some a b (sym p ∙ q)

other_stands : {S : Type 0} (stands : S → Head) (channels : List (MergedChannel S)) (at : ℕ) (d : MergedChannel S) (others : List (Reverse Waiting))
    → All (λ i. nat_eq at i ≡ false) (map index_of others) → All (IsStand stands channels) others
    → All (IsStand stands (slice_set channels at d)) others
other_stands stands channels at d [] apart right = All-nil (IsStand stands (slice_set channels at d))
other_stands stands channels at d (s ∷ others) apart right =
    let r = All-head (IsStand stands channels) s others right in
    All-cons (IsStand stands (slice_set channels at d)) s others
    (record {
      of = r.of;
      there = set_elsewhere channels at s.0.at r.of d r.there (λ e. true≢false (sym (eq-eqb at s.0.at (sym e))
          ∙ All-head (λ i. nat_eq at i ≡ false) s.0.at (map index_of others) apart));
      head_is = r.head_is;
      channel_is = r.channel_is;
    })
    (other_stands stands channels at d others (All-tail (λ i. nat_eq at i ≡ false) s.0.at (map index_of others) apart)
    (All-tail (IsStand stands channels) s others right))

length_set : {X : Type 0} (xs : List X) (k : ℕ) (x : X) → length (slice_set xs k x) ≡ length xs
length_set [] k x = refl
length_set (y ∷ ys) zero x = refl
length_set (y ∷ ys) (suc k) x = ap suc (length_set ys k x)

pub stands_again : {S : Type 0} (stands : S → Head) (channels : List (MergedChannel S)) (heap new : List (Reverse Waiting)) (at : ℕ) (head : Head)
    (d : MergedChannel S) (c : MergedChannel S)
    → AreStands stands channels (length channels) heap → IsFirstOf heap at → StandsAgain head heap new → slice_get channels at ≡ Some c
    → head ≡ stands d.source → d.channel ≡ c.channel
    → AreStands stands (slice_set channels at d) (length (slice_set channels at d)) new
stands_again {S = S} stands channels heap new at head d c so first again there head_is same =
    let set = slice_set channels at d in
    let f_is : first.first ≡ again.first = top_of heap first.first again.first first.there again.there in
    let at_is : again.first.0.at ≡ at = ap index_of (sym f_is) ∙ first.is in
    let next_at : again.next.0.at ≡ at = again.at_is ∙ at_is in
    let n_is : length set ≡ length channels = length_set channels at d in
    let right = All-permutation (IsStand stands channels) heap (again.first ∷ again.others) again.taken so.right in
    let f = All-head (IsStand stands channels) again.first again.others right in
    let of_is : f.of ≡ c = same_Some f.of c (sym f.there ∙ (ap (slice_get channels) at_is ∙ there)) in
    let apart = apart_moved heap (again.first ∷ again.others) again.taken so.apart in
    let apart_all : All (λ i. nat_eq at i ≡ false) (map index_of again.others) =
    rw (← at_is) (All-from_recursion (λ i. nat_eq again.first.0.at i ≡ false) (map index_of again.others)
    (IsDistinct-head nat_eq again.first.0.at (map index_of again.others) apart)) in
    let below = All-permutation (λ s. s.0.at < length channels) heap (again.first ∷ again.others) again.taken so.below in
    let each = each_moved (length channels) heap (again.first ∷ again.others) again.taken so.each in
    let indices : map index_of (again.next ∷ again.others) ≡ map index_of (again.first ∷ again.others) =
    ap (λ (i : ℕ). i ∷ map index_of again.others) again.at_is in
    record {
      ordered = again.ordered so.ordered;
      right = All-permutation (IsStand stands set) (again.next ∷ again.others) new again.given (All-cons (IsStand stands set) again.next again.others
          (record {
            of = d;
            there = ap (slice_get set) next_at ∙ set_there channels at c d there;
            head_is = again.head_is ∙ head_is;
            channel_is = again.channel_is ∙ (f.channel_is ∙ (ap (λ (e : MergedChannel S). e.channel) of_is ∙ sym same));
          })
          (other_stands stands channels at d again.others apart_all (All-tail (IsStand stands channels) again.first again.others right)));
      below = rw n_is (All-permutation (λ s. s.0.at < length channels) (again.next ∷ again.others) new again.given
          (All-cons (λ s. s.0.at < length channels) again.next again.others
          (rw again.at_is (All-head (λ s. s.0.at < length channels) again.first again.others below))
          (All-tail (λ s. s.0.at < length channels) again.first again.others below)));
      each = rw n_is (each_moved (length channels) (again.next ∷ again.others) new again.given
          (λ i less. subst (λ (is : List ℕ). Contains is i) (sym indices) (each i less)));
      apart = apart_moved (again.next ∷ again.others) new again.given
          (subst (λ (is : List ℕ). IsDistinct nat_eq is) (sym indices) apart);
    }
