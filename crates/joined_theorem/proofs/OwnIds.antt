-- An ID of a file is that of one channel of one run.
use Rattle.std.proofs.Common.{ℕ, zero, suc, ◌≡◌, ◌≢◌, ◌+◌, ◌<◌, List, [], ◌∷◌, length, Option, None, Some, Bool, true, false, inl, inr, Contains, cond}
use Rattle.std.proofs.Common.{refl, sym, subst, ap, ◌∙◌, arith, eq-eqb}
use Rattle.std.specs.Prelude.{◌==◌, ◌&&◌, ◌⊎◌, AllPairs, slice_index_or}
use Rattle.std.specs.List.{AllByRecursion, filter, find}
use Rattle.std.proofs.lemmas.Bool.{cases_Bool, cases_order, eqb-true}
use Rattle.std.proofs.lemmas.List.{get_or_default}
use Rattle.std.proofs.lemmas.List.Kept.{AllPairs-filter}
use Rattle.ch11_channels.specs.declared.channels.FileChannel.{FileChannel}
use Rattle.ch11_channels.specs.declared.channels.RunChannel.{RunChannel}
use Rattle.ch11_channels.specs.GivenIds.{is_given, is_owned_by}
use Rattle.rec_joined.specs.declared.joined.Part.{Part}
use Rattle.rec_joined.specs.Moving.{found_id, id_given}
use Rattle.joined_theorem.specs.RunMoves.{HaveChannelsOfRuns, IsOwnOf}

-- ---- what is in a list

IsIn : {X : Type 0} → List X → X → Type 0
IsIn [] x = ⊥
IsIn (y ∷ ys) x = (y ≡ x) ⊎ IsIn ys x

some_same : {X : Type 0} (x y : X) → Some x ≡ Some y → x ≡ y
some_same x y is = cc

none_some : {X : Type 0} (x : X) → ◌≡◌ {A = Option X} None (Some x) → ⊥
none_some x is = cc

found : {X : Type 0} (p : X → Bool) (xs : List X) (x : X) → find p xs ≡ Some x → IsIn xs x × (p x ≡ true)
unfolding IsIn
found p [] x is = absurd (none_some x is)
found p (y ∷ ys) x is = elim (cases_Bool (p y)) as (λ _. ((y ≡ x) ⊎ IsIn ys x) × (p x ≡ true)) [
  | inl passes ↦
      let same = some_same y x (sym (ap (λ b. cond b (Some y) (find p ys)) passes) ∙ is) in (inl same, ap p (sym same) ∙ passes)
  | inr fails ↦
      let later = found p ys x (sym (ap (λ b. cond b (Some y) (find p ys)) fails) ∙ is) in (inr later.0, later.1)
]

-- what passes is found, or something ahead of it
some_found : {X : Type 0} (p : X → Bool) (xs : List X) (x : X) → IsIn xs x → p x ≡ true → (y : X) × (find p xs ≡ Some y)
unfolding IsIn
some_found p [] x has passes = absurd has
some_found {X = X} p (y ∷ ys) x (inl same) passes =
    (y, ap (λ b. cond b (Some y) (find p ys)) (ap p same ∙ passes))
some_found {X = X} p (y ∷ ys) x (inr later) passes = elim (cases_Bool (p y)) as (λ _. (z : X) × (cond (p y) (Some y) (find p ys) ≡ Some z)) [
  | inl here ↦ (y, ap (λ b. cond b (Some y) (find p ys)) here)
  | inr other ↦ let rest = some_found p ys x later passes in (rest.0, ap (λ b. cond b (Some y) (find p ys)) other ∙ rest.1)
]

filtered : {X : Type 0} (q : X → Bool) (xs : List X) (x : X) → IsIn (filter q xs) x → IsIn xs x × (q x ≡ true)
unfolding IsIn
filtered q [] x has = absurd has
filtered q (y ∷ ys) x has = elim (cases_Bool (q y)) as (λ _. ((y ≡ x) ⊎ IsIn ys x) × (q x ≡ true)) [
  | inl passes ↦ elim (subst (λ b. IsIn (cond b (y ∷ filter q ys) (filter q ys)) x) passes has) as (λ _. ((y ≡ x) ⊎ IsIn ys x) × (q x ≡ true)) [
    | inl same ↦ (inl same, ap q (sym same) ∙ passes)
    | inr later ↦ let rest = filtered q ys x later in (inr rest.0, rest.1)
  ]
  | inr fails ↦ let rest = filtered q ys x (subst (λ b. IsIn (cond b (y ∷ filter q ys) (filter q ys)) x) fails has) in (inr rest.0, rest.1)
]

kept : {X : Type 0} (q : X → Bool) (xs : List X) (x : X) → IsIn xs x → q x ≡ true → IsIn (filter q xs) x
unfolding IsIn
kept q [] x has passes = absurd has
kept q (y ∷ ys) x (inl same) passes =
    subst (λ b. IsIn (cond b (y ∷ filter q ys) (filter q ys)) x) (sym (ap q same ∙ passes)) (inl same)
kept q (y ∷ ys) x (inr later) passes = elim (cases_Bool (q y)) as (λ _. IsIn (cond (q y) (y ∷ filter q ys) (filter q ys)) x) [
  | inl here ↦ subst (λ b. IsIn (cond b (y ∷ filter q ys) (filter q ys)) x) (sym here) (inr (kept q ys x later passes))
  | inr other ↦ subst (λ b. IsIn (cond b (y ∷ filter q ys) (filter q ys)) x) (sym other) (kept q ys x later passes)
]

at_index : {X : Type 0} (xs : List X) (x : X) → IsIn xs x → Contains xs x
unfolding IsIn
at_index [] x has = absurd has
at_index (y ∷ ys) x (inl same) = (zero, omega arith, same)
at_index (y ∷ ys) x (inr later) = let rest = at_index ys x later in let within = rest.1 in (suc rest.0, omega (arith, within), rest.2)

-- no two differ by what f tells
one_with : {X Y : Type 0} (f : X → Y) (xs : List X) (x y : X) → AllPairs (λ (a b : X). f a ≢ f b) xs → IsIn xs x → IsIn xs y → f x ≡ f y → x ≡ y
one_with f xs x y apart has its same =
    let one = at_index xs x has in
    let other = at_index xs y its in
    elim (cases_order one.0 other.0) as (λ _. x ≡ y) [
      | inl at ↦ sym one.2 ∙ ap (λ k. slice_index_or xs k x) at ∙ get_or_default xs other.0 x y other.1 ∙ other.2
      | inr (inl before) ↦
          absurd (apart one.0 other.0 x before other.1 (ap f one.2 ∙ same ∙ sym (ap f (get_or_default xs other.0 x y other.1 ∙ other.2))))
      | inr (inr after) ↦
          absurd (apart other.0 one.0 y after one.1 (ap f other.2 ∙ sym same ∙ sym (ap f (get_or_default xs one.0 y x one.1 ∙ one.2))))
    ]

-- ---- channels of a file

and_both : (a b : Bool) → (a && b) ≡ true → (a ≡ true) × (b ≡ true)
and_both true b is = (refl, is)
and_both false b is = cc

-- a channel of the file with an ID, whose own this is
record HasGiven (channels : List FileChannel) (run channel id : ℕ) : Type 0 where
  pub one : FileChannel
  pub there : IsIn channels one
  pub id_is : one.id ≡ id
  pub run_is : one.of.run ≡ run
  pub channel_is : one.of.channel ≡ channel

given_by : (channels : List FileChannel) (run channel id : ℕ) → 0 < id → id_given channels run channel ≡ id → HasGiven channels run channel id
given_by channels run channel id some is = here (find (is_owned_by (record { run = run; channel = channel })) channels) refl is
  where
    here : (one : Option FileChannel) → find (is_owned_by (record { run = run; channel = channel })) channels ≡ one → found_id one ≡ id
        → HasGiven channels run channel id
    here None finds zero_is = absurd (omega (arith, some, zero_is))
    here (Some one) finds id_is =
        let it = found (is_owned_by (record { run = run; channel = channel })) channels one finds in
        let both = and_both (one.of.run == run) (one.of.channel == channel) it.1 in
        record {
          one = one;
          there = it.0;
          id_is = id_is;
          run_is = eqb-true one.of.run run both.0;
          channel_is = eqb-true one.of.channel channel both.1;
        }

run_channel : (run channel : ℕ) → RunChannel
run_channel run channel = record { run = run; channel = channel }

same_of : (a b : RunChannel) → a.run ≡ b.run → a.channel ≡ b.channel → a ≡ b
unfolding run_channel
same_of a b r c = ap (λ n. run_channel n a.channel) r ∙ ap (run_channel b.run) c

-- one of its own run has its ID
given_to : (channels : List FileChannel) (one : FileChannel) → AllPairs (λ (a b : FileChannel). a.of ≢ b.of) channels → IsIn channels one
    → id_given channels one.of.run one.of.channel ≡ one.id
given_to channels one apart there =
    let owner = is_owned_by (record { run = one.of.run; channel = one.of.channel }) in
    let passes : owner one ≡ true =
    ap (λ b. b && (one.of.channel == one.of.channel)) (eq-eqb one.of.run one.of.run refl) ∙ eq-eqb one.of.channel one.of.channel refl in
    let finds = some_found owner channels one there passes in
    let its = found owner channels finds.0 finds.1 in
    let both = and_both (finds.0.of.run == one.of.run) (finds.0.of.channel == one.of.channel) its.1 in
    let same : finds.0 ≡ one = one_with (λ (c : FileChannel). c.of) channels finds.0 one apart its.0 there
    (same_of finds.0.of one.of (eqb-true finds.0.of.run one.of.run both.0) (eqb-true finds.0.of.channel one.of.channel both.1)) in
    ap found_id finds.1 ∙ ap (λ (c : FileChannel). c.id) same

-- ---- recordings

apart_filtered : (q : FileChannel → Bool) (channels : List FileChannel) → AllPairs (λ (a b : FileChannel). a.of ≢ b.of) channels
    → AllPairs (λ (a b : FileChannel). a.of ≢ b.of) (filter q channels)
apart_filtered q channels apart = AllPairs-filter (λ (a b : FileChannel). a.of ≢ b.of) q channels apart

module _ {P : Type 0} (channels : List FileChannel) (ids : AllPairs (λ (a b : FileChannel). a.id ≢ b.id) channels)
    (owners : AllPairs (λ (a b : FileChannel). a.of ≢ b.of) channels) (id : ℕ) (some : 0 < id) where
  -- that of a channel of the file
  own_of : (one : FileChannel) → IsIn channels one → one.id ≡ id → (part : Part P)
      → part.moves.channels.items ≡ filter (λ (c : FileChannel). c.of.run == part.moves.run) channels → IsOwnOf id one.of.run one.of.channel part
  own_of one there has part are = record {
    own = λ run_is. record {
      given =
          let its = kept (λ (c : FileChannel). c.of.run == part.moves.run) channels one there (eq-eqb one.of.run part.moves.run (sym run_is)) in
          ap (λ l. id_given l part.moves.run one.of.channel) are
          ∙ ap (λ r. id_given (filter (λ (c : FileChannel). c.of.run == part.moves.run) channels) r one.of.channel) run_is
          ∙ given_to (filter (λ (c : FileChannel). c.of.run == part.moves.run) channels) one
          (apart_filtered (λ (c : FileChannel). c.of.run == part.moves.run) channels owners) its
          ∙ has;
      only = λ other given.
          let it = given_of other given in
          let same = one_with (λ (c : FileChannel). c.id) channels it.one one ids (filtered (λ (c : FileChannel). c.of.run == part.moves.run) channels it.one
          it.there).0 there (it.id_is ∙ sym has) in
          sym it.channel_is ∙ ap (λ (c : FileChannel). c.of.channel) same;
    };
    none = λ run_is other given.
        let it = given_of other given in
        let same = one_with (λ (c : FileChannel). c.id) channels it.one one ids (filtered (λ (c : FileChannel). c.of.run == part.moves.run) channels it.one
        it.there).0 there (it.id_is ∙ sym has) in
        run_is (sym it.run_is ∙ ap (λ (c : FileChannel). c.of.run) same);
  }
    where
      given_of : (other : ℕ) → id_given part.moves.channels.items part.moves.run other ≡ id
          → HasGiven (filter (λ (c : FileChannel). c.of.run == part.moves.run) channels) part.moves.run other id
      given_of other given =
          given_by (filter (λ (c : FileChannel). c.of.run == part.moves.run) channels) part.moves.run other id some
          (sym (ap (λ l. id_given l part.moves.run other) are) ∙ given)

  all_own : (one : FileChannel) → IsIn channels one → one.id ≡ id → (parts : List (Part P)) → HaveChannelsOfRuns channels parts
      → AllByRecursion (IsOwnOf id one.of.run one.of.channel) parts
  all_own one there has [] have = tt
  all_own one there has (part ∷ parts) have = (own_of one there has part have.0, all_own one there has parts have.1)

  -- a run that no recording is of
  no_run : List (Part P) → ℕ
  no_run [] = 0
  no_run (part ∷ parts) = part.moves.run + 1 + no_run parts

  nobodys : (find (is_given id) channels ≡ None) → (part : Part P)
      → part.moves.channels.items ≡ filter (λ (c : FileChannel). c.of.run == part.moves.run) channels → (run : ℕ) → part.moves.run < run
      → IsOwnOf id run 0 part
  nobodys finds part are run less = record {
    own = λ same. absurd (omega (arith, less, same));
    none = λ apart other given.
        let it = given_by (filter (λ (c : FileChannel). c.of.run == part.moves.run) channels) part.moves.run other id some
        (sym (ap (λ l. id_given l part.moves.run other) are) ∙ given) in
        let there = (filtered (λ (c : FileChannel). c.of.run == part.moves.run) channels it.one it.there).0 in
        let again = some_found (is_given id) channels it.one there (eq-eqb it.one.id id it.id_is) in
        none_some again.0 (sym finds ∙ again.1);
  }

  none_own : (find (is_given id) channels ≡ None) → (run : ℕ) (parts : List (Part P)) → HaveChannelsOfRuns channels parts → no_run parts < run + 1
      → AllByRecursion (IsOwnOf id run 0) parts
  unfolding no_run
  none_own finds run [] have less = tt
  none_own finds run (part ∷ parts) have less =
      (nobodys finds part have.0 run (omega (arith, less)), none_own finds run parts have.1 (omega (arith, less)))

  pub own_id : (parts : List (Part P)) → HaveChannelsOfRuns channels parts → (run : ℕ) × (channel : ℕ) × AllByRecursion (IsOwnOf id run channel) parts
  own_id parts have = here (find (is_given id) channels) refl
    where
      here : (one : Option FileChannel) → find (is_given id) channels ≡ one → (run : ℕ) × (channel : ℕ) × AllByRecursion (IsOwnOf id run channel) parts
      here None finds = (no_run parts, 0, none_own finds (no_run parts) parts have (omega arith))
      here (Some one) finds =
          let it = found (is_given id) channels one finds in
          (one.of.run, one.of.channel, all_own one it.0 (eqb-true one.id id it.1) parts have)
