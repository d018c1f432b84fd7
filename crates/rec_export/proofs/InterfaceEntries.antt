-- The interfaces that the entries of a map stand for.
use Rattle.std.proofs.Common.{◌≡◌, ℕ, ◌+◌, ◌⊎◌, inl, inr, Bool, true, false, not, cond, List, [], ◌∷◌, length, position, Option, None, Some}
use Rattle.std.proofs.Common.{is_some, refl, sym, ap, ◌∙◌, true≢false, arith}
use Rattle.std.specs.Prelude.{◌==◌, nat_eq, nat_lt}
use Rattle.std.specs.Option.{option_and_then, option_map_or}
use Rattle.std.specs.List.{position_or_len}
use Rattle.std.specs.Map.{keys_of, lookup}
use Rattle.std.proofs.lemmas.Bool.{eq-eqb, ne_eqb, eqb-true, ltb-false, cases_eq}
use Rattle.std.proofs.lemmas.List.Sums.{prefix_len-le-length}
use Rattle.indexmap.specs.IndexMap.{insert_entry}
use Rattle.rec_export.specs.declared.version.LaterVersions.{LaterVersions}
use Rattle.rec_export.specs.Interfaces.{Interface, interfaces_of, number_of, later_of, with_interface}

-- equality of numbers, from either side
same_from_either_side : (one other : ℕ) → nat_eq one other ≡ (other == one)
same_from_either_side one other = by (cases_eq one other)
  where
    by : (one ≡ other) ⊎ (one ≡ other → ⊥) → nat_eq one other ≡ (other == one)
    by (inl is) = eq-eqb one other is ∙ sym (eq-eqb other one (sym is))
    by (inr isnt) = ne_eqb one other isnt ∙ sym (ne_eqb other one (λ is. isnt (sym is)))

-- a channel's interface has the number of its entry
pub number_is : (channel : ℕ) (entries : List (ℕ × Option LaterVersions))
    → position_or_len (nat_eq channel) (keys_of entries) ≡ number_of channel (interfaces_of entries)
number_is channel [] = refl
number_is channel (entry ∷ entries) =
    ap (λ b. cond (not b) (1 + position_or_len (nat_eq channel) (keys_of entries)) 0) (same_from_either_side channel entry.0)
    ∙ ap (λ n. cond (not (entry.0 == channel)) (1 + n) 0) (number_is channel entries)

-- the later versions of the first interface, and of one behind it
pub later_first : (channel : ℕ) (first : Interface) (interfaces : List Interface) → (first.channel == channel) ≡ true
    → later_of channel (first ∷ interfaces) ≡ first.later
later_first channel first interfaces is = grind (arith, is)

pub later_behind_first : (channel : ℕ) (first : Interface) (interfaces : List Interface) → (first.channel == channel) ≡ false
    → later_of channel (first ∷ interfaces) ≡ later_of channel interfaces
later_behind_first channel first interfaces isnt = grind (arith, isnt)

-- a channel's interface has the later versions of its entry
pub later_is : (channel : ℕ) (entries : List (ℕ × Option LaterVersions))
    → option_and_then (λ later. later) (lookup (nat_eq channel) entries) ≡ later_of channel (interfaces_of entries)
later_is channel [] = refl
later_is channel (entry ∷ entries) = by (entry.0 == channel) refl (later_is channel entries)
  where
    by : (b : Bool) → (entry.0 == channel) ≡ b
        → option_and_then (λ later. later) (lookup (nat_eq channel) entries) ≡ later_of channel (interfaces_of entries)
        → option_and_then (λ later. later) (lookup (nat_eq channel) (entry ∷ entries)) ≡ later_of channel (interfaces_of (entry ∷ entries))
    by true is rest =
        ap (λ b. option_and_then (λ later. later) (cond b (Some entry.1) (lookup (nat_eq channel) entries))) (same_from_either_side channel entry.0 ∙ is)
        ∙ sym (later_first channel _ (interfaces_of entries) is)
    by false isnt rest =
        ap (λ b. option_and_then (λ later. later) (cond b (Some entry.1) (lookup (nat_eq channel) entries))) (same_from_either_side channel entry.0 ∙ isnt)
        ∙ rest ∙ sym (later_behind_first channel _ (interfaces_of entries) isnt)

-- ---- what a look-up of the map gives

-- the number that is found
pub number_found : {X : Type 0} (test : X → Bool) (items : List X) (number : ℕ) → Some number ≡ position test items → number ≡ position_or_len test items
number_found test items number found = by (nat_lt (position_or_len test items) (length items)) found
  where
    by : (b : Bool) → Some number ≡ cond b (Some (position_or_len test items)) None → number ≡ position_or_len test items
    by true is = ap (λ (o : Option ℕ). option_map_or (λ n. n) o 0) is
    by false is = absurd (true≢false (ap is_some is))

-- where none is found, that of the next one
pub next_number : {X : Type 0} (test : X → Bool) (items : List X) → None ≡ position test items → length items ≡ position_or_len test items
next_number test items found = by (nat_lt (position_or_len test items) (length items)) refl found
  where
    by : (b : Bool) → nat_lt (position_or_len test items) (length items) ≡ b → None ≡ cond b (Some (position_or_len test items)) None
        → length items ≡ position_or_len test items
    by true is none = absurd (true≢false (ap is_some (sym none)))
    by false isnt none =
        let least = ltb-false _ _ isnt in
        let most = prefix_len-le-length (λ x. not (test x)) items in
        omega (arith, least, most)

-- ---- an entry that is put

-- in the place of the first one
pub put_first : (channel : ℕ) (later : Option LaterVersions) (first : Interface) (interfaces : List Interface) → (first.channel == channel) ≡ true
    → with_interface channel later (first ∷ interfaces) ≡ record { channel = channel; later = later } ∷ interfaces
put_first channel later first interfaces is = grind (arith, is)

-- behind the first one
pub put_behind : (channel : ℕ) (later : Option LaterVersions) (first : Interface) (interfaces : List Interface) → (first.channel == channel) ≡ false
    → with_interface channel later (first ∷ interfaces) ≡ first ∷ with_interface channel later interfaces
put_behind channel later first interfaces isnt = grind (arith, isnt)

-- a channel's entry that is put
pub put_entry : (channel : ℕ) (later : Option LaterVersions) (entries : List (ℕ × Option LaterVersions))
    → interfaces_of (insert_entry nat_eq entries channel later) ≡ with_interface channel later (interfaces_of entries)
put_entry channel later [] = refl
put_entry channel later (entry ∷ entries) = by (entry.0 == channel) refl (put_entry channel later entries)
  where
    by : (b : Bool) → (entry.0 == channel) ≡ b
        → interfaces_of (insert_entry nat_eq entries channel later) ≡ with_interface channel later (interfaces_of entries)
        → interfaces_of (insert_entry nat_eq (entry ∷ entries) channel later) ≡ with_interface channel later (interfaces_of (entry ∷ entries))
    by true is rest =
        ap (λ b. interfaces_of (cond b ((entry.0, later) ∷ entries) (entry ∷ insert_entry nat_eq entries channel later)))
        (same_from_either_side channel entry.0 ∙ is)
        ∙ ap (λ n. record { channel = n; later = later } ∷ interfaces_of entries) (eqb-true entry.0 channel is)
        ∙ sym (put_first channel later _ (interfaces_of entries) is)
    by false isnt rest =
        ap (λ b. interfaces_of (cond b ((entry.0, later) ∷ entries) (entry ∷ insert_entry nat_eq entries channel later)))
        (same_from_either_side channel entry.0 ∙ isnt)
        ∙ ap (λ l. record { channel = entry.0; later = entry.1 } ∷ l) rest
        ∙ sym (put_behind channel later _ (interfaces_of entries) isnt)
