-- What is still to be shown of a channel's filter once an interface was put.
use Rattle.std.proofs.Common.{◌≡◌, ℕ, ◌+◌, ◌≤◌, ◌⊎◌, inl, inr, true, false, cond, List, [], ◌∷◌, length, length-set}
use Rattle.std.proofs.Common.{Option, None, refl, sym, ap, ◌∙◌, arith}
use Rattle.std.specs.Prelude.{◌==◌}
use Rattle.std.specs.Option.{option_and_then}
use Rattle.std.proofs.lemmas.Bool.{eqb-true, eq-eqb, cond-true, cond-false, ltb-false, le-ltb, cases_Bool}
use Rattle.std.proofs.lemmas.List.{length-append}
use Rattle.std.proofs.lemmas.Option.{slice_get_past}
use Rattle.rec_export.specs.declared.version.LaterVersions.{LaterVersions}
use Rattle.rec_export.specs.Interfaces.{Interface, number_of, is_described, later_of, with_interface}
use Rattle.rec_export.proofs.InterfaceEntries.{later_first, later_behind_first, put_first, put_behind}
use Rattle.rec_export.proofs.Numbering.{most, number_in_place, number_behind}

-- the interface of these parts
abbrev its : (channel : ℕ) (later : Option LaterVersions) → Interface
its channel later = record { channel = channel; later = later }

-- a channel's own
pub later_put : (channel : ℕ) (later : Option LaterVersions) (interfaces : List Interface) → later_of channel (with_interface channel later interfaces) ≡ later
later_put channel later [] = later_first channel (its channel later) [] (eq-eqb channel channel refl)
later_put channel later (first ∷ interfaces) = by_cases (cases_Bool (first.channel == channel)) (later_put channel later interfaces)
  where
    by_cases : ((first.channel == channel) ≡ true) ⊎ ((first.channel == channel) ≡ false)
        → later_of channel (with_interface channel later interfaces) ≡ later
        → later_of channel (with_interface channel later (first ∷ interfaces)) ≡ later
    by_cases (inl is) rest =
        ap (later_of channel) (put_first channel later first interfaces is)
        ∙ later_first channel (its channel later) interfaces (eq-eqb channel channel refl)
    by_cases (inr isnt) rest =
        ap (later_of channel) (put_behind channel later first interfaces isnt)
        ∙ later_behind_first channel first (with_interface channel later interfaces) isnt ∙ rest

-- and another one's
pub later_put_beside : (channel other : ℕ) (later : Option LaterVersions) (interfaces : List Interface) → (other == channel) ≡ false
    → later_of channel (with_interface other later interfaces) ≡ later_of channel interfaces
later_put_beside channel other later [] differ = later_behind_first channel (its other later) [] differ
later_put_beside channel other later (first ∷ interfaces) differ =
    by_cases (cases_Bool (first.channel == other)) (cases_Bool (first.channel == channel)) (later_put_beside channel other later interfaces differ)
  where
    by_cases : ((first.channel == other) ≡ true) ⊎ ((first.channel == other) ≡ false)
        → ((first.channel == channel) ≡ true) ⊎ ((first.channel == channel) ≡ false)
        → later_of channel (with_interface other later interfaces) ≡ later_of channel interfaces
        → later_of channel (with_interface other later (first ∷ interfaces)) ≡ later_of channel (first ∷ interfaces)
    by_cases (inl is) own rest =
        ap (later_of channel) (put_first other later first interfaces is)
        ∙ later_behind_first channel (its other later) interfaces differ
        ∙ sym (later_behind_first channel first interfaces (ap (λ c. c == channel) (eqb-true first.channel other is) ∙ differ))
    by_cases (inr isnt) (inl own) rest =
        ap (later_of channel) (put_behind other later first interfaces isnt)
        ∙ later_first channel first (with_interface other later interfaces) own
        ∙ sym (later_first channel first interfaces own)
    by_cases (inr isnt) (inr not_own) rest =
        ap (later_of channel) (put_behind other later first interfaces isnt)
        ∙ later_behind_first channel first (with_interface other later interfaces) not_own
        ∙ rest ∙ sym (later_behind_first channel first interfaces not_own)

-- of a channel without an interface there is none
pub no_later : (channel : ℕ) (interfaces : List Interface) → is_described channel interfaces ≡ false → later_of channel interfaces ≡ None
no_later channel interfaces isnt =
    ap (λ (o : Option Interface). option_and_then (λ (it : Interface). it.later) o)
    (slice_get_past interfaces (number_of channel interfaces) (ltb-false _ _ isnt))

-- a channel has no interface still, once that of another one was put
pub not_described_beside : (channel other : ℕ) (later : Option LaterVersions) (interfaces : List Interface) → (other == channel) ≡ false
    → is_described channel interfaces ≡ false → is_described channel (with_interface other later interfaces) ≡ false
not_described_beside channel other later interfaces differ isnt = by_cases (cases_Bool (is_described other interfaces))
  where
    least : length interfaces ≤ number_of channel interfaces
    least = ltb-false (number_of channel interfaces) (length interfaces) isnt

    by_cases : (is_described other interfaces ≡ true) ⊎ (is_described other interfaces ≡ false)
        → is_described channel (with_interface other later interfaces) ≡ false
    by_cases (inl is) =
        let number = number_in_place channel other later interfaces is in
        let len : length (with_interface other later interfaces) ≡ length interfaces =
        ap (λ (l : List Interface). length l) (cond-true (is_described other interfaces) _ _ is)
        ∙ length-set interfaces (number_of other interfaces) (its other later) in
        let past = least in
        le-ltb (number_of channel (with_interface other later interfaces)) (length (with_interface other later interfaces))
        (omega (arith, number, len, past))
    by_cases (inr none) =
        let past = least in
        let upper = most channel interfaces in
        let last : number_of channel interfaces ≡ length interfaces = omega (arith, past, upper) in
        let number : number_of channel (with_interface other later interfaces) ≡ length interfaces + 1 =
        number_behind channel other later interfaces none
        ∙ cond-true (number_of channel interfaces == length interfaces) _ _ (eq-eqb _ _ last)
        ∙ ap (λ b. length interfaces + cond b 0 1) differ in
        let len : length (with_interface other later interfaces) ≡ length interfaces + 1 =
        ap (λ (l : List Interface). length l) (cond-false (is_described other interfaces) _ _ none)
        ∙ length-append interfaces (its other later ∷ []) in
        le-ltb (number_of channel (with_interface other later interfaces)) (length (with_interface other later interfaces)) (omega (arith, number, len))
