-- What holds of each character of a name holds of all of a name that is cleaned.
use Rattle.std.proofs.Common.{ℕ, zero, suc, ◌<◌, ◌≤◌, ◌≡◌, ◌==◌, ◌⊎◌, inl, inr, Bool, true, false, cond, List, [], ◌∷◌, ◌++◌, length}
use Rattle.std.proofs.Common.{take, map, filter, refl, sym, subst, arith, codes, All}
use Rattle.std.specs.Prelude.{reverse}
use Rattle.std.specs.List.{AllByRecursion}
use Rattle.std.proofs.lemmas.Bool.{cases_Bool}
use Rattle.std.proofs.lemmas.Bool.Decides.{nat_tests}
use Rattle.std.proofs.lemmas.List.{reverse-append}
use Rattle.ch11_setup.specs.Attributes.{Lacks}
use Rattle.ch11_setup.specs.Names.{is_plain, begins_character, plain_byte, plain_text, without_blanks, trimmed, or_none, cleaned}

-- what holds of each of two lists holds of both together
pub all_append : {X : Type 0} (P : X → Type 0) (front rest : List X) → AllByRecursion P front → AllByRecursion P rest → AllByRecursion P (front ++ rest)
all_append P [] rest are also = also
all_append P (x ∷ front) rest are also = (are.0, all_append P front rest are.1 also)

module _ (P : ℕ → Type 0) where
  all_reverse : (bytes : List ℕ) → AllByRecursion P bytes → AllByRecursion P (reverse bytes)
  all_reverse [] are = tt
  all_reverse (byte ∷ bytes) are =
      subst (AllByRecursion P) (sym (reverse-append (byte ∷ []) bytes)) (all_append P (reverse bytes) (byte ∷ []) (all_reverse bytes are.1) (are.0, tt))

  pub all_take : (n : ℕ) (bytes : List ℕ) → AllByRecursion P bytes → AllByRecursion P (take n bytes)
  all_take zero bytes are = tt
  all_take (suc n) [] are = tt
  all_take (suc n) (byte ∷ bytes) are = (are.0, all_take n bytes are.1)

  all_without : (bytes : List ℕ) → AllByRecursion P bytes → AllByRecursion P (without_blanks bytes)
  all_without [] are = tt
  all_without (byte ∷ bytes) are = by_case (cases_Bool (byte == 32)) (all_without bytes are.1)
    where
      by_case : ((byte == 32) ≡ true) ⊎ ((byte == 32) ≡ false) → AllByRecursion P (without_blanks bytes)
          → AllByRecursion P (without_blanks (byte ∷ bytes))
      by_case (inl e) rest = subst (λ b. AllByRecursion P (cond b (without_blanks bytes) (byte ∷ bytes))) (sym e) rest
      by_case (inr e) rest = subst (λ b. AllByRecursion P (cond b (without_blanks bytes) (byte ∷ bytes))) (sym e) are

  pub all_trimmed : (bytes : List ℕ) → AllByRecursion P bytes → AllByRecursion P (trimmed bytes)
  all_trimmed bytes are =
      all_reverse (without_blanks (reverse (without_blanks bytes)))
      (all_without (reverse (without_blanks bytes)) (all_reverse (without_blanks bytes) (all_without bytes are)))

  pub all_plain : (text : List ℕ) → ((byte : ℕ) → P (plain_byte byte)) → AllByRecursion P (plain_text text)
  all_plain [] each = tt
  all_plain (byte ∷ text) each = by_case (cases_Bool (begins_character byte)) (all_plain text each)
    where
      kept : Bool → List ℕ
      kept begins = map plain_byte (cond begins (byte ∷ filter begins_character text) (filter begins_character text))

      by_case : (begins_character byte ≡ true) ⊎ (begins_character byte ≡ false) → AllByRecursion P (plain_text text)
          → AllByRecursion P (plain_text (byte ∷ text))
      by_case (inl e) rest = subst (λ b. AllByRecursion P (kept b)) (sym e) (each byte, rest)
      by_case (inr e) rest = subst (λ b. AllByRecursion P (kept b)) (sym e) rest

  all_or_none : (bytes : List ℕ) → AllByRecursion P (codes "NONE") → AllByRecursion P bytes → AllByRecursion P (or_none bytes)
  all_or_none [] none are = none
  all_or_none (byte ∷ bytes) none are = are

  pub all_cleaned : (text : List ℕ) → AllByRecursion P (codes "NONE") → ((byte : ℕ) → P (plain_byte byte)) → AllByRecursion P (cleaned text)
  all_cleaned text none each =
      all_or_none (take 32 (trimmed (plain_text text))) none
      (all_take 32 (trimmed (plain_text text)) (all_trimmed (plain_text text) (all_plain text each)))

  -- the two ways to say that it holds of each
  pub all_of : (bytes : List ℕ) → AllByRecursion P bytes → All P bytes
  all_of [] are k d within = absurd (omega (arith, within))
  all_of (byte ∷ bytes) are zero d within = are.0
  all_of (byte ∷ bytes) are (suc k) d within = all_of bytes are.1 k d (omega (arith, within))

-- ---- characters

plain_is : (byte : ℕ) → is_plain (plain_byte byte) ≡ true
plain_is byte = by_case (cases_Bool (is_plain byte))
  where
    by_case : (is_plain byte ≡ true) ⊎ (is_plain byte ≡ false) → is_plain (plain_byte byte) ≡ true
    by_case (inl e) = subst (λ b. is_plain (cond b byte 95) ≡ true) (sym e) e
    by_case (inr e) = subst (λ b. is_plain (cond b byte 95) ≡ true) (sym e) refl

plain_ascii : (byte : ℕ) → plain_byte byte < 128
plain_ascii byte = let plain = plain_is byte in grind (arith, nat_tests, plain)

pub ascii_name : (text : List ℕ) → All (λ byte. byte < 128) (take 32 (trimmed (plain_text text)))
ascii_name text =
    all_of (λ byte. byte < 128) (take 32 (trimmed (plain_text text)))
    (all_take (λ byte. byte < 128) 32 (trimmed (plain_text text))
    (all_trimmed (λ byte. byte < 128) (plain_text text) (all_plain (λ byte. byte < 128) text plain_ascii)))

pub plain_name : (text : List ℕ) → AllByRecursion (λ byte. is_plain byte ≡ true) (cleaned text)
plain_name text = all_cleaned (λ byte. is_plain byte ≡ true) text (refl, (refl, (refl, (refl, tt)))) plain_is

no_semicolon : (byte : ℕ) → (plain_byte byte == 59) ≡ false
no_semicolon byte = grind (arith, nat_tests)

pub name_lacks_semicolons : (text : List ℕ) → Lacks 59 (cleaned text)
name_lacks_semicolons text = all_cleaned (λ byte. (byte == 59) ≡ false) text (refl, (refl, (refl, (refl, tt)))) no_semicolon

-- ---- its length

some_name : (bytes : List ℕ) → 0 < length (or_none bytes)
some_name [] = omega arith
some_name (byte ∷ bytes) = omega arith

short_name : (bytes : List ℕ) → length bytes ≤ 32 → length (or_none bytes) ≤ 32
short_name [] h = omega arith
short_name (byte ∷ bytes) h = h

short_take : (n : ℕ) (bytes : List ℕ) → length (take n bytes) ≤ n
short_take zero bytes = omega arith
short_take (suc n) [] = omega arith
short_take (suc n) (byte ∷ bytes) = let rest = short_take n bytes in omega (arith, rest)

pub name_length : (text : List ℕ) → (0 < length (cleaned text)) × (length (cleaned text) ≤ 32)
name_length text =
    let bytes = trimmed (plain_text text) in
    (some_name (take 32 bytes), short_name (take 32 bytes) (short_take 32 bytes))
