-- Numbers of two, four, six and eight bytes: their bytes say them, and they have those bytes.
use Rattle.std.proofs.Common.{◌≡◌, ℕ, zero, suc, ◌+◌, ◌^◌, ◌<◌, List, [], ◌∷◌, ◌++◌, get_or, take, drop, refl, ap, ◌∙◌, arith, lit<}
use Rattle.std.specs.Int.{w16, w32, w64, from_le_bytes, to_le_bytes, bytes_low_first, byte_at}
use Rattle.std.proofs.lemmas.Nat.{le_bytes_2, le_bytes_4, le_bytes_8, from_le_bytes-to_le_bytes_8}
use Rattle.std.proofs.lemmas.List.{get_or-drop}
use Rattle.eth_frame.specs.Bytes.{AreBytes, u48_at, u64_at}

pub AreBytes-drop : (n : ℕ) (bytes : List ℕ) → AreBytes bytes → AreBytes (drop n bytes)
AreBytes-drop n bytes fit i = rw get_or-drop (fit (n + i))

-- ---- lists of bytes

two_fit : (a b : ℕ) → a < 256 → b < 256 → AreBytes (a ∷ b ∷ [])
two_fit a b fa fb zero = fa
two_fit a b fa fb (suc zero) = fb
two_fit a b fa fb (suc (suc i)) = lit< tt

four_fit : (a b c d : ℕ) → a < 256 → b < 256 → c < 256 → d < 256 → AreBytes (a ∷ b ∷ c ∷ d ∷ [])
four_fit a b c d fa fb fc fd zero = fa
four_fit a b c d fa fb fc fd (suc zero) = fb
four_fit a b c d fa fb fc fd (suc (suc i)) = two_fit c d fc fd i

eight_fit : (a b c d e f g h : ℕ) → a < 256 → b < 256 → c < 256 → d < 256 → e < 256 → f < 256 → g < 256 → h < 256
    → AreBytes (a ∷ b ∷ c ∷ d ∷ e ∷ f ∷ g ∷ h ∷ [])
eight_fit a b c d e f g h fa fb fc fd fe ff fg fh zero = fa
eight_fit a b c d e f g h fa fb fc fd fe ff fg fh (suc zero) = fb
eight_fit a b c d e f g h fa fb fc fd fe ff fg fh (suc (suc zero)) = fc
eight_fit a b c d e f g h fa fb fc fd fe ff fg fh (suc (suc (suc zero))) = fd
eight_fit a b c d e f g h fa fb fc fd fe ff fg fh (suc (suc (suc (suc i)))) = four_fit e f g h fe ff fg fh i

-- ---- the number that bytes say has these bytes

pub two_bytes : (a b : ℕ) → a < 256 → b < 256 → to_le_bytes w16 (from_le_bytes w16 (a ∷ b ∷ [])) ≡ a ∷ b ∷ []
two_bytes a b fa fb = le_bytes_2 (a ∷ b ∷ []) _ refl (two_fit a b fa fb) refl

pub four_bytes : (a b c d : ℕ) → a < 256 → b < 256 → c < 256 → d < 256 → to_le_bytes w32 (from_le_bytes w32 (a ∷ b ∷ c ∷ d ∷ [])) ≡ a ∷ b ∷ c ∷ d ∷ []
four_bytes a b c d fa fb fc fd = le_bytes_4 (a ∷ b ∷ c ∷ d ∷ []) _ refl (four_fit a b c d fa fb fc fd) refl

pub six_bytes : (a b c d e f : ℕ) → a < 256 → b < 256 → c < 256 → d < 256 → e < 256 → f < 256
    → bytes_low_first 0 6 (from_le_bytes w64 (a ∷ b ∷ c ∷ d ∷ e ∷ f ∷ 0 ∷ 0 ∷ [])) ≡ a ∷ b ∷ c ∷ d ∷ e ∷ f ∷ []
six_bytes a b c d e f fa fb fc fd fe ff =
    ap (take 6) (le_bytes_8 (a ∷ b ∷ c ∷ d ∷ e ∷ f ∷ 0 ∷ 0 ∷ []) _ refl (eight_fit a b c d e f 0 0 fa fb fc fd fe ff (lit< tt) (lit< tt)) refl)

-- the eight bytes from a place on
abbrev pub eight_at : List ℕ → ℕ → List ℕ
eight_at bytes at =
    get_or bytes at 0 ∷ get_or bytes (at + 1) 0 ∷ get_or bytes (at + 2) 0 ∷ get_or bytes (at + 3) 0
    ∷ get_or bytes (at + 4) 0 ∷ get_or bytes (at + 5) 0 ∷ get_or bytes (at + 6) 0 ∷ get_or bytes (at + 7) 0 ∷ []

pub eight_bytes : (bytes : List ℕ) (at : ℕ) → AreBytes bytes → to_le_bytes w64 (u64_at bytes at) ≡ eight_at bytes at
eight_bytes bytes at fit =
    le_bytes_8 (eight_at bytes at) (u64_at bytes at) refl (eight_fit _ _ _ _ _ _ _ _ (fit at) (fit (at + 1)) (fit (at + 2)) (fit (at + 3)) (fit (at + 4))
    (fit (at + 5)) (fit (at + 6)) (fit (at + 7))) refl

-- ---- a number of 48 bits is what its six low bytes say

high_bytes : (n : ℕ) → n < 2 ^ 48 → (byte_at 6 n ≡ 0) × (byte_at 7 n ≡ 0)
high_bytes n lt = (omega arith, omega arith)

pub six_again : (n : ℕ) → n < 2 ^ 48 → u48_at (bytes_low_first 0 6 n) 0 ≡ n
six_again n lt =
    let high = high_bytes n lt in
    let same : from_le_bytes w64 (bytes_low_first 0 6 n ++ (0 ∷ 0 ∷ [])) ≡ from_le_bytes w64 (to_le_bytes w64 n) = rw (high.0, high.1) refl in
    same ∙ from_le_bytes-to_le_bytes_8 n (omega arith)
