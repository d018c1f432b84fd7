-- The words of bytes that follow whole words, and their sum.
use Rattle.std.proofs.Common.{ℕ, ◌+◌, ◌-◌, ◌%◌, ◌^◌, ◌≡◌, ◌<◌, ◌≤◌, List, [], ◌∷◌, ◌++◌, length, drop, get_or, refl, ap, ◌∙◌, arith}
use Rattle.std.specs.Prelude.{replicate, sum}
use Rattle.std.specs.Int.{w32, from_le_bytes, next_multiple_of}
use Rattle.std.proofs.lemmas.List.{append_assoc, append-nil, length-append, length-replicate}
use Rattle.std.proofs.lemmas.List.Sums.{sum_by-append}
use Rattle.ch11_packet.specs.Sums.{long_words, word_filler, body_sum}

-- the words of bytes behind whole words follow theirs
words-append : (front rest : List ℕ) → length front % 4 ≡ 0 → long_words (front ++ rest) ≡ long_words front ++ long_words rest
words-append [] rest whole = refl
words-append (a ∷ []) rest whole = absurd (omega (arith, whole))
words-append (a ∷ b ∷ []) rest whole = absurd (omega (arith, whole))
words-append (a ∷ b ∷ c ∷ []) rest whole = absurd (omega (arith, whole))
words-append (a ∷ b ∷ c ∷ d ∷ front) rest whole =
    ap (λ ws. from_le_bytes w32 (a ∷ b ∷ c ∷ d ∷ []) ∷ ws) (words-append front rest (omega (arith, whole)))

-- whole words need no filler, and change nothing in that of what follows them
filler-none : (n : ℕ) → n % 4 ≡ 0 → word_filler n ≡ []
filler-none n whole = let none : next_multiple_of n 4 - n ≡ 0 = omega (arith, whole) in ap (λ k. replicate {A = ℕ} k 0) none

filler-behind : (n m : ℕ) → n % 4 ≡ 0 → word_filler (n + m) ≡ word_filler m
filler-behind n m whole =
    let same : next_multiple_of (n + m) 4 - (n + m) ≡ next_multiple_of m 4 - m = omega (arith, whole) in
    ap (λ k. replicate {A = ℕ} k 0) same

-- the sum of bytes behind whole words
pub sum_parts : (front rest : List ℕ) → length front % 4 ≡ 0 → body_sum (front ++ rest) ≡ (body_sum front + body_sum rest) % 2 ^ 32
unfolding body_sum
sum_parts front rest whole =
    let behind = rest ++ word_filler (length rest) in
    let filler : word_filler (length (front ++ rest)) ≡ word_filler (length rest) =
    ap (λ n. word_filler n) (length-append front rest) ∙ filler-behind (length front) (length rest) whole in
    let all : (front ++ rest) ++ word_filler (length (front ++ rest)) ≡ front ++ behind =
    ap (λ bytes. (front ++ rest) ++ bytes) filler ∙ append_assoc front rest (word_filler (length rest)) in
    let words = ap (λ bytes. sum (long_words bytes)) all ∙ ap (λ ws. sum ws) (words-append front behind whole)
    ∙ sum_by-append (λ (x : ℕ). x) (long_words front) (long_words behind) in
    let of_front = ap (λ bytes. sum (long_words bytes)) (ap (λ bytes. front ++ bytes) (filler-none (length front) whole) ∙ append-nil front) in
    omega (arith, words, of_front)

-- the sum of one word and what follows it
pub sum_word : (b0 b1 b2 b3 : ℕ) (rest : List ℕ) → body_sum (b0 ∷ b1 ∷ b2 ∷ b3 ∷ rest) ≡ (from_le_bytes w32 (b0 ∷ b1 ∷ b2 ∷ b3 ∷ []) + body_sum rest) % 2 ^ 32
unfolding body_sum
sum_word b0 b1 b2 b3 rest = sum_parts (b0 ∷ b1 ∷ b2 ∷ b3 ∷ []) rest refl ∙ omega arith

-- the filler makes whole words, and adds nothing
pub sum_filled : (bytes : List ℕ) → body_sum (bytes ++ word_filler (length bytes)) ≡ body_sum bytes
unfolding body_sum
sum_filled bytes =
    let filled = bytes ++ word_filler (length bytes) in
    let long = length-append bytes (word_filler (length bytes)) in
    let filler = length-replicate {A = ℕ} (next_multiple_of (length bytes) 4 - length bytes) 0 in
    let whole : length filled % 4 ≡ 0 = omega (arith, long, filler) in
    ap (λ l. sum (long_words l) % 2 ^ 32) (ap (λ l. filled ++ l) (filler-none (length filled) whole) ∙ append-nil filled)

pub sum_below : (bytes : List ℕ) → body_sum bytes < 2 ^ 32
unfolding body_sum
sum_below bytes = omega arith

-- ---- one byte of them

-- the first word of these bytes, with zero bytes after fewer than four
abbrev first_word : List ℕ → ℕ
first_word bytes = from_le_bytes w32 (get_or bytes 0 0 ∷ get_or bytes 1 0 ∷ get_or bytes 2 0 ∷ get_or bytes 3 0 ∷ [])

sum_first : (bytes : List ℕ) → body_sum bytes ≡ (first_word bytes + body_sum (drop 4 bytes)) % 2 ^ 32
unfolding body_sum
sum_first [] = refl
sum_first (a ∷ []) = omega arith
sum_first (a ∷ b ∷ []) = omega arith
sum_first (a ∷ b ∷ c ∷ []) = omega arith
sum_first (a ∷ b ∷ c ∷ d ∷ rest) = sum_word a b c d rest

-- bytes whose sums are the same and that differ in one place at most don't differ there
pub same_byte : (front rest : List ℕ) (byte other : ℕ) → byte < 2 ^ 8 → other < 2 ^ 8
    → body_sum (front ++ byte ∷ rest) ≡ body_sum (front ++ other ∷ rest) → byte ≡ other
same_byte [] rest byte other fits also same = omega (arith, fits, also, same, sum_first (byte ∷ rest), sum_first (other ∷ rest))
same_byte (a ∷ []) rest byte other fits also same = omega (arith, fits, also, same, sum_first (a ∷ byte ∷ rest), sum_first (a ∷ other ∷ rest))
same_byte (a ∷ b ∷ []) rest byte other fits also same = omega (arith, fits, also, same, sum_first (a ∷ b ∷ byte ∷ rest), sum_first (a ∷ b ∷ other ∷ rest))
same_byte (a ∷ b ∷ c ∷ []) rest byte other fits also same = omega (
  arith,
  fits,
  also,
  same,
  sum_first (a ∷ b ∷ c ∷ byte ∷ rest),
  sum_first (a ∷ b ∷ c ∷ other ∷ rest),
)
same_byte (a ∷ b ∷ c ∷ d ∷ front) rest byte other fits also same =
    same_byte front rest byte other fits also
    (omega (
      arith,
      same,
      sum_word a b c d (front ++ byte ∷ rest),
      sum_word a b c d (front ++ other ∷ rest),
      sum_below (front ++ byte ∷ rest),
      sum_below (front ++ other ∷ rest),
    ))

-- ---- what the code computes

-- a word more is summed
pub sum_step : (so_far : ℕ) (bytes : List ℕ) → 4 ≤ length bytes
    → ((so_far + from_le_bytes w32 (get_or bytes 0 0 ∷ get_or bytes 1 0 ∷ get_or bytes 2 0 ∷ get_or bytes 3 0 ∷ [])) % 2 ^ 32 + body_sum (drop 4 bytes)) % 2 ^
    32 ≡ (so_far + body_sum bytes) % 2 ^ 32
sum_step so_far [] long = absurd (omega (arith, long))
sum_step so_far (a ∷ []) long = absurd (omega (arith, long))
sum_step so_far (a ∷ b ∷ []) long = absurd (omega (arith, long))
sum_step so_far (a ∷ b ∷ c ∷ []) long = absurd (omega (arith, long))
sum_step so_far (a ∷ b ∷ c ∷ d ∷ rest) long = omega (arith, sum_word a b c d rest)

pub sum_more : (total so_far word : ℕ) (bytes after : List ℕ) → 4 ≤ length bytes → after ≡ drop 4 bytes
    → word ≡ from_le_bytes w32 (get_or bytes 0 0 ∷ get_or bytes 1 0 ∷ get_or bytes 2 0 ∷ get_or bytes 3 0 ∷ []) → (so_far + body_sum bytes) % 2 ^ 32 ≡ total
    → ((so_far + word) % 2 ^ 32 + body_sum after) % 2 ^ 32 ≡ total
sum_more total so_far word bytes after long rest is e =
    ap (λ w. ((so_far + w) % 2 ^ 32 + body_sum after) % 2 ^ 32) is
    ∙ ap (λ l. ((so_far + from_le_bytes w32 (get_or bytes 0 0 ∷ get_or bytes 1 0 ∷ get_or bytes 2 0 ∷ get_or bytes 3 0 ∷ [])) % 2 ^ 32 + body_sum l) % 2 ^ 32)
    rest
    ∙ sum_step so_far bytes long ∙ e

-- fewer bytes than a word has
pub sum_one : (bytes : List ℕ) → length bytes ≡ 1 → from_le_bytes w32 (get_or bytes 0 0 ∷ 0 ∷ 0 ∷ 0 ∷ []) < 2 ^ 32
    → from_le_bytes w32 (get_or bytes 0 0 ∷ 0 ∷ 0 ∷ 0 ∷ []) ≡ body_sum bytes
unfolding body_sum
sum_one (a ∷ []) len fits = omega (arith, fits)
sum_one other len fits = absurd (omega (arith, len))

pub sum_three : (bytes : List ℕ) → length bytes ≡ 3 → from_le_bytes w32 (get_or bytes 0 0 ∷ get_or bytes 1 0 ∷ get_or bytes 2 0 ∷ 0 ∷ []) < 2 ^ 32
    → from_le_bytes w32 (get_or bytes 0 0 ∷ get_or bytes 1 0 ∷ get_or bytes 2 0 ∷ 0 ∷ []) ≡ body_sum bytes
unfolding body_sum
sum_three (a ∷ b ∷ c ∷ []) len fits = omega (arith, fits)
sum_three other len fits = absurd (omega (arith, len))
