-- How a frame is split off the front of a body's bytes.
use Rattle.std.proofs.Common.{◌≡◌, ℕ, zero, suc, ◌+◌, ◌-◌, ◌*◌, ◌/◌, ◌%◌, ◌^◌, ◌<◌, ◌≤◌, inl, cond, eqb, List, []}
use Rattle.std.proofs.Common.{◌∷◌, ◌++◌, length, get_or, take, drop, refl, sym, ap, subst, ◌∙◌, arith}
use Rattle.std.specs.Prelude.{bit_and, not}
use Rattle.std.specs.List.{IsSplitAt}
use Rattle.std.specs.Int.{w16, w32, to_le_bytes, bytes_low_first}
use Rattle.std.proofs.lemmas.Bool.{ne_eqb, eq-eqb}
use Rattle.std.proofs.lemmas.Nat.Bits.{and_pow}
use Rattle.std.proofs.lemmas.List.{take_all, take_rest, take-append-drop}
use Rattle.ch11_packet.specs.declared.frames.word.TheConstants.{FRAME_HEADER_LEN}
use Rattle.eth_frame.specs.Bytes.{AreBytes, u16_at, u32_at, u48_at}
use Rattle.ch11_packet.specs.FramesRead.{read_frame_of, read_word, IsFiller, FrameStandsFirst}
use Rattle.eth_frame.proofs.Bytes.{two_bytes, four_bytes, six_bytes}

-- ---- the filler

pub one_filler : (len : ℕ) (after : List ℕ) → 1 ≤ length after → len % 2 ≡ 1
    → (filler : List ℕ) × (after ≡ filler ++ take (length after - 1) (drop 1 after)) × IsFiller len filler (take (length after - 1) (drop 1 after))
one_filler len [] long odd = absurd (omega arith)
one_filler len (f ∷ more) long odd =
    let rest : take (length (f ∷ more) - 1) more ≡ more = take_all _ more (omega arith) in
    (f ∷ [], ap (λ l. f ∷ l) (sym rest), inl (sym odd))

-- ---- the marks

flag_of : (n d m v : ℕ) → n ≡ d * m → 0 < m → d < 2 → cond (not (eqb n 0)) v 0 ≡ d * v
flag_of n zero m v e some fits = rw (eq-eqb n 0 (omega arith)) (omega arith)
flag_of n (suc zero) m v e some fits = rw (ne_eqb n 0 (λ none. omega arith)) (omega arith)
flag_of n (suc (suc d)) m v e some fits = absurd (omega arith)

-- a bit that is tested by a mask
flag : (marks k v : ℕ) → 0 < 2 ^ k → cond (not (eqb (bit_and marks (2 ^ k)) 0)) v 0 ≡ marks / 2 ^ k % 2 * v
flag marks k v some = flag_of _ (marks / 2 ^ k % 2) (2 ^ k) v (and_pow marks k) some (omega arith)

-- ---- the frame

-- the 12 bytes of a header, one by one
header_cells : (bytes : List ℕ) → FRAME_HEADER_LEN ≤ length bytes → bytes ≡
    (get_or bytes 0 0 ∷ get_or bytes 1 0 ∷ get_or bytes 2 0 ∷ get_or bytes 3 0 ∷ get_or bytes 4 0 ∷ get_or bytes 5 0
    ∷ get_or bytes 6 0 ∷ get_or bytes 7 0 ∷ get_or bytes 8 0 ∷ get_or bytes 9 0 ∷ get_or bytes 10 0 ∷ get_or bytes 11 0 ∷ []) ++ drop FRAME_HEADER_LEN bytes
header_cells (a ∷ b ∷ c ∷ d ∷ e ∷ f ∷ g ∷ h ∷ i ∷ j ∷ k ∷ l ∷ rest) long = refl
header_cells other long = absurd (omega arith)

word_of : (low high net marks taken f c : ℕ) → low < 256 → high < 256 → net < 256 → marks < 256 → taken ≡ (low + high * 256) % 2 ^ 14
    → f ≡ marks / 2 ^ 6 % 2 * 2 ^ 30 → c ≡ marks / 2 ^ 7 % 2 * 2 ^ 31
    → taken + high / 64 * 2 ^ 14 + net * 2 ^ 16 + marks % 16 * 2 ^ 24 + marks / 16 % 4 * 2 ^ 28 + f + c ≡ u32_at (low ∷ high ∷ net ∷ marks ∷ []) 0
word_of low high net marks taken f c fl fh fn fm et ef ec = omega arith

-- what stands behind a header is its frame's bytes and what comes after them
pub behind : (body taken after : List ℕ) (len : ℕ) → IsSplitAt (take (length body - FRAME_HEADER_LEN) (drop FRAME_HEADER_LEN body)) len taken after
    → drop FRAME_HEADER_LEN body ≡ taken ++ after
behind body taken after len split =
    let rest = take (length body - FRAME_HEADER_LEN) (drop FRAME_HEADER_LEN body) in
    sym (take_rest body FRAME_HEADER_LEN) ∙ sym (take-append-drop len rest)
    ∙ ap (λ l. l ++ drop len rest) (sym split.1) ∙ ap (λ l. taken ++ l) (sym split.2)

pub StandsFirst-split : (body taken after more : List ℕ) (len counter : ℕ) → AreBytes body → FRAME_HEADER_LEN ≤ length body
    → counter ≡ u48_at body 0 → len ≡ u16_at body 8 % 2 ^ 14 → drop FRAME_HEADER_LEN body ≡ taken ++ after → length taken ≡ len
    → (filler : List ℕ) × (after ≡ filler ++ more) × IsFiller len filler more
    → FrameStandsFirst (read_frame_of counter (not (eqb (bit_and (get_or body 11 0) 128) 0)) (not (eqb (bit_and (get_or body 11 0) 64) 0)) (get_or body 10 0)
    (get_or body 11 0 % 16) (get_or body 11 0 / 16 % 4) taken) body more
StandsFirst-split body taken after more len counter fit long ec el split many filled =
    let at = λ (i : ℕ). get_or body i 0 in
    let marks = at 11 in
    let frame = read_frame_of counter (not (eqb (bit_and marks 128) 0)) (not (eqb (bit_and marks 64) 0)) (at 10) (marks % 16) (marks / 16 % 4) taken in
    let spare = at 9 / 64 in
    let word : read_word frame spare ≡ u32_at body 8 =
    word_of (at 8) (at 9) (at 10) marks (length taken) _ _ (fit 8) (fit 9) (fit 10) (fit 11) (many ∙ el) (flag marks 6 (2 ^ 30) (omega arith))
    (flag marks 7 (2 ^ 31) (omega arith)) in
    let counter_bytes : bytes_low_first 0 6 counter ≡ at 0 ∷ at 1 ∷ at 2 ∷ at 3 ∷ at 4 ∷ at 5 ∷ [] =
    ap (bytes_low_first 0 6) ec ∙ six_bytes (at 0) (at 1) (at 2) (at 3) (at 4) (at 5) (fit 0) (fit 1) (fit 2) (fit 3) (fit 4) (fit 5) in
    let word_bytes : to_le_bytes w32 (read_word frame spare) ≡ at 8 ∷ at 9 ∷ at 10 ∷ at 11 ∷ [] =
    ap (to_le_bytes w32) word ∙ four_bytes (at 8) (at 9) (at 10) (at 11) (fit 8) (fit 9) (fit 10) (fit 11) in
    let header = at 0 ∷ at 1 ∷ at 2 ∷ at 3 ∷ at 4 ∷ at 5 ∷ at 6 ∷ at 7 ∷ at 8 ∷ at 9 ∷ at 10 ∷ at 11 ∷ [] in
    record {
      spelling = header ++ taken;
      filler = filled.0;
      spelled = record {
        in_range = record {
          counter = rw ec (omega (arith, fit 0, fit 1, fit 2, fit 3, fit 4, fit 5));
          net = fit 10;
          speed = omega arith;
          content = omega arith;
          longest = omega arith;
        };
        unused = u16_at body 6;
        spare = spare;
        spare_fits = omega (arith, fit 9);
        whole = sym (ap (λ l. l ++ to_le_bytes w16 (u16_at body 6) ++ to_le_bytes w32 (read_word frame spare) ++ taken) counter_bytes
            ∙ ap (λ l. (at 0 ∷ at 1 ∷ at 2 ∷ at 3 ∷ at 4 ∷ at 5 ∷ []) ++ l ++ to_le_bytes w32 (read_word frame spare) ++ taken)
            (two_bytes (at 6) (at 7) (fit 6) (fit 7))
            ∙ ap (λ l. (at 0 ∷ at 1 ∷ at 2 ∷ at 3 ∷ at 4 ∷ at 5 ∷ at 6 ∷ at 7 ∷ []) ++ (l ++ taken)) word_bytes);
      };
      filled = subst (λ n. IsFiller n filled.0 more) (sym many) filled.2;
      whole = header_cells body long ∙ ap (λ l. header ++ l) (split ∙ ap (λ l. taken ++ l) filled.1);
    }
