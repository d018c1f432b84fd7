-- Instructions that are stored in bytes one after the other.
use Rattle.std.proofs.Common.{◌≡◌, ℕ, zero, suc, ◌+◌, ◌-◌, ◌*◌, ◌<◌, ◌≤◌, List, [], ◌∷◌, ◌++◌, length}
use Rattle.std.proofs.Common.{get_or, take, drop, None, Some, refl, sym, ap, ◌∙◌, arith}
use Rattle.std.specs.Prelude.{slice_get}
use Rattle.std.specs.Int.{w32, to_le_bytes}
use Rattle.std.specs.List.{flat_map, AllByRecursion, slice_range}
use Rattle.std.proofs.lemmas.Nat.{from_le_bytes-to_le_bytes_2, from_le_bytes-to_le_bytes_4}
use Rattle.std.proofs.lemmas.List.{length-drop, drop-drop, get_or-take, nil_from_length}
use Rattle.bpf_insn.specs.declared.insn.Insn.{Insn}
use Rattle.bpf_insn.specs.Bytes.{InRange, insn_bytes}
use Rattle.ch11_packet.specs.declared.records.TheConstants.{INSN_LEN}
use Rattle.eth_frame.specs.Bytes.{AreBytes, u32_at}
use Rattle.ch11_packet.specs.RecordsRead.{first_insn, stored_insns}
use Rattle.eth_frame.proofs.Bytes.{AreBytes-drop, two_bytes, four_bytes}

pub length-stored_insns : (count : ℕ) (bytes : List ℕ) → length (stored_insns count bytes) ≡ count
unfolding stored_insns
length-stored_insns zero bytes = refl
length-stored_insns (suc count) bytes = ap suc (length-stored_insns count (drop INSN_LEN bytes))

-- ---- one instruction

eight_cells : (bytes : List ℕ) → INSN_LEN ≤ length bytes → bytes ≡
    (get_or bytes 0 0 ∷ get_or bytes 1 0 ∷ get_or bytes 2 0 ∷ get_or bytes 3 0 ∷ get_or bytes 4 0 ∷ get_or bytes 5 0 ∷ get_or bytes 6 0 ∷ get_or bytes 7 0
    ∷ []) ++ drop INSN_LEN bytes
eight_cells (a ∷ b ∷ c ∷ d ∷ e ∷ f ∷ g ∷ h ∷ rest) long = refl
eight_cells other long = absurd (omega arith)

-- the bytes of the instruction that bytes say
pub insn_bytes-first_insn : (bytes : List ℕ) → AreBytes bytes → insn_bytes (first_insn bytes) ≡
    get_or bytes 0 0 ∷ get_or bytes 1 0 ∷ get_or bytes 2 0 ∷ get_or bytes 3 0 ∷ get_or bytes 4 0 ∷ get_or bytes 5 0 ∷ get_or bytes 6 0 ∷ get_or bytes 7 0 ∷ []
insn_bytes-first_insn bytes fit =
    let at = λ (i : ℕ). get_or bytes i 0 in
    ap (λ l. l ++ (at 2 ∷ at 3 ∷ to_le_bytes w32 (u32_at bytes 4))) (two_bytes (at 0) (at 1) (fit 0) (fit 1))
    ∙ ap (λ l. at 0 ∷ at 1 ∷ at 2 ∷ at 3 ∷ l) (four_bytes (at 4) (at 5) (at 6) (at 7) (fit 4) (fit 5) (fit 6) (fit 7))

pub InRange-first_insn : (bytes : List ℕ) → AreBytes bytes → InRange (first_insn bytes)
InRange-first_insn bytes fit = record {
  code = omega (arith, fit 0, fit 1);
  jt = fit 2;
  jf = fit 3;
  k = omega (arith, fit 4, fit 5, fit 6, fit 7);
}

same_insn : (c t f k c' t' f' k' : ℕ) → c ≡ c' → t ≡ t' → f ≡ f' → k ≡ k'
    → ◌≡◌ {A = Insn} (record { code = c; jt = t; jf = f; k = k }) (record { code = c'; jt = t'; jf = f'; k = k' })
same_insn c t f k c' t' f' k' ec et ef ek = cc

first_insn-insn_bytes : (i : Insn) (rest : List ℕ) → InRange i → first_insn (insn_bytes i ++ rest) ≡ i
first_insn-insn_bytes i rest is =
    same_insn _ _ _ _ _ _ _ _ (from_le_bytes-to_le_bytes_2 i.code is.code) refl refl (from_le_bytes-to_le_bytes_4 i.k is.k)

-- ---- all of them

-- stored instructions are found again
pub stored_insns-flat_map : (insns : List Insn) → AllByRecursion InRange insns → stored_insns (length insns) (flat_map insn_bytes insns) ≡ insns
unfolding stored_insns
stored_insns-flat_map [] fit = refl
stored_insns-flat_map (i ∷ is) fit =
    ap (λ j. j ∷ stored_insns (length is) (flat_map insn_bytes is)) (first_insn-insn_bytes i (flat_map insn_bytes is) fit.0)
    ∙ ap (λ l. i ∷ l) (stored_insns-flat_map is fit.1)

-- bytes are those of the instructions that they store
pub flat_map-stored_insns : (count : ℕ) (bytes : List ℕ) → AreBytes bytes → length bytes ≡ INSN_LEN * count
    → flat_map insn_bytes (stored_insns count bytes) ≡ bytes
unfolding stored_insns
flat_map-stored_insns zero bytes fit len = sym (nil_from_length bytes (omega (arith, len)))
flat_map-stored_insns (suc count) bytes fit len =
    let rest = drop INSN_LEN bytes in
    ap (λ l. l ++ flat_map insn_bytes (stored_insns count rest)) (insn_bytes-first_insn bytes fit)
    ∙ ap (λ l. (get_or bytes 0 0 ∷ get_or bytes 1 0 ∷ get_or bytes 2 0 ∷ get_or bytes 3 0 ∷ get_or bytes 4 0 ∷ get_or bytes 5 0 ∷ get_or bytes 6 0
    ∷ get_or bytes 7 0 ∷ []) ++ l)
    (flat_map-stored_insns count rest (AreBytes-drop INSN_LEN bytes fit) (omega (arith, len, length-drop INSN_LEN bytes)))
    ∙ sym (eight_cells bytes (omega (arith, len)))

pub InRange-stored_insns : (count : ℕ) (bytes : List ℕ) → AreBytes bytes → AllByRecursion InRange (stored_insns count bytes)
unfolding stored_insns
InRange-stored_insns zero bytes fit = tt
InRange-stored_insns (suc count) bytes fit = (InRange-first_insn bytes fit, InRange-stored_insns count (drop INSN_LEN bytes) (AreBytes-drop INSN_LEN bytes fit))

-- ---- at a place

pub insn_past : (count place : ℕ) (bytes : List ℕ) → count ≤ place → slice_get (stored_insns count bytes) place ≡ None
unfolding stored_insns
insn_past zero place bytes past = refl
insn_past (suc count) zero bytes past = absurd (omega arith)
insn_past (suc count) (suc place) bytes past = insn_past count place (drop INSN_LEN bytes) (omega arith)

pub insn_there : (count place : ℕ) (bytes : List ℕ) → place < count
    → slice_get (stored_insns count bytes) place ≡ Some (first_insn (drop (INSN_LEN * place) bytes))
unfolding stored_insns
insn_there zero place bytes within = absurd (omega arith)
insn_there (suc count) zero bytes within = refl
insn_there (suc count) (suc place) bytes within =
    let next : INSN_LEN + INSN_LEN * place ≡ INSN_LEN * suc place = omega arith in
    insn_there count place (drop INSN_LEN bytes) (omega arith)
    ∙ ap (λ l. Some (first_insn l)) (drop-drop (INSN_LEN * place) INSN_LEN bytes ∙ ap (λ n. drop n bytes) next)

pub eight_there : (bytes : List ℕ) (at place : ℕ) → at ≡ place
    → slice_range bytes (INSN_LEN * at) (INSN_LEN * at + INSN_LEN) ≡ take INSN_LEN (drop (INSN_LEN * place) bytes)
eight_there bytes at place e =
    let many : INSN_LEN * at + INSN_LEN - INSN_LEN * at ≡ INSN_LEN = omega arith in
    ap (λ n. take n (drop (INSN_LEN * at) bytes)) many ∙ ap (λ n. take INSN_LEN (drop (INSN_LEN * n) bytes)) e

eight : (a b c d e f g h a' b' c' d' e' f' g' h' : ℕ) → a ≡ a' → b ≡ b' → c ≡ c' → d ≡ d' → e ≡ e' → f ≡ f' → g ≡ g' → h ≡ h'
    → a ∷ b ∷ c ∷ d ∷ e ∷ f ∷ g ∷ h ∷ [] ≡ a' ∷ b' ∷ c' ∷ d' ∷ e' ∷ f' ∷ g' ∷ h' ∷ []
eight a b c d e f g h a' b' c' d' e' f' g' h' ea eb ec ed ee ef eg eh = cc

-- the instruction that was made of the 8 bytes there
pub insn_read : (count place : ℕ) (bytes taken : List ℕ) (made : Insn) → AreBytes bytes → place < count
    → taken ≡ take INSN_LEN (drop (INSN_LEN * place) bytes)
    → ((insn : Insn) → InRange insn → insn_bytes insn ≡ get_or taken 0 0 ∷ get_or taken 1 0 ∷ get_or taken 2 0 ∷ get_or taken 3 0 ∷ get_or taken 4 0
    ∷ get_or taken 5 0 ∷ get_or taken 6 0 ∷ get_or taken 7 0 ∷ [] → made ≡ insn)
    → Some made ≡ slice_get (stored_insns count bytes) place
insn_read count place bytes taken made fit within e inverse =
    let there = drop (INSN_LEN * place) bytes in
    let there_fit = AreBytes-drop (INSN_LEN * place) bytes fit in
    let cell : (i : ℕ) → i < INSN_LEN → get_or there i 0 ≡ get_or taken i 0 = λ i lt. sym (ap (λ l. get_or l i 0) e ∙ get_or-take INSN_LEN there i 0 lt) in
    let same : insn_bytes (first_insn there) ≡ get_or taken 0 0 ∷ get_or taken 1 0 ∷ get_or taken 2 0 ∷ get_or taken 3 0 ∷ get_or taken 4 0 ∷ get_or taken 5 0
    ∷ get_or taken 6 0 ∷ get_or taken 7 0 ∷ [] =
    insn_bytes-first_insn there there_fit
    ∙ eight _ _ _ _ _ _ _ _ _ _ _ _ _ _ _ _ (cell 0 (omega arith)) (cell 1 (omega arith)) (cell 2 (omega arith)) (cell 3 (omega arith)) (cell 4 (omega arith))
    (cell 5 (omega arith)) (cell 6 (omega arith)) (cell 7 (omega arith)) in
    ap (λ i. Some i) (inverse (first_insn there) (InRange-first_insn there there_fit) same) ∙ sym (insn_there count place bytes within)
