-- Frames that are copied: their words, their lengths, and that they are read back.
use Rattle.std.proofs.Common.{◌≡◌, ℕ, ◌+◌, ◌*◌, ◌/◌, ◌%◌, ◌^◌, ◌<◌, inl, Bool, true, false, cond, List, [], ◌∷◌}
use Rattle.std.proofs.Common.{◌++◌, length, drop, replicate, refl, sym, ap, ◌∙◌, append_assoc, append-nil, arith}
use Rattle.std.specs.Prelude.{All}
use Rattle.std.specs.Int.{w32, to_le_bytes}
use Rattle.std.specs.List.{flat_map}
use Rattle.std.proofs.lemmas.List.{length-append, length-replicate}
use Rattle.std.proofs.lemmas.List.Elements.{All-head, All-tail}
use Rattle.ch11_packet.specs.Frames.{frame_filler, frame_len}
use Rattle.ch11_packet.specs.FramesRead.{ReadFrameData, IsReadFrame, SpellsFrame, SpellsBody, BeginsFrames, first_reads}
use Rattle.ch11_packet.proofs.FirstFrames.{first_reads-Begins}
use Rattle.ch11_merge.specs.Short.{frames_len}
use Rattle.ch11_file.specs.CopiedFrames.{copied_header, copied_frame, frames_body}
use Rattle.ch11_file.specs.HeldPieces.{copies_held}

-- ---- the word

abbrev pub word : (len net speed content : ℕ) (frame_error crc_error : Bool) → ℕ
word len net speed content frame_error crc_error =
    len + 0 * 2 ^ 14 + net * 2 ^ 16 + speed * 2 ^ 24 + content * 2 ^ 28 + cond frame_error (2 ^ 30) 0 + cond crc_error (2 ^ 31) 0

four : (a b c d a' b' c' d' : ℕ) → a ≡ a' → b ≡ b' → c ≡ c' → d ≡ d' → a ∷ b ∷ c ∷ d ∷ [] ≡ a' ∷ b' ∷ c' ∷ d' ∷ []
four a b c d a' b' c' d' ea eb ec ed = cc

-- the word's four bytes
pub copied_word : (len net speed content : ℕ) (frame_error crc_error : Bool) → len < 2 ^ 14 → net < 2 ^ 8 → speed < 2 ^ 4 → content < 2 ^ 2
    → to_le_bytes w32 (word len net speed content frame_error crc_error)
    ≡ len % 256 ∷ len / 256 % 256 ∷ net ∷ (speed + content * 16 + cond frame_error 64 0 + cond crc_error 128 0) ∷ []
copied_word len net speed content false false l n s k = four _ _ _ _ _ _ _ _ (omega arith) (omega arith) (omega arith) (omega arith)
copied_word len net speed content false true l n s k = four _ _ _ _ _ _ _ _ (omega arith) (omega arith) (omega arith) (omega arith)
copied_word len net speed content true false l n s k = four _ _ _ _ _ _ _ _ (omega arith) (omega arith) (omega arith) (omega arith)
copied_word len net speed content true true l n s k = four _ _ _ _ _ _ _ _ (omega arith) (omega arith) (omega arith) (omega arith)

-- ---- lengths

pub length-copied_frame : (frame : ReadFrameData) → length (copied_frame frame) ≡ frame_len (length frame.bytes)
unfolding copied_frame
length-copied_frame frame =
    omega (arith, length-append frame.bytes (frame_filler (length frame.bytes)), length-replicate {A = ℕ} (length frame.bytes % 2) 0)

pub length-copies : (frames : List ReadFrameData) → length (flat_map copied_frame frames) ≡ frames_len frames
length-copies [] = refl
length-copies (f ∷ fs) =
    omega (arith, length-append (copied_frame f) (flat_map copied_frame fs), length-copied_frame f, length-copies fs)

-- ---- read back

SpellsFrame-copied : (frame : ReadFrameData) → IsReadFrame frame → SpellsFrame frame (copied_header frame ++ frame.bytes)
SpellsFrame-copied frame is = record {
  in_range = is;
  unused = 0;
  spare = 0;
  spare_fits = omega arith;
  whole = refl;
}

pub Begins-copied : (frames : List ReadFrameData) → All IsReadFrame frames → BeginsFrames frames (flat_map copied_frame frames) []
unfolding copied_frame
Begins-copied [] each = refl
Begins-copied (f ∷ fs) each =
    let rest = flat_map copied_frame fs in
    let filler = frame_filler (length f.bytes) in
    let header = copied_header f in (
      rest,
      record {
        spelling = header ++ f.bytes;
        filler = filler;
        spelled = SpellsFrame-copied f (All-head IsReadFrame f fs each);
        filled = inl (length-replicate {A = ℕ} (length f.bytes % 2) 0);
        whole = append_assoc header (f.bytes ++ filler) rest ∙ ap (λ l. header ++ l) (append_assoc f.bytes filler rest)
            ∙ sym (append_assoc header f.bytes (filler ++ rest));
      },
      Begins-copied fs (All-tail IsReadFrame f fs each),
    )

-- the frames that are found in the bytes are those that they hold
pub held-copied : (word count : ℕ) (frames : List ReadFrameData) (bytes : List ℕ) → bytes ≡ to_le_bytes w32 word ++ flat_map copied_frame frames
    → All IsReadFrame frames → count ≡ length frames → copies_held count bytes ≡ frames
unfolding copies_held
held-copied word count frames bytes are each many =
    ap (λ n. copies_held n bytes) many
    ∙ ap (λ l. first_reads (length frames) (drop 4 l)) are
    ∙ first_reads-Begins frames (flat_map copied_frame frames) [] (Begins-copied frames each)

pub SpellsBody-copied : (frames : List ReadFrameData) → All IsReadFrame frames → length frames < 2 ^ 16 → SpellsBody frames (frames_body frames)
unfolding frames_body
SpellsBody-copied frames each few = record {
  few = few;
  spare = 0;
  spare_fits = omega arith;
  rest = flat_map copied_frame frames;
  whole = ap (λ n. to_le_bytes w32 n ++ flat_map copied_frame frames) (omega arith);
  held = Begins-copied frames each;
}

-- ---- a frame is added

parts : (old h b t a1 a2 a3 : List ℕ) → a1 ≡ old ++ h → a2 ≡ a1 ++ b → a3 ≡ a2 ++ t → a3 ≡ old ++ (h ++ (b ++ t))
parts old h b t a1 a2 a3 e1 e2 e3 = e3 ∙ ap (λ l. l ++ t) (e2 ∙ ap (λ l. l ++ b) e1) ∙ simp append_assoc

pub copied_odd : (frame : ReadFrameData) (old h a1 a2 a3 : List ℕ) → h ≡ copied_header frame → a1 ≡ old ++ h → a2 ≡ a1 ++ frame.bytes
    → a3 ≡ a2 ++ 0 ∷ [] → length frame.bytes % 2 ≡ 1 → a3 ≡ old ++ copied_frame frame
unfolding copied_frame
copied_odd frame old h a1 a2 a3 eh e1 e2 e3 odd =
    parts old h frame.bytes (0 ∷ []) a1 a2 a3 e1 e2 e3
    ∙ ap (λ l. old ++ (l ++ (frame.bytes ++ 0 ∷ []))) eh
    ∙ ap (λ n. old ++ (copied_header frame ++ (frame.bytes ++ replicate n 0))) (sym odd)

pub copied_even : (frame : ReadFrameData) (old h a1 a2 : List ℕ) → h ≡ copied_header frame → a1 ≡ old ++ h → a2 ≡ a1 ++ frame.bytes
    → length frame.bytes % 2 ≡ 0 → a2 ≡ old ++ copied_frame frame
unfolding copied_frame
copied_even frame old h a1 a2 eh e1 e2 even =
    sym (append-nil a2) ∙ parts old h frame.bytes [] a1 a2 (a2 ++ []) e1 e2 refl
    ∙ ap (λ l. old ++ (l ++ (frame.bytes ++ []))) eh
    ∙ ap (λ n. old ++ (copied_header frame ++ (frame.bytes ++ replicate n 0))) (sym even)
