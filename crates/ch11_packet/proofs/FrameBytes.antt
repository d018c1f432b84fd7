-- A frame in a body: its word, its header, and that its bytes spell it.
use Rattle.std.proofs.Common.{◌≡◌, ℕ, ◌+◌, ◌*◌, ◌/◌, ◌%◌, ◌^◌, ◌<◌, ◌≤◌, inl, Bool, true, false, cond, List, [], ◌∷◌}
use Rattle.std.proofs.Common.{◌++◌, length, map, replicate, refl, sym, ap, ◌∙◌, append_assoc, arith}
use Rattle.std.specs.Prelude.{All}
use Rattle.std.specs.Int.{w16, w32, to_le_bytes, bytes_low_first}
use Rattle.std.specs.List.{flat_map}
use Rattle.std.proofs.lemmas.List.{append-nil, length-append, length-map, length-replicate}
use Rattle.std.proofs.lemmas.List.Elements.{All-head, All-tail}
use Rattle.eth_frame.specs.Frame.{FrameData, IsFrame}
use Rattle.ch11_packet.specs.declared.frames.word.TheConstants.{MAX_SPEED}
use Rattle.ch11_packet.specs.Frames.{frame_word, frame_header, frame_filler, frame_bytes, frame_len}
use Rattle.ch11_packet.specs.FramesRead.{body_frame, frame_in, first_reads, read_word, SpellsFrame, BeginsFrames}
use Rattle.ch11_packet.proofs.FirstFrames.{first_reads-Begins}

-- ---- the word

abbrev pub word : (len net speed : ℕ) (frame_error crc_error : Bool) → ℕ
word len net speed frame_error crc_error =
    len + net * 2 ^ 16 + speed * 2 ^ 24 + cond frame_error (2 ^ 30) 0 + cond crc_error (2 ^ 31) 0

four : (a b c d a' b' c' d' : ℕ) → a ≡ a' → b ≡ b' → c ≡ c' → d ≡ d' → a ∷ b ∷ c ∷ d ∷ [] ≡ a' ∷ b' ∷ c' ∷ d' ∷ []
four a b c d a' b' c' d' ea eb ec ed = cc

-- the word's four bytes
pub word_bytes : (len net speed : ℕ) (frame_error crc_error : Bool) → len < 2 ^ 14 → net < 2 ^ 8 → speed ≤ MAX_SPEED
    → to_le_bytes w32 (word len net speed frame_error crc_error)
    ≡ len % 256 ∷ len / 256 % 256 ∷ net ∷ (speed + cond frame_error 64 0 + cond crc_error 128 0) ∷ []
word_bytes len net speed false false l n s = four _ _ _ _ _ _ _ _ (omega arith) (omega arith) (omega arith) (omega arith)
word_bytes len net speed false true l n s = four _ _ _ _ _ _ _ _ (omega arith) (omega arith) (omega arith) (omega arith)
word_bytes len net speed true false l n s = four _ _ _ _ _ _ _ _ (omega arith) (omega arith) (omega arith) (omega arith)
word_bytes len net speed true true l n s = four _ _ _ _ _ _ _ _ (omega arith) (omega arith) (omega arith) (omega arith)

-- ---- the bytes of frames spell them

-- a network identifier and a speed, in range
pub record AreFields (net speed : ℕ) : Type 0 where
  pub net_fits : net < 2 ^ 8
  pub speed_fits : speed ≤ MAX_SPEED

SpellsFrame-written : (net speed : ℕ) (frame : FrameData) → AreFields net speed → IsFrame frame
    → SpellsFrame (body_frame net speed frame) (frame_header net speed frame ++ frame.bytes)
SpellsFrame-written net speed frame fields is =
    let same : frame_word net speed frame ≡ read_word (body_frame net speed frame) 0 = omega arith in
    record {
      in_range = record {
        counter = is.counter;
        net = fields.net_fits;
        speed = omega (arith, fields.speed_fits);
        content = omega arith;
        longest = omega (arith, is.longest);
      };
      unused = 0;
      spare = 0;
      spare_fits = omega arith;
      whole = ap (λ w. bytes_low_first 0 6 frame.counter ++ to_le_bytes w16 0 ++ to_le_bytes w32 w ++ frame.bytes) same;
    }

pub Begins-written : (net speed : ℕ) (frames : List FrameData) → AreFields net speed → All IsFrame frames
    → BeginsFrames (map (body_frame net speed) frames) (flat_map (frame_bytes net speed) frames) []
unfolding frame_bytes
Begins-written net speed [] fields each = refl
Begins-written net speed (f ∷ fs) fields each =
    let rest = flat_map (frame_bytes net speed) fs in
    let filler = frame_filler (length f.bytes) in
    let header = frame_header net speed f in (
      rest,
      record {
        spelling = header ++ f.bytes;
        filler = filler;
        spelled = SpellsFrame-written net speed f fields (All-head IsFrame f fs each);
        filled = inl (length-replicate {A = ℕ} (length f.bytes % 2) 0);
        whole = append_assoc header (f.bytes ++ filler) rest ∙ ap (λ l. header ++ l) (append_assoc f.bytes filler rest)
            ∙ sym (append_assoc header f.bytes (filler ++ rest));
      },
      Begins-written net speed fs fields (All-tail IsFrame f fs each),
    )

frames_again : (net speed : ℕ) (frames : List FrameData) → map frame_in (map (body_frame net speed) frames) ≡ frames
frames_again net speed [] = refl
frames_again net speed (f ∷ fs) = ap (λ l. f ∷ l) (frames_again net speed fs)

-- the frames of a body are found again
pub first_reads-flat_map : (net speed : ℕ) (frames : List FrameData) → AreFields net speed → All IsFrame frames
    → map frame_in (first_reads (length frames) (flat_map (frame_bytes net speed) frames)) ≡ frames
first_reads-flat_map net speed frames fields each =
    let bytes = flat_map (frame_bytes net speed) frames in
    let found = first_reads-Begins (map (body_frame net speed) frames) bytes [] (Begins-written net speed frames fields each) in
    ap (λ n. map frame_in (first_reads n bytes)) (sym (length-map frames (body_frame net speed))) ∙ ap (map frame_in) found ∙ frames_again net speed frames

pub length-frame_bytes : (net speed : ℕ) (frame : FrameData) → length (frame_bytes net speed frame) ≡ frame_len (length frame.bytes)
unfolding frame_bytes
length-frame_bytes net speed frame =
    omega (arith, length-append frame.bytes (frame_filler (length frame.bytes)), length-replicate {A = ℕ} (length frame.bytes % 2) 0)

-- ---- a frame is added

pieces : (old h b t a1 a2 a3 : List ℕ) → a1 ≡ old ++ h → a2 ≡ a1 ++ b → a3 ≡ a2 ++ t → a3 ≡ old ++ (h ++ (b ++ t))
pieces old h b t a1 a2 a3 e1 e2 e3 = e3 ∙ ap (λ l. l ++ t) (e2 ∙ ap (λ l. l ++ b) e1) ∙ simp append_assoc

pub added_odd : (net speed : ℕ) (frame : FrameData) (old h a1 a2 a3 : List ℕ) → h ≡ frame_header net speed frame → a1 ≡ old ++ h → a2 ≡ a1 ++ frame.bytes
    → a3 ≡ a2 ++ 0 ∷ []
    → length frame.bytes % 2 ≡ 1 → a3 ≡ old ++ frame_bytes net speed frame
unfolding frame_bytes
added_odd net speed frame old h a1 a2 a3 eh e1 e2 e3 odd =
    pieces old h frame.bytes (0 ∷ []) a1 a2 a3 e1 e2 e3
    ∙ ap (λ l. old ++ (l ++ (frame.bytes ++ 0 ∷ []))) eh
    ∙ ap (λ n. old ++ (frame_header net speed frame ++ (frame.bytes ++ replicate n 0))) (sym odd)

pub added_even : (net speed : ℕ) (frame : FrameData) (old h a1 a2 : List ℕ) → h ≡ frame_header net speed frame → a1 ≡ old ++ h → a2 ≡ a1 ++ frame.bytes
    → length frame.bytes % 2 ≡ 0 → a2 ≡ old ++ frame_bytes net speed frame
unfolding frame_bytes
added_even net speed frame old h a1 a2 eh e1 e2 even =
    sym (append-nil a2) ∙ pieces old h frame.bytes [] a1 a2 (a2 ++ []) e1 e2 refl
    ∙ ap (λ l. old ++ (l ++ (frame.bytes ++ []))) eh
    ∙ ap (λ n. old ++ (frame_header net speed frame ++ (frame.bytes ++ replicate n 0))) (sym even)
