-- What isn't judged may be replaced by anything else.
use Rattle.std.proofs.Common.{◌≡◌, ℕ, ◌+◌, ◌*◌, ◌/◌, ◌%◌, ◌^◌, ◌<◌, List, [], ◌++◌, length, take, drop, sym, ap, subst, ◌∙◌, arith}
use Rattle.std.specs.Int.{w16, w32, to_le_bytes}
use Rattle.std.proofs.lemmas.Nat.{from_le_bytes-to_le_bytes_4}
use Rattle.ch11_packet.specs.declared.frames.word.TheConstants.{BODY_WORD_LEN}
use Rattle.eth_frame.specs.Bytes.{u32_at}
use Rattle.ch11_packet.specs.FramesRead.{ReadFrameData, SpellsFrame, BeginsFrames, SpellsBody}

-- the bits of a body's word
pub other_word : (frames : List ReadFrameData) (word other : ℕ) (rest : List ℕ) → word < 2 ^ 32 → other < 2 ^ 28 → other % 2 ^ 16 ≡ word % 2 ^ 16
    → SpellsBody frames (to_le_bytes w32 word ++ rest) → SpellsBody frames (to_le_bytes w32 other ++ rest)
other_word frames word other rest fits other_fits same body =
    let few = body.few in
    let spare = body.spare_fits in
    let old = length frames + body.spare * 2 ^ 16 in
    let said : word ≡ old =
    sym (from_le_bytes-to_le_bytes_4 word fits) ∙ ap (λ l. u32_at l 0) body.whole ∙ from_le_bytes-to_le_bytes_4 old (omega arith) in
    let now : other ≡ length frames + other / 2 ^ 16 * 2 ^ 16 = omega arith in
    record {
      few = few;
      spare = other / 2 ^ 16;
      spare_fits = omega arith;
      rest = rest;
      whole = ap (λ w. to_le_bytes w32 w ++ rest) now;
      held = subst (λ l. BeginsFrames frames l []) (sym (ap (drop BODY_WORD_LEN) body.whole)) body.held;
    }

-- the two bytes after a frame's counter
pub other_unused : (frame : ReadFrameData) (spelling : List ℕ) (other : ℕ) → SpellsFrame frame spelling
    → SpellsFrame frame (take 6 spelling ++ to_le_bytes w16 other ++ drop 8 spelling)
other_unused frame spelling other is = record {
  in_range = is.in_range;
  unused = other;
  spare = is.spare;
  spare_fits = is.spare_fits;
  whole = ap (λ l. take 6 l ++ to_le_bytes w16 other ++ drop 8 l) is.whole;
}
