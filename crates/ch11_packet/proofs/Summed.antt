-- The data checksum of a packet that is written is right.
use Rattle.std.proofs.Common.{ℕ, ◌+◌, ◌-◌, ◌^◌, ◌≡◌, ◌<◌, List, [], ◌∷◌, ◌++◌, length, take, refl, sym, ap, subst, ◌∙◌, arith}
use Rattle.std.specs.Prelude.{replicate}
use Rattle.std.specs.Int.{w32, from_le_bytes, to_le_bytes, next_multiple_of}
use Rattle.std.proofs.lemmas.List.{append_assoc, length-append, take_at, get_or_at, get_or-append-add}
use Rattle.std.proofs.lemmas.Nat.{from_le_bytes-to_le_bytes_4}
use Rattle.eth_frame.specs.Bytes.{u32_at}
use Rattle.ch11_packet.specs.declared.header.TheConstants.{HEADER_LEN}
use Rattle.ch11_packet.specs.declared.sum.TheConstants.{CHECKSUM_LEN}
use Rattle.ch11_packet.specs.Sums.{word_filler, body_sum}
use Rattle.ch11_packet.specs.Profiles.Profile.{WithSum}
use Rattle.ch11_packet.specs.PacketLen.{packet_len}
use Rattle.ch11_packet.specs.Packet.{packet_filler, packet_trailer}
use Rattle.ch11_packet.specs.Classes.{HasSum}
use Rattle.ch11_packet.proofs.Sums.{sum_filled, sum_below}

-- the filler of a packet is that of whole words, since a header is made of whole words
filler-is : (n : ℕ) → packet_filler n ≡ word_filler n
filler-is n =
    let same : packet_len n - (HEADER_LEN + n) ≡ next_multiple_of n 4 - n = omega arith in
    ap (λ k. replicate {A = ℕ} k 0) same

pub sum_of_filled : (body : List ℕ) → body_sum (body ++ packet_filler (length body)) ≡ body_sum body
sum_of_filled body = ap (λ l. body_sum (body ++ l)) (filler-is (length body)) ∙ sum_filled body

-- the number of four bytes behind others
u32_behind : (front : List ℕ) (a b c d : ℕ) → u32_at (front ++ a ∷ b ∷ c ∷ d ∷ []) (length front) ≡ from_le_bytes w32 (a ∷ b ∷ c ∷ d ∷ [])
u32_behind front a b c d =
    let last = a ∷ b ∷ c ∷ d ∷ [] in
    omega (
      arith,
      get_or_at front a (b ∷ c ∷ d ∷ []) 0 (length front) refl,
      get_or-append-add front last 1 0,
      get_or-append-add front last 2 0,
      get_or-append-add front last 3 0,
    )

-- the four bytes of a number at the end
last_four : (front : List ℕ) (n : ℕ) → n < 2 ^ 32 → u32_at (front ++ to_le_bytes w32 n) (length (front ++ to_le_bytes w32 n) - CHECKSUM_LEN) ≡ n
last_four front n fits =
    let four : length (to_le_bytes w32 n) ≡ 4 = refl in
    let at : length (front ++ to_le_bytes w32 n) - CHECKSUM_LEN ≡ length front = omega (arith, length-append front (to_le_bytes w32 n), four) in
    ap (u32_at (front ++ to_le_bytes w32 n)) at ∙ u32_behind front _ _ _ _ ∙ from_le_bytes-to_le_bytes_4 n fits

pub written_sum : (body : List ℕ) → HasSum (body ++ packet_trailer WithSum body)
written_sum body =
    let filled = body ++ packet_filler (length body) in
    let last = to_le_bytes w32 (body_sum body) in
    let same : body ++ packet_trailer WithSum body ≡ filled ++ last = sym (append_assoc body (packet_filler (length body)) last) in
    let four : length last ≡ 4 = refl in
    let at : length (filled ++ last) - CHECKSUM_LEN ≡ length filled = omega (arith, length-append filled last, four) in
    subst HasSum (sym same)
    (last_four filled (body_sum body) (sum_below body)
    ∙ sym (sum_of_filled body) ∙ ap body_sum (sym (ap (λ k. take k (filled ++ last)) at ∙ take_at filled last (length filled) refl)))
