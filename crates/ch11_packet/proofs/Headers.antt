-- A header's bytes say its fields, and 24 bytes with the sync pattern and their checksum are those of
-- the fields that they say.
use Rattle.std.proofs.Common.{◌≡◌, ℕ, List, [], ◌∷◌, ◌++◌, length, get_or, take, Option, None, Some, refl, sym, ap, subst, ◌∙◌, arith}
use Rattle.std.specs.Prelude.{IsSome, IfSome, IfOk, IsOkAnd}
use Rattle.std.specs.Option.{ok_or}
use Rattle.std.specs.Int.{w16, w32, to_le_bytes, bytes_low_first}
use Rattle.std.proofs.lemmas.Nat.{from_le_bytes-to_le_bytes_2, from_le_bytes-to_le_bytes_4}
use Rattle.eth_frame.proofs.Bytes.{two_bytes, four_bytes, six_bytes, six_again}
use Rattle.ch11_packet.specs.declared.header.TheConstants.{SYNC_PATTERN, HEADER_LEN, CHECKED_LEN}
use Rattle.ch11_packet.specs.declared.header.Header.{Header}
use Rattle.ch11_packet.specs.declared.header.HeaderFault.TheVariants.{Length}
use Rattle.eth_frame.specs.Bytes.{AreBytes, u16_at, u32_at, u48_at}
use Rattle.ch11_packet.specs.Header.{header_sum, HeaderData, header_of, IsHeader, checked_bytes, header_bytes, header_at, HasSync, HasHeaderSum, HasLengths}
use Rattle.ch11_packet.specs.Views.{header_data}

-- ---- headers

pub same_header : (c p d v s f k t c' p' d' t' : ℕ) → c ≡ c' → p ≡ p' → d ≡ d' → t ≡ t' → header_of c p d v s f k t ≡ header_of c' p' d' v s f k t'
same_header c p d v s f k t c' p' d' t' ec ep ed et = cc

-- the fields that were read are those that the bytes say
pub fields_read : (bytes : List ℕ) (channel packet_len data_len counter : ℕ) → channel ≡ u16_at bytes 2 → packet_len ≡ u32_at bytes 4
    → data_len ≡ u32_at bytes 8 → counter ≡ u48_at bytes 16
    → header_of channel packet_len data_len (get_or bytes 12 0) (get_or bytes 13 0) (get_or bytes 14 0) (get_or bytes 15 0) counter ≡ header_at bytes
fields_read bytes channel packet_len data_len counter ec ep ed et = same_header _ _ _ _ _ _ _ _ _ _ _ _ ec ep ed et

-- a header's bytes say its fields
pub header_at-header_bytes : (header : HeaderData) → IsHeader header → header_at (header_bytes header) ≡ header
unfolding header_bytes
header_at-header_bytes h is =
    same_header _ _ _ _ _ _ _ _ _ _ _ _
    (from_le_bytes-to_le_bytes_2 h.channel is.channel)
    (from_le_bytes-to_le_bytes_4 h.packet_len is.packet_len)
    (from_le_bytes-to_le_bytes_4 h.data_len (let holds = is.lengths.holds in let fits = is.packet_len in omega arith))
    (six_again h.counter is.counter)

pub HasSync-header_bytes : (header : HeaderData) → HasSync (header_bytes header)
unfolding header_bytes
HasSync-header_bytes header = refl

pub HasHeaderSum-header_bytes : (header : HeaderData) → HasHeaderSum (header_bytes header)
unfolding header_bytes
HasHeaderSum-header_bytes header =
    from_le_bytes-to_le_bytes_2 (header_sum (checked_bytes header)) (omega arith)

-- a header's bytes have the sync pattern and the sum of their words
pub header_checks : (bytes : List ℕ) (header : HeaderData) → bytes ≡ header_bytes header → HasSync bytes × HasHeaderSum bytes
header_checks bytes header e = (subst HasSync (sym e) (HasSync-header_bytes header), subst HasHeaderSum (sym e) (HasHeaderSum-header_bytes header))

-- 24 bytes, one by one
cells : (bytes : List ℕ) → length bytes ≡ HEADER_LEN → bytes ≡
    get_or bytes 0 0 ∷ get_or bytes 1 0 ∷ get_or bytes 2 0 ∷ get_or bytes 3 0 ∷ get_or bytes 4 0 ∷ get_or bytes 5 0
    ∷ get_or bytes 6 0 ∷ get_or bytes 7 0 ∷ get_or bytes 8 0 ∷ get_or bytes 9 0 ∷ get_or bytes 10 0 ∷ get_or bytes 11 0
    ∷ get_or bytes 12 0 ∷ get_or bytes 13 0 ∷ get_or bytes 14 0 ∷ get_or bytes 15 0 ∷ get_or bytes 16 0 ∷ get_or bytes 17 0
    ∷ get_or bytes 18 0 ∷ get_or bytes 19 0 ∷ get_or bytes 20 0 ∷ get_or bytes 21 0 ∷ get_or bytes 22 0 ∷ get_or bytes 23 0 ∷ []
cells (a ∷ b ∷ c ∷ d ∷ e ∷ f ∷ g ∷ h ∷ i ∷ j ∷ k ∷ l ∷ m ∷ n ∷ o ∷ p ∷ q ∷ r ∷ s ∷ t ∷ u ∷ v ∷ w ∷ x ∷ []) len = refl
cells other len = absurd (omega arith)

-- 24 bytes with the sync pattern and their checksum are those of the fields that they say
pub header_bytes-header_at : (bytes : List ℕ) → length bytes ≡ HEADER_LEN → AreBytes bytes → HasSync bytes → HasHeaderSum bytes
    → bytes ≡ header_bytes (header_at bytes)
unfolding header_bytes
header_bytes-header_at bytes len fit sync sum =
    let at = λ (i : ℕ). get_or bytes i 0 in
    let whole = cells bytes len in
    let first : to_le_bytes w16 SYNC_PATTERN ≡ at 0 ∷ at 1 ∷ [] = ap (to_le_bytes w16) (sym sync) ∙ two_bytes _ _ (fit 0) (fit 1) in
    let channel = two_bytes (at 2) (at 3) (fit 2) (fit 3) in
    let packet_len = four_bytes (at 4) (at 5) (at 6) (at 7) (fit 4) (fit 5) (fit 6) (fit 7) in
    let data_len = four_bytes (at 8) (at 9) (at 10) (at 11) (fit 8) (fit 9) (fit 10) (fit 11) in
    let counter = six_bytes (at 16) (at 17) (at 18) (at 19) (at 20) (at 21) (fit 16) (fit 17) (fit 18) (fit 19) (fit 20) (fit 21) in
    let four = at 12 ∷ at 13 ∷ at 14 ∷ at 15 ∷ [] in
    let checked : checked_bytes (header_at bytes) ≡ take CHECKED_LEN bytes =
    ap (λ l. l ++ to_le_bytes w16 (u16_at bytes 2) ++ to_le_bytes w32 (u32_at bytes 4) ++ to_le_bytes w32 (u32_at bytes 8)
    ++ (four ++ bytes_low_first 0 6 (u48_at bytes 16))) first
    ∙ ap (λ l. (at 0 ∷ at 1 ∷ []) ++ l ++ to_le_bytes w32 (u32_at bytes 4) ++ to_le_bytes w32 (u32_at bytes 8)
    ++ (four ++ bytes_low_first 0 6 (u48_at bytes 16))) channel
    ∙ ap (λ l. (at 0 ∷ at 1 ∷ at 2 ∷ at 3 ∷ []) ++ l ++ to_le_bytes w32 (u32_at bytes 8) ++ (four ++ bytes_low_first 0 6 (u48_at bytes 16))) packet_len
    ∙ ap (λ l. (at 0 ∷ at 1 ∷ at 2 ∷ at 3 ∷ at 4 ∷ at 5 ∷ at 6 ∷ at 7 ∷ []) ++ l ++ (four ++ bytes_low_first 0 6 (u48_at bytes 16))) data_len
    ∙ ap (λ l. (at 0 ∷ at 1 ∷ at 2 ∷ at 3 ∷ at 4 ∷ at 5 ∷ at 6 ∷ at 7 ∷ at 8 ∷ at 9 ∷ at 10 ∷ at 11 ∷ []) ++ (four ++ l)) counter
    ∙ sym (ap (take CHECKED_LEN) whole) in
    let last : to_le_bytes w16 (header_sum (checked_bytes (header_at bytes))) ≡ at 22 ∷ at 23 ∷ [] =
    ap (λ l. to_le_bytes w16 (header_sum l)) checked ∙ ap (to_le_bytes w16) (sym sum) ∙ two_bytes _ _ (fit 22) (fit 23) in
    whole ∙ ap (λ l. l ++ (at 22 ∷ at 23 ∷ [])) (sym (checked ∙ ap (take CHECKED_LEN) whole)) ∙ ap (λ l. checked_bytes (header_at bytes) ++ l) (sym last)

-- what 24 bytes say is in range
pub IsHeader-header_at : (bytes : List ℕ) → AreBytes bytes → HasLengths bytes → IsHeader (header_at bytes)
IsHeader-header_at bytes fit lengths = record {
  channel = omega (arith, fit 2, fit 3);
  packet_len = omega (arith, fit 4, fit 5, fit 6, fit 7);
  version = fit 12;
  sequence = fit 13;
  flags = fit 14;
  kind = fit 15;
  counter = omega (arith, fit 16, fit 17, fit 18, fit 19, fit 20, fit 21);
  lengths = lengths;
}

-- ---- what was made of the fields

pub spelled_by : (bytes : List ℕ) (made : Option Header) (fields : HeaderData) → bytes ≡ header_bytes fields
    → IfSome made (λ header. header_data header ≡ fields)
    → IfOk (ok_or made Length) (λ header. bytes ≡ header_bytes (header_data header))
spelled_by bytes None fields e made = tt
spelled_by bytes (Some header) fields e made = e ∙ ap header_bytes (sym made)

pub read_as : (made : Option Header) (fields header : HeaderData) → fields ≡ header → IsSome made → IfSome made (λ read. header_data read ≡ fields)
    → IsOkAnd (ok_or made Length) (λ read. header_data read ≡ header)
read_as None fields header e some made = absurd cc
read_as (Some read) fields header e some made = made ∙ e
