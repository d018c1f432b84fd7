-- What a writer stands for after a packet, and after a part of one.
-- idea: the next number of a channel ID is the count of its packets, so one packet more is one more there and nothing
-- elsewhere, since no ID stands twice; the output is what was written before with the packet, or a part of it, behind.
use Rattle.std.proofs.Common.{inl, inr, Result, Ok, Err, OnOk, IfOk, IfErr, ℕ, zero, suc, ◌+◌, ◌≡◌, ◌≢◌, ◌<◌, List, [], ◌∷◌, ◌++◌, length}
use Rattle.std.proofs.Common.{take, drop, map, All, Option, None, Some, get_or, refl, sym, ◌∙◌, ap, subst, arith, if◌then◌else◌}
use Rattle.std.specs.Prelude.{slice_get, ◌-◌, slice_set, ◌%◌, ◌^◌, ◌==◌, min, count_by, Bool, true, false}
use Rattle.std.specs.Io.KnownBytes.{Appends}
use Rattle.std.proofs.KnownBytes.{Appends-trans}
use Rattle.std.proofs.lemmas.List.{append_assoc, append-nil, length-append, length-map, length-set}
use Rattle.std.proofs.lemmas.List.{length-drop, length-take-le, take-append-drop, get_or-set_other}
use Rattle.std.proofs.lemmas.List.Sums.{sum_by-append}
use Rattle.std.proofs.lemmas.Bool.{cases_Bool, cases_lt, cases_eq, eq-eqb, eqb-true}
use Rattle.std.proofs.lemmas.Grind.{get_or-set_at}
use Rattle.std.proofs.Math.Seq.{map-set_same}
use Rattle.std.proofs.lemmas.Option.{slice_get_within, get_or_from_slice_get}
use Rattle.rec_writer.proofs.NumberPlaces.{channel_at, other_default}
use Rattle.rec_lane.specs.Pieces.{PieceData}
use Rattle.rec_writer.specs.declared.numbers.Numbered.{Numbered}
use Rattle.rec_writer.specs.Encoding.{piece_packet, packet_channel, has_channel, next_sequence, output_after, writer_output}
use Rattle.rec_writer.specs.Numbers.{numbered_channels, AreNext, AreDistinctChannels, number_at, with_packet, fresh_numbers}
use Rattle.std.proofs.lemmas.List.Elements.{All-map}
use Rattle.rec_writer.specs.declared.fault.WriteFault.{WriteFault}
use Rattle.rec_writer.specs.Writers.{WriterState, HasWritten, IsCutPiece, IsWriter, PutsWhole, PutFails, SendsWhole, SendsPart}

-- the packet of a further piece goes behind the others
pub output_more : (version : ℕ) (earlier pieces : List PieceData) (piece : PieceData)
    → output_after version earlier (pieces ++ piece ∷ []) ≡ output_after version earlier pieces
    ++ piece_packet piece version (next_sequence (earlier ++ pieces) (packet_channel piece))
output_more version earlier [] piece = append-nil (piece_packet piece version (next_sequence earlier (packet_channel piece)))
    ∙ ap (λ ps. piece_packet piece version (next_sequence ps (packet_channel piece))) (sym (append-nil earlier))
output_more version earlier (p ∷ ps) piece =
    let first = piece_packet p version (next_sequence earlier (packet_channel p)) in
    ap (λ bytes. first ++ bytes) (output_more version (earlier ++ p ∷ []) ps piece
    ∙ ap (λ qs. output_after version (earlier ++ p ∷ []) ps ++ piece_packet piece version (next_sequence qs (packet_channel piece)))
    (append_assoc earlier (p ∷ []) ps))
    ∙ sym (append_assoc first (output_after version (earlier ++ p ∷ []) ps)
    (piece_packet piece version (next_sequence (earlier ++ p ∷ ps) (packet_channel piece))))

-- ---- the numbers

counted_more : (pieces : List PieceData) (piece : PieceData) (channel : ℕ)
    → count_by (has_channel channel) (pieces ++ piece ∷ []) ≡ count_by (has_channel channel) pieces + (if packet_channel piece == channel then 1 else 0)
counted_more pieces piece channel = sum_by-append (λ (p : PieceData). if has_channel channel p then 1 else 0) pieces (piece ∷ []) ∙ omega arith

pub sequence_same : (pieces : List PieceData) (piece : PieceData) (channel : ℕ) → packet_channel piece ≡ channel
    → next_sequence (pieces ++ piece ∷ []) channel ≡ (next_sequence pieces channel + 1) % 256
sequence_same pieces piece channel same =
    let here : (packet_channel piece == channel) ≡ true = eq-eqb (packet_channel piece) channel same in
    let count = counted_more pieces piece channel ∙ ap (λ b. count_by (has_channel channel) pieces + (if b then 1 else 0)) here in
    ap (λ n. n % 256) count ∙ omega arith

pub sequence_other : (pieces : List PieceData) (piece : PieceData) (channel : ℕ) → packet_channel piece ≢ channel
    → next_sequence (pieces ++ piece ∷ []) channel ≡ next_sequence pieces channel
sequence_other pieces piece channel other = elim (cases_Bool (packet_channel piece == channel))
    as (λ _. next_sequence (pieces ++ piece ∷ []) channel ≡ next_sequence pieces channel) [
      | inl same ↦ absurd (other (eqb-true (packet_channel piece) channel same))
      | inr not_same ↦ (let count = counted_more pieces piece channel ∙ ap (λ b. count_by (has_channel channel) pieces + (if b then 1 else 0)) not_same in
          ap (λ n. n % 256) (count ∙ omega arith))
    ]

-- channel IDs that stand at two indexes differ
apart : (channels : List ℕ) (i j : ℕ) → AreDistinctChannels channels → i < length channels → j < length channels → i ≢ j
    → get_or channels i 0 ≢ get_or channels j 0
apart channels i j distinct below_i below_j other = elim (cases_lt i j) as (λ _. get_or channels i 0 ≢ get_or channels j 0) [
  | inl before ↦ distinct i j 0 before below_j
  | inr after ↦ (λ same. distinct j i 0 (omega (arith, after, other)) below_i (sym same))
]

-- the numbers after the piece's packet are those of the packets to come
pub next_numbers : (pieces : List PieceData) (piece : PieceData) (numbers : List Numbered) (at : ℕ)
    → AreDistinctChannels (numbered_channels numbers) → slice_get (numbered_channels numbers) at ≡ Some (packet_channel piece)
    → AreNext pieces numbers → AreNext (pieces ++ piece ∷ []) (with_packet numbers at)
next_numbers pieces piece numbers at distinct there next = λ k d within.
    let number : Numbered = number_at numbers at in
    let more : Numbered = record { channel = number.channel; next = (number.next + 1) % 256 } in
    let count = length-map numbers (λ (n : Numbered). n.channel) in
    let same_count = length-set numbers at more in
    let below : at < length numbers = (let e = slice_get_within (numbered_channels numbers) at (packet_channel piece) there in omega (arith, e, count)) in
    let below_k : k < length numbers = omega (arith, within, same_count) in
    let channel : packet_channel piece ≡ number.channel = sym (get_or_from_slice_get (numbered_channels numbers) at (packet_channel piece) 0 there)
    ∙ channel_at numbers at in
    let sequence : number.next ≡ next_sequence pieces number.channel = next at (record { channel = 0; next = 0 }) below in
    elim (cases_eq k at) as (λ _. (get_or (slice_set numbers at more) k d).next
    ≡ next_sequence (pieces ++ piece ∷ []) (get_or (slice_set numbers at more) k d).channel) [
      | inl same ↦ (
          let is : get_or (slice_set numbers at more) k d ≡ more = get_or-set_at numbers at k more d same below in
          ap (λ (n : Numbered). n.next) is
          ∙ (ap (λ n. (n + 1) % 256) sequence
          ∙ (sym (sequence_same pieces piece number.channel channel)
          ∙ ap (λ (n : Numbered). next_sequence (pieces ++ piece ∷ []) n.channel) (sym is))))
      | inr other ↦ (
          let is : get_or (slice_set numbers at more) k d ≡ get_or numbers k d = get_or-set_other numbers at k more d other in
          let differs : packet_channel piece ≢ (get_or numbers k d).channel = λ e.
          apart (numbered_channels numbers) at k distinct (omega (arith, below, count)) (omega (arith, below_k, count)) (λ f. other (sym f))
          (channel_at numbers at ∙ (sym channel ∙ (e ∙ (ap (λ (n : Numbered). n.channel) (other_default numbers k d (record { channel = 0; next = 0 }) below_k)
          ∙ sym (channel_at numbers k))))) in
          ap (λ (n : Numbered). n.next) is
          ∙ (next k d below_k
          ∙ (sym (sequence_other pieces piece (get_or numbers k d).channel differs)
          ∙ ap (λ (n : Numbered). next_sequence (pieces ++ piece ∷ []) n.channel) (sym is))))
    ]

-- the channel IDs are as before
pub same_channels : (numbers : List Numbered) (at : ℕ) → numbered_channels (with_packet numbers at) ≡ numbered_channels numbers
same_channels numbers at =
    let number : Numbered = number_at numbers at in
    map-set_same (λ (n : Numbered). n.channel) numbers at (record { channel = number.channel; next = (number.next + 1) % 256 })
    (record { channel = 0; next = 0 }) refl

pub channels_after : (old new : List Numbered) (at : ℕ) → new ≡ with_packet old at → numbered_channels new ≡ numbered_channels old
channels_after old new at counted = ap numbered_channels counted ∙ same_channels old at

-- ---- a packet

sequence_at : (pieces : List PieceData) (piece : PieceData) (numbers : List Numbered) (at : ℕ)
    → slice_get (numbered_channels numbers) at ≡ Some (packet_channel piece) → AreNext pieces numbers
    → (number_at numbers at).next ≡ next_sequence pieces (packet_channel piece)
sequence_at pieces piece numbers at there next =
    let count = length-map numbers (λ (n : Numbered). n.channel) in
    let below : at < length numbers = (let e = slice_get_within (numbered_channels numbers) at (packet_channel piece) there in omega (arith, e, count)) in
    next at (record { channel = 0; next = 0 }) below
    ∙ ap (next_sequence pieces) (sym (channel_at numbers at) ∙ get_or_from_slice_get (numbered_channels numbers) at (packet_channel piece) 0 there)

pub put_whole : (old new : WriterState) (piece : PieceData) (at : ℕ)
    → AreDistinctChannels (numbered_channels old.numbers) → slice_get (numbered_channels old.numbers) at ≡ Some (packet_channel piece)
    → new.version ≡ old.version → new.whole ≡ min (old.whole + 1) (2 ^ 64 - 1) → new.bytes ≡ old.bytes → new.numbers ≡ with_packet old.numbers at
    → Appends old.held new.held (piece_packet piece old.version (number_at old.numbers at).next)
    → (first : Option (List ℕ)) (pieces : List PieceData) → HasWritten first pieces [] old → HasWritten first (pieces ++ piece ∷ []) [] new
put_whole old new piece at distinct there version whole bytes numbers sent first pieces h = record {
  whole_is = (let e = h.whole_is in let l = length-append pieces (piece ∷ []) in omega (arith, whole, e, l));
  bytes_is = bytes ∙ h.bytes_is;
  held_is =
      let all : writer_output old.version (pieces ++ piece ∷ []) ++ []
      ≡ (writer_output old.version pieces ++ []) ++ piece_packet piece old.version (number_at old.numbers at).next =
      append-nil (writer_output old.version (pieces ++ piece ∷ []))
      ∙ (output_more old.version [] pieces piece
      ∙ (ap (λ bs. bs ++ piece_packet piece old.version (next_sequence pieces (packet_channel piece))) (sym (append-nil (writer_output old.version pieces)))
      ∙ ap (λ n. (writer_output old.version pieces ++ []) ++ piece_packet piece old.version n)
      (sym (sequence_at pieces piece old.numbers at there h.numbers_are)))) in
      subst (λ v. Appends first new.held (writer_output v (pieces ++ piece ∷ []) ++ [])) (sym version)
      (subst (λ bs. Appends first new.held bs) (sym all) (Appends-trans _ _ _ _ _ h.held_is sent));
  numbers_are = subst (λ ns. AreNext (pieces ++ piece ∷ []) ns) (sym numbers) (next_numbers pieces piece old.numbers at distinct there h.numbers_are);
}

pub puts_whole : (r : Result (Unit {0}) WriteFault) (old new : WriterState) (at channel : ℕ) (piece : PieceData)
    → old.failed ≡ false → OnOk r (SendsWhole old new at piece)
    → channel ≡ packet_channel piece → slice_get (numbered_channels old.numbers) at ≡ Some channel
    → AreDistinctChannels (numbered_channels old.numbers)
    → IfOk r (λ _. PutsWhole old new piece)
puts_whole (Err e) old new at channel piece worked sends channel_is there distinct = tt
puts_whole (Ok x) old new at channel piece worked sends channel_is there distinct = record {
  worked = worked;
  works = ap (λ (w : WriterState). w.failed) sends.counted ∙ worked;
  stands = λ first pieces h. put_whole old new piece at distinct (there ∙ ap (λ n. Some n) channel_is)
      (ap (λ (w : WriterState). w.version) sends.counted) (ap (λ (w : WriterState). w.whole) sends.counted)
      (ap (λ (w : WriterState). w.bytes) sends.counted) (ap (λ (w : WriterState). w.numbers) sends.counted)
      sends.sent first pieces h;
}

-- ---- a part of one

some_left : {X : Type 0} (n : ℕ) (xs : List X) → n < length xs → drop n xs ≢ []
some_left n xs below empty = (let e = ap (λ ys. length ys) empty in let l = length-drop n xs in omega (arith, e, l, below))

pub put_part : (old new : WriterState) (piece : PieceData) (at n : ℕ)
    → slice_get (numbered_channels old.numbers) at ≡ Some (packet_channel piece)
    → new.version ≡ old.version → new.whole ≡ old.whole → new.bytes ≡ n → new.numbers ≡ old.numbers
    → n < length (piece_packet piece old.version (number_at old.numbers at).next)
    → Appends old.held new.held (take n (piece_packet piece old.version (number_at old.numbers at).next))
    → (first : Option (List ℕ)) (pieces : List PieceData) → HasWritten first pieces [] old
    → (cut : List ℕ) × IsCutPiece old.version pieces piece cut × HasWritten first pieces cut new
put_part old new piece at n there version whole bytes numbers below sent first pieces h =
    let packet = piece_packet piece old.version (number_at old.numbers at).next in
    let same : packet ≡ piece_packet piece old.version (next_sequence pieces (packet_channel piece)) =
    ap (piece_packet piece old.version) (sequence_at pieces piece old.numbers at there h.numbers_are) in (
      take n packet,
      record {
        rest = drop n packet;
        some = some_left n packet below;
        front = take-append-drop n packet ∙ same;
      },
      record {
        whole_is = whole ∙ h.whole_is;
        bytes_is = bytes ∙ sym (length-take-le n packet (omega (arith, below)));
        held_is =
            subst (λ v. Appends first new.held (writer_output v pieces ++ take n packet)) (sym version)
            (subst (λ bs. Appends first new.held (bs ++ take n packet)) (append-nil (writer_output old.version pieces))
            (Appends-trans _ _ _ _ _ h.held_is sent));
        numbers_are = subst (λ ns. AreNext pieces ns) (sym numbers) h.numbers_are;
      },
    )

pub puts_part : (r : Result (Unit {0}) WriteFault) (old new : WriterState) (at channel : ℕ) (piece : PieceData)
    → old.failed ≡ false → IfErr r (SendsPart old new at piece)
    → channel ≡ packet_channel piece → slice_get (numbered_channels old.numbers) at ≡ Some channel
    → IfErr r (PutFails old new piece)
puts_part (Ok x) old new at channel piece worked sends channel_is there = tt
puts_part (Err e) old new at channel piece worked sends channel_is there =
    subst (PutFails old new piece) (sym sends.fault_is) (
      record {
        worked = worked;
        fails = ap (λ (w : WriterState). w.failed) sends.failed;
        stands = λ first pieces h. put_part old new piece at new.bytes (there ∙ ap (λ n. Some n) channel_is)
            (ap (λ (w : WriterState). w.version) sends.failed) (ap (λ (w : WriterState). w.whole) sends.failed) refl
            (ap (λ (w : WriterState). w.numbers) sends.failed) sends.part sends.sent first pieces h;
      },
      refl,
      refl,
    )

-- ---- a writer that has written nothing

appends_none : (held : Option (List ℕ)) → Appends held held []
appends_none None = tt
appends_none (Some bytes) = sym (append-nil bytes)

fresh_channels : (channels : List ℕ) → map (λ (n : Numbered). n.channel) (map (λ (channel : ℕ). record { channel = channel; next = 0 }) channels) ≡ channels
fresh_channels [] = refl
fresh_channels (c ∷ cs) = ap (λ xs. c ∷ xs) (fresh_channels cs)

fresh_are : (channels : List ℕ) → numbered_channels (fresh_numbers channels) ≡ 0 ∷ channels
fresh_are channels = ap (λ xs. 0 ∷ xs) (fresh_channels channels)

fresh_next : (channels : List ℕ) → AreNext [] (fresh_numbers channels)
fresh_next channels = All-map (λ (n : Numbered). n.next ≡ next_sequence [] n.channel) (λ (channel : ℕ). record { channel = channel; next = 0 }) (0 ∷ channels)
    (λ k d within. refl)

fresh_distinct : (channels : List ℕ) → All (λ (channel : ℕ). channel ≢ 0) channels → AreDistinctChannels channels → AreDistinctChannels (0 ∷ channels)
fresh_distinct channels named distinct zero (suc j) d before within = λ e. named j d (omega (arith, within)) (sym e)
fresh_distinct channels named distinct (suc i) (suc j) d before within = distinct i j d (omega (arith, before)) (omega (arith, within))
fresh_distinct channels named distinct zero zero d before within = absurd (omega (arith, before))
fresh_distinct channels named distinct (suc i) zero d before within = absurd (omega (arith, before))

pub new_channels : (numbers : List Numbered) (channels : List ℕ) → numbers ≡ fresh_numbers channels → numbered_channels numbers ≡ 0 ∷ channels
new_channels numbers channels fresh = ap numbered_channels fresh ∙ fresh_are channels

pub new_writer : (numbers : List Numbered) (channels : List ℕ) → numbers ≡ fresh_numbers channels
    → All (λ (channel : ℕ). channel ≢ 0) channels → AreDistinctChannels channels → IsWriter numbers 0 false
new_writer numbers channels fresh named distinct = record {
  records = ap (λ cs. slice_get cs 0) (new_channels numbers channels fresh);
  distinct = subst AreDistinctChannels (sym (new_channels numbers channels fresh)) (fresh_distinct channels named distinct);
  none_cut = λ _. refl;
}

pub new_stands : (held : Option (List ℕ)) (writer : WriterState) (channels : List ℕ)
    → writer.held ≡ held → writer.whole ≡ 0 → writer.bytes ≡ 0 → writer.numbers ≡ fresh_numbers channels
    → HasWritten held [] [] writer
new_stands held writer channels held_is whole bytes fresh = record {
  whole_is = whole;
  bytes_is = bytes;
  held_is = subst (λ h. Appends held h []) (sym held_is) (appends_none held);
  numbers_are = subst (λ ns. AreNext [] ns) (sym fresh) (fresh_next channels);
}

-- ---- what its fields hold

pub still_writer : (old new : List Numbered) (at bytes : ℕ) (failed : Bool) → new ≡ with_packet old at → IsWriter old bytes failed → IsWriter new bytes failed
still_writer old new at bytes failed counted w =
    let same = channels_after old new at counted in
    record {
      records = ap (λ cs. slice_get cs 0) same ∙ w.records;
      distinct = subst AreDistinctChannels (sym same) w.distinct;
      none_cut = w.none_cut;
    }
