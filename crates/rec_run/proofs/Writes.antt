-- A piece of one line is written.
use Rattle.std.proofs.Common.{◌≡◌, ◌≢◌, ℕ, suc, ◌+◌, ◌<◌, ◌==◌, if◌then◌else◌, List, [], ◌∷◌, ◌++◌, length}
use Rattle.std.proofs.Common.{map, get_or, Option, All, arith, ◌∙◌, ap, sym, subst, inl, inr}
use Rattle.std.specs.Prelude.{count_by, Contains, min, ◌^◌, ◌-◌}
use Rattle.std.specs.List.{filter}
use Rattle.std.proofs.Math.ListN.{set, length-set}
use Rattle.std.proofs.lemmas.List.{append-nil, length-append, get_or-map, get_or-set_same, get_or-set_other, length-map, map-append}
use Rattle.std.proofs.lemmas.List.Elements.{All-push, filter-append}
use Rattle.std.proofs.lemmas.List.Sums.{sum_by-append}
use Rattle.std.proofs.lemmas.Bool.{cases_Bool, cases_eq, cases_lt, eq-eqb, eqb-true, both_ways}
use Rattle.rtrb.specs.Ring.{received, sent}
use Rattle.rec_lane.specs.declared.piece.Piece.{Piece}
use Rattle.rec_lane.specs.Pieces.{PieceData, channel_of}
use Rattle.rec_lane.specs.Views.{piece_data, pieces_data}
use Rattle.rec_writer.specs.Encoding.{piece_packet, packet_channel, next_sequence, writer_output}
use Rattle.rec_writer.specs.Numbers.{AreDistinctChannels, numbered_channels}
use Rattle.rec_writer.specs.Recording.{is_of}
use Rattle.rec_writer.specs.Writers.{WriterState, IsCutPiece}
use Rattle.rec_writer.proofs.Putting.{output_more}
use Rattle.rec_writer.specs.declared.fault.WriteFault.TheVariants.{Output, Failed as FailedBefore}
use Rattle.rec_run.specs.Writer.{bytes_of, CountsPacket}
use Rattle.rec_run.specs.declared.writer.line.WriterLine.{WriterLine}
use Rattle.rec_run.specs.declared.writer.Wrote.{Wrote}
use Rattle.rec_run.specs.declared.writer.Wrote.TheVariants.{Nothing, Piece as PieceWent, Failed, Link}
use Rattle.rec_run.specs.Writer.{has_buffer, buffers_in, channel_at, channels, IsReady, CameFrom}
use Rattle.rec_run.specs.Writer.{GaveBack, IsOfLines, Writes, WroteSo, TakesPiece, WroteOne}

-- nothing was lost
abbrev pub IsGood : Wrote → Type 0
IsGood Nothing = Unit {0}
IsGood PieceWent = Unit {0}
IsGood (Failed fault) = ⊥
IsGood Link = ⊥

-- ---- the count of bytes

pub bytes_more : (version bytes bytes_after : ℕ) (pieces : List PieceData) (p : PieceData) → bytes ≡ bytes_of version pieces → CountsPacket bytes bytes_after p
    → bytes_after ≡ bytes_of version (pieces ++ p ∷ [])
bytes_more version bytes bytes_after pieces p is counts =
    let n = next_sequence ([] ++ pieces) (packet_channel p) in
    let l : length (writer_output version (pieces ++ p ∷ [])) ≡ length (writer_output version pieces) + length (piece_packet p version n) =
    ap (λ bs. length bs) (output_more version [] pieces p) ∙ length-append (writer_output version pieces) (piece_packet p version n)
    in
    let c : bytes_after ≡ min (bytes + length (piece_packet p version n)) (2 ^ 64 - 1) = counts version n in
    let b : bytes ≡ min (length (writer_output version pieces)) (2 ^ 64 - 1) = is in
    omega (arith, l, c, b)

-- ---- the pieces of a channel

of_same : (pieces : List PieceData) (p : PieceData) (c : ℕ) → channel_of p ≡ c → filter (is_of c) (pieces ++ p ∷ []) ≡ filter (is_of c) pieces ++ p ∷ []
of_same pieces p c same =
    filter-append (is_of c) pieces (p ∷ [])
    ∙ ap (λ b. filter (is_of c) pieces ++ (if b then p ∷ [] else [])) (eq-eqb (channel_of p) c same)

of_other : (pieces : List PieceData) (p : PieceData) (c : ℕ) → channel_of p ≢ c → filter (is_of c) (pieces ++ p ∷ []) ≡ filter (is_of c) pieces
of_other pieces p c other = elim (cases_Bool (channel_of p == c)) as (λ _. filter (is_of c) (pieces ++ p ∷ []) ≡ filter (is_of c) pieces) [
  | inl same ↦ absurd (other (eqb-true (channel_of p) c same))
  | inr off ↦ filter-append (is_of c) pieces (p ∷ []) ∙ ap (λ b. filter (is_of c) pieces ++ (if b then p ∷ [] else [])) off
      ∙ append-nil (filter (is_of c) pieces)
]

-- ---- lines

module _ {S : Type 0} (ls : List (WriterLine S)) (k : ℕ) (e l' : WriterLine S) (low : k < length ls) where
  at_k : (d : WriterLine S) → get_or (set ls k l') k d ≡ l'
  at_k d = get_or-set_same ls k l' d low

  others_apart : AreDistinctChannels (channels ls) → (j : ℕ) (d : WriterLine S) → j < length ls → j ≢ k → (get_or ls k e).channel ≢ (get_or ls j d).channel
  others_apart distinct j d lj ne same =
      let n = length-map ls channel_at in
      let at_j = get_or-map channel_at ls j d 0 lj in
      let here = get_or-map channel_at ls k e 0 low in
      elim (cases_lt j k) as (λ _. ⊥) [
        | inl before ↦ distinct j k 0 before (omega (arith, n, low)) (at_j ∙ sym same ∙ sym here)
        | inr after ↦ distinct k j 0 (omega (arith, after, ne)) (omega (arith, n, lj)) (here ∙ same ∙ sym at_j)
      ]

  -- what holds of each other line, and of the one that is set, holds of all
  all_set : (P Q : WriterLine S → Type 0) → All P ls → Q l' → ((j : ℕ) (d : WriterLine S) → j < length ls → j ≢ k → P (get_or ls j d) → Q (get_or ls j d))
      → All Q (set ls k l')
  all_set P Q all here there = λ j d lj.
      let m : length (set ls k l') ≡ length ls = length-set ls k l' in
      let lj' : j < length ls = omega (arith, m, lj) in
      elim (cases_eq j k) as (λ _. Q (get_or (set ls k l') j d)) [
        | inl p ↦ subst Q (sym (ap (λ i. get_or (set ls k l') i d) p ∙ at_k d)) here
        | inr ne ↦ subst Q (sym (get_or-set_other ls k j l' d ne)) (there j d lj' ne (all j d lj'))
      ]

  module _ (distinct : AreDistinctChannels (channels ls)) (same : l'.channel ≡ (get_or ls k e).channel) (p : Piece) (takes : TakesPiece (get_or ls k e) l' p)
      (pieces : List PieceData) where
    came_more : All (CameFrom pieces) ls → All (CameFrom (pieces ++ piece_data p ∷ [])) (set ls k l')
    came_more came =
        all_set (CameFrom pieces) (CameFrom (pieces ++ piece_data p ∷ [])) came
        (
        of_same pieces (piece_data p) l'.channel (takes.channel_is ∙ sym same)
        ∙ ap (λ c. filter (is_of c) pieces ++ piece_data p ∷ []) same
        ∙ ap (λ ps. ps ++ piece_data p ∷ []) (came k e low)
        ∙ sym (map-append piece_data (received (get_or ls k e).pieces) (p ∷ []))
        ∙ ap (λ ps. pieces_data ps) (sym takes.received_is)
        )
        (λ j d lj ne c. of_other pieces (piece_data p) (get_or ls j d).channel (λ is. others_apart distinct j d lj ne (sym takes.channel_is ∙ is)) ∙ c)

    gave_more : All GaveBack ls → length (sent l'.returns) ≡ length (sent (get_or ls k e).returns) + buffers_in p → All GaveBack (set ls k l')
    gave_more gave more =
        all_set GaveBack GaveBack gave
        (
        let old : length (sent (get_or ls k e).returns) ≡ (get_or ls k e).buffers + count_by has_buffer (received (get_or ls k e).pieces) = gave k e low in
        let counted : count_by has_buffer (received l'.pieces) ≡ count_by has_buffer (received (get_or ls k e).pieces) + buffers_in p =
        ap (λ ps. count_by has_buffer ps) takes.received_is ∙ sum_by-append (λ (x : Piece). if has_buffer x then 1 else 0) (received (get_or ls k e).pieces)
        (p ∷ []) ∙ omega arith
        in
        omega (arith, old, counted, more, takes.buffers_same)
        )
        (λ j d lj ne g. g)

  named_more : map channel_at (set ls k l') ≡ channels ls → (pieces : List PieceData) → All (IsOfLines ls) pieces → All (IsOfLines (set ls k l')) pieces
  named_more same pieces named = λ j d lj. subst (λ cs. Contains cs (channel_of (get_or pieces j d))) (sym same) (named j d lj)

  named_push : (pieces : List PieceData) (p : PieceData) → channel_of p ≡ (get_or ls k e).channel → All (IsOfLines ls) pieces
      → All (IsOfLines ls) (pieces ++ p ∷ [])
  named_push pieces p is named = All-push (IsOfLines ls) pieces p named (
    k,
    let n = length-map ls channel_at in
        omega (arith, n, low),
    get_or-map channel_at ls k e (channel_of p) low ∙ sym is,
  )

  -- ---- what was done

  pub wrote_so : AreDistinctChannels (channels ls) → l'.channel ≡ (get_or ls k e).channel → channels (set ls k l') ≡ channels ls
      → (result : Wrote) (first : Option (List ℕ)) (writer after : WriterState) (bytes bytes_after : ℕ) → after.version ≡ writer.version
      → WroteOne result (get_or ls k e) l' writer after bytes bytes_after → Writes first writer bytes ls → WroteSo result first after bytes_after (set ls k l')
  wrote_so distinct same channels_same Nothing first writer after bytes bytes_after version none w =
      let n = none.0 in
      subst (λ x. Writes first x bytes_after (set ls k l')) (sym n.writer_same) (subst (λ b. Writes first writer b (set ls k l')) (sym none.1) (record {
        pieces = w.pieces;
        works = w.works;
        written = w.written;
        counted = w.counted;
        named = named_more channels_same w.pieces w.named;
        came = all_set (CameFrom w.pieces) (CameFrom w.pieces) w.came (ap (λ c. filter (is_of c) w.pieces) same ∙ w.came k e low
            ∙ ap (λ ps. pieces_data ps) (sym n.received_is)) (λ j d lj ne c. c);
        gave = all_set GaveBack GaveBack w.gave (
            let old : length (sent (get_or ls k e).returns) ≡ (get_or ls k e).buffers + count_by has_buffer (received (get_or ls k e).pieces) =
            w.gave k e low in
            let r : length (sent l'.returns) ≡ length (sent (get_or ls k e).returns) = ap (λ r. length (sent r)) n.returns_same in
            let c : count_by has_buffer (received l'.pieces) ≡ count_by has_buffer (received (get_or ls k e).pieces) =
            ap (λ ps. count_by has_buffer ps) n.received_is in
            omega (arith, old, r, c, n.buffers_same)
            ) (λ j d lj ne g. g);
      }))
  wrote_so distinct same channels_same PieceWent first writer after bytes bytes_after version one w = record {
    pieces = w.pieces ++ piece_data one.p ∷ [];
    works = one.puts.works;
    written = one.puts.stands first w.pieces w.written;
    counted = bytes_more after.version bytes bytes_after w.pieces (piece_data one.p) (w.counted ∙ ap (λ v. bytes_of v w.pieces) (sym version)) one.counts;
    named = named_more channels_same (w.pieces ++ piece_data one.p ∷ []) (named_push w.pieces (piece_data one.p) one.takes.channel_is w.named);
    came = came_more distinct same one.p one.takes w.pieces w.came;
    gave = gave_more distinct same one.p one.takes w.pieces w.gave one.gave;
  }
  wrote_so distinct same channels_same (Failed (Output whole bytes_out)) first writer after bytes bytes_after version fails w =
      let f = fails.0 in
      let part = f.fails.0.stands first w.pieces w.written in
      record {
        pieces = w.pieces;
        piece = piece_data f.p;
        cut = part.0;
        cut_is = subst (λ v. IsCutPiece v w.pieces (piece_data f.p) part.0) (sym version) part.1;
        written = part.2;
        fault_is = ap (λ x. Output x bytes_out) f.fails.1 ∙ ap (λ x. Output after.whole x) f.fails.2;
        counted = fails.1 ∙ w.counted ∙ ap (λ v. bytes_of v w.pieces) (sym version);
        named = named_more channels_same (w.pieces ++ piece_data f.p ∷ []) (named_push w.pieces (piece_data f.p) f.takes.channel_is w.named);
        came = came_more distinct same f.p f.takes w.pieces w.came;
      }
  wrote_so distinct same channels_same (Failed (FailedBefore whole bytes_out)) first writer after bytes bytes_after version fails w =
      absurd (both_ways writer.failed w.works fails.0.fails.0)
  wrote_so distinct same channels_same Link first writer after bytes bytes_after version one w = tt

-- the writer knows each line's channel
pub known_at : {S : Type 0} (ls : List (WriterLine S)) (k : ℕ) (e : WriterLine S) (known : List ℕ) → k < length ls → known ≡ 0 ∷ channels ls
    → Contains known (get_or ls k e).channel
known_at ls k e known low is =
    subst (λ cs. Contains cs (get_or ls k e).channel) (sym is) (
      suc k,
      (let n = length-map ls channel_at in omega (arith, n, low)),
      get_or-map channel_at ls k e (get_or ls k e).channel low,
    )

pub good_writes : {S : Type 0} (wrote : Wrote) (first : Option (List ℕ)) (writer : WriterState) (bytes : ℕ) (ls : List (WriterLine S)) → IsGood wrote
    → Writes first writer bytes ls → WroteSo wrote first writer bytes ls
good_writes Nothing first writer bytes ls good w = w
good_writes PieceWent first writer bytes ls good w = w
good_writes (Failed fault) first writer bytes ls good w = absurd good
good_writes Link first writer bytes ls good w = absurd good

-- the writer is ready for lines of which one was set, and has its channel yet
pub ready_still : {S : Type 0} (ls : List (WriterLine S)) (k : ℕ) (l' : WriterLine S) (writer after : WriterState)
    → channels (set ls k l') ≡ channels ls → numbered_channels after.numbers ≡ numbered_channels writer.numbers → IsReady ls writer
    → IsReady (set ls k l') after
ready_still ls k l' writer after same numbers ready = record {
  distinct = subst AreDistinctChannels (sym same) ready.distinct;
  known = numbers ∙ ready.known ∙ ap (λ cs. 0 ∷ cs) (sym same);
}
