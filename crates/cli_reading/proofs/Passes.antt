-- A pass over a recording, packet by packet, that counts packets or writes something for each.
use Rattle.std.proofs.Common.{◌≡◌, ℕ, ◌+◌, ◌-◌, ◌^◌, ◌<◌, Bool, true, false, cond, List, [], ◌∷◌, ◌++◌}
use Rattle.std.proofs.Common.{length, Option, None, Some, refl, sym, ap, subst, ◌∙◌, arith}
use mathlib.Core.Bool.{true≢false}
use Rattle.std.specs.Result.{is_ok}
use Rattle.std.specs.Prelude.{◌&&◌, not, Result, Ok, Err, IfSome, OnOk}
use lib.Dec.{eqb}
use Rattle.std.specs.List.{flat_map, FoldsTo}
use Rattle.std.specs.Io.KnownBytes.{Appends, Keeps}
use Rattle.std.proofs.KnownBytes.{Appends-trans, Appends-kept}
use Rattle.std.proofs.lemmas.Bool.{and_parts, eqb-true}
use Rattle.std.proofs.lemmas.Fn.{FoldsTo-push}
use Rattle.std.proofs.lemmas.List.{flat_map_more, length-append}
use Rattle.std.proofs.lemmas.List.Sums.{sum_by_push, count_by-le-length}
use Rattle.rec_reader.specs.Audits.{is_other, other_count}
use Rattle.rec_reader.specs.Channels.{capped}
use Rattle.rec_reader.specs.Packets.{PacketData, packets_len}
use Rattle.rec_reader.specs.Readers.{ReaderState, HasRead}
use Rattle.rec_reader.proofs.Chains.{length-Begins}
use Rattle.cli_reading.specs.Counts.{CountsPackets, CountsRecording, counts_with}
use Rattle.cli_reading.specs.Written.{GivesNext, IsWritten, TakesWritten}
use Rattle.cli_reading.specs.declared.reading.Counts.{Counts}

-- ---- packets

-- so many packets of a recording were given
pub record HasGiven (count : ℕ) (recording : List ℕ) (reader : ReaderState) : Type 0 where
  pub packets : List PacketData
  pub given : HasRead recording packets reader
  pub many : length packets ≡ count

abbrev pub none_given : (recording : List ℕ) (reader : ReaderState) → HasRead recording [] reader → HasGiven 0 recording reader
none_given recording reader begins =
    record {
      packets = [];
      given = begins;
      many = refl;
    }

abbrev pub one_more_given : {count : ℕ} {recording : List ℕ} {reader : ReaderState} (next : ReaderState) (packet : PacketData)
    → HasGiven count recording reader → GivesNext (Some packet) reader next
    → HasGiven (count + 1) recording next
one_more_given {recording = recording} next packet had gives =
    record {
      packets = had.packets ++ packet ∷ [];
      given = (gives recording had.packets had.given).0;
      many = length-append had.packets (packet ∷ []) ∙ ap (λ n. n + 1) had.many;
    }

-- ---- what is written

-- what is written for these packets went to the output
abbrev pub WentOut : (bytes_for : PacketData → List ℕ) → List PacketData → (old new : Option (List ℕ)) → Type 0
WentOut bytes_for packets old new = Appends old new (flat_map bytes_for packets)

pub one_more_went_out : (bytes_for its : PacketData → List ℕ) (packets : List PacketData) (packet shown : PacketData) (old held new : Option (List ℕ))
    → WentOut bytes_for packets old held
    → its ≡ bytes_for → shown ≡ packet → Appends held new (its shown) → WentOut bytes_for (packets ++ packet ∷ []) old new
one_more_went_out bytes_for its packets packet shown old held new before is same took =
    subst (λ bs. Appends old new bs) (flat_map_more bytes_for [] packets packet)
    (Appends-trans old held new (flat_map bytes_for packets) (bytes_for packet) before
    (subst (λ bs. Appends held new bs) (ap its same ∙ ap (λ f. f packet) is) took))

-- one packet more is counted
pub one_more_step : {S : Type 0} (counts : S → PacketData → S → Type 0) (packets : List PacketData) (packet shown : PacketData) (old held new : S)
    → FoldsTo counts old packets held
    → shown ≡ packet → counts held shown new → FoldsTo counts old (packets ++ packet ∷ []) new
one_more_step counts packets packet shown old held new before same step =
    FoldsTo-push counts old packets held packet new before (subst (λ p. counts held p new) same step)

-- what is written for the recording that an input has left, from the reader's first packet to its last
pub all_written : {S : Type 0} (bytes_for : PacketData → List ℕ) (counts : S → PacketData → S
    → Type 0) (left : Option (List ℕ)) (count : ℕ) (first reader next : ReaderState) (items : List ℕ) (old new : S)
    → IfSome left (λ recording. length recording < 2 ^ 64 → HasRead recording [] first)
    → ((recording : List ℕ) → HasRead recording [] first
    → (had : HasGiven count recording reader) × WentOut bytes_for had.packets (Some []) (Some items) × FoldsTo counts old had.packets new)
    → GivesNext None reader next
    → IfSome left (λ recording. length recording < 2 ^ 64 → IsWritten bytes_for counts recording items old new)
all_written bytes_for counts None count first reader next items old new begun passed gives = tt
all_written bytes_for counts (Some recording) count first reader next items old new begun passed gives = λ few.
    let at_end = passed recording (begun few) in
    record {
      packets = at_end.0.packets;
      reads = (gives recording at_end.0.packets at_end.0.given).1;
      whole = at_end.1;
      each = at_end.2;
    }

-- ---- what is counted

capped_is : (n : ℕ) → n < 2 ^ 64 → capped n ≡ n
capped_is n few = omega (arith, few)

packets_len-push : (packets : List PacketData) (packet : PacketData) → packets_len (packets ++ packet ∷ []) ≡ packets_len packets + packet.header.packet_len
packets_len-push [] packet = omega arith
packets_len-push (p ∷ ps) packet = let more = packets_len-push ps packet in omega (arith, more)

others_push : (packets : List PacketData) (packet : PacketData) (others : ℕ) (b : Bool) → is_other packet.what ≡ b → length packets + 1 < 2 ^ 64
    → others ≡ other_count packets
    → cond b (capped (others + 1)) others ≡ other_count (packets ++ packet ∷ [])
others_push packets packet others true is few same =
    let most : other_count packets < 2 ^ 64 - 1 = let le = count_by-le-length (λ (p : PacketData). is_other p.what) packets in omega (arith, le, few) in
    let more : other_count (packets ++ packet ∷ []) ≡ other_count packets + 1 =
    sum_by_push (λ (p : PacketData). cond (is_other p.what) 1 0) packets packet ∙ ap (λ b. other_count packets + cond b 1 0) is in
    capped_is (others + 1) (omega (arith, most, same)) ∙ ap (λ n. n + 1) same ∙ sym more
others_push packets packet others false is few same =
    let more : other_count (packets ++ packet ∷ []) ≡ other_count packets + 0 =
    sum_by_push (λ (p : PacketData). cond (is_other p.what) 1 0) packets packet ∙ ap (λ b. other_count packets + cond b 1 0) is in
    let none : other_count packets ≡ other_count packets + 0 = omega arith in
    same ∙ none ∙ sym more

pub no_counts : CountsPackets [] (record { packets = 0; others = 0; end = 0 })
no_counts =
    record {
      packets_are = refl;
      others_are = refl;
      end_is = refl;
    }

pub one_more_counted : {count : ℕ} {recording : List ℕ} {reader : ReaderState} (next : ReaderState) (packet shown : PacketData) (counts new : Counts)
    (had : HasGiven count recording reader)
    → GivesNext (Some packet) reader next → shown ≡ packet → count + 1 < 2 ^ 64 → CountsPackets had.packets counts → new ≡ counts_with counts shown
    → CountsPackets (had.packets ++ packet ∷ []) new
one_more_counted {recording = recording} next packet shown counts new had gives same less counted is =
    let now : new ≡ counts_with counts packet = is ∙ ap (λ p. counts_with counts p) same in
    let after = gives recording had.packets had.given in
    let few : length had.packets + 1 < 2 ^ 64 = let many = had.many in omega (arith, many, less) in
    let longer = packets_len-push had.packets packet in
    let within : packets_len had.packets + packet.header.packet_len < 2 ^ 64 =
    (let whole = length-Begins 0 (had.packets ++ packet ∷ []) recording after.0.rest after.0.held in let short = after.0.few in
    omega (arith, whole, short, longer)) in
    record {
      packets_are =
          ap (λ (c : Counts). c.packets) now ∙ ap (λ n. capped (n + 1)) counted.packets_are ∙ capped_is (length had.packets + 1) few
          ∙ sym (length-append had.packets (packet ∷ []));
      others_are = ap (λ (c : Counts). c.others) now ∙ others_push had.packets packet counts.others (is_other packet.what) refl few counted.others_are;
      end_is =
          ap (λ (c : Counts). c.end) now ∙ ap (λ n. capped (n + packet.header.packet_len)) after.1.3.place
          ∙ capped_is (packets_len had.packets + packet.header.packet_len) within ∙ sym longer;
    }

-- counts whose three numbers are the same
pub same_counts : (counts others : Counts)
    → not (eqb counts.packets others.packets && (eqb counts.others others.others && eqb counts.end others.end)) ≡ false → counts ≡ others
same_counts counts others alike =
    let whole = and_parts (eqb counts.packets others.packets) _ (not_false _ alike) in
    let rest = and_parts (eqb counts.others others.others) (eqb counts.end others.end) whole.1 in
    ap (λ n. record counts { packets = n }) (eqb-true counts.packets others.packets whole.0)
    ∙ ap (λ n. record { packets = others.packets; others = n; end = counts.end }) (eqb-true counts.others others.others rest.0)
    ∙ ap (λ n. record { packets = others.packets; others = others.others; end = n }) (eqb-true counts.end others.end rest.1)
  where
    not_false : (b : Bool) → not b ≡ false → b ≡ true
    not_false true e = refl
    not_false false e = sym e

-- the counts of all packets, once there is no further one
pub all_counted : {count : ℕ} {recording : List ℕ} {reader : ReaderState} (next : ReaderState) (counts : Counts) (had : HasGiven count recording reader)
    → GivesNext None reader next
    → CountsPackets had.packets counts → CountsRecording recording counts
all_counted {recording = recording} next counts had gives counted = (had.packets, (gives recording had.packets had.given).1, counted)

-- what was written for packets that have these counts
pub is_taken : {S : Type 0} {count : ℕ} {recording : List ℕ} {reader : ReaderState} (bytes_for : PacketData → List ℕ) (counts : S → PacketData → S
    → Type 0) (judged : Counts) (old new : S)
    (before held after : Option (List ℕ)) (had : HasGiven count recording reader) → WentOut bytes_for had.packets before held → Keeps held after
    → CountsPackets had.packets judged
    → FoldsTo counts old had.packets new → TakesWritten bytes_for counts judged recording old new before after
is_taken bytes_for counts judged old new before held after had went keeps counted each =
    record {
      packets = had.packets;
      rest = had.given.rest;
      first = had.given.held;
      counted = counted;
      took = Appends-kept before held after (flat_map bytes_for had.packets) went keeps;
      each = each;
    }

-- what holds where a call went well holds where its answer is passed on
pub on_ok_passed : {T D E : Type 0} (answer : Result T D) (passed : Result T E) (P : Type 0) → is_ok passed ≡ is_ok answer → OnOk answer P → OnOk passed P
on_ok_passed (Ok x) (Ok y) P same p = p
on_ok_passed (Ok x) (Err y) P same p = tt
on_ok_passed (Err x) (Ok y) P same p = absurd (true≢false same)
on_ok_passed (Err x) (Err y) P same p = tt

-- what holds in any case
pub on_ok : {T E : Type 0} (result : Result T E) (P : Type 0) → P → OnOk result P
on_ok (Ok x) P p = p
on_ok (Err y) P p = tt
