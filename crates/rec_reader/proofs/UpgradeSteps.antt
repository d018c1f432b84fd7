-- What the upgrade of packets wrote, packet by packet.
use Rattle.std.proofs.Common.{◌≡◌, ℕ, ◌+◌, ◌^◌, ◌<◌, ◌≤◌, ◌⊎◌, inl, inr, Bool, true, false, cond, List, [], ◌∷◌, ◌++◌}
use Rattle.std.proofs.Common.{length, map, take, drop, get_or, Option, refl, sym, ap, subst, ◌∙◌, arith}
use Rattle.std.specs.Prelude.{not, count_by, Result, Ok, Err, IfErr, IsErrAnd}
use Rattle.std.specs.Io.KnownBytes.{Appends}
use Rattle.std.proofs.KnownBytes.{Appends-trans}
use Rattle.std.proofs.lemmas.Bool.{cases_Bool, cond-true, cond-false}
use Rattle.std.proofs.lemmas.List.{append_assoc, append-nil, map-append, length-map, length-take-le, take_all}
use Rattle.std.proofs.lemmas.List.Concat.{flat_map-append}
use Rattle.std.proofs.lemmas.List.Sums.{sum_by-cons, sum_by_push, count_by-le-length}
use Rattle.rec_reader.specs.declared.packet.Packet.{Packet}
use Rattle.rec_reader.specs.declared.upgrades.Upgraded.{Upgraded}
use Rattle.rec_reader.specs.declared.upgrades.UpgradeFault.{UpgradeFault}
use Rattle.rec_reader.specs.declared.upgrades.UpgradeFault.TheVariants.{Output}
use Rattle.rec_reader.specs.Packets.{PacketData}
use Rattle.rec_reader.specs.Channels.{capped}
use Rattle.rec_reader.specs.Upgrades.{is_old, is_copied, upgraded, spelling_of, spellings, upgrade_bytes, CountsUpgraded, counted_with, FailsAtPacket, FailsIn}
use Rattle.rec_reader.specs.Views.{packet_data, packets_data}
use Rattle.rec_reader.proofs.RecordingPackets.{one_more_packet, first_and_rest}

-- ---- one packet more

-- a count below 2^64 - 1 grows
grows : (n m : ℕ) → n < m → m < 2 ^ 64 → capped (n + 1) ≡ n + 1
grows n m less few = omega (arith, less, few)

below : (test : PacketData → Bool) (before : List PacketData) (m : ℕ) → length before < m → count_by test before < m
below test before m less = let most = count_by-le-length test before in omega (arith, most, less)

count_push : (test : PacketData → Bool) (before : List PacketData) (packet : PacketData) (more : ℕ) → cond (test packet) 1 0 ≡ more
    → count_by test (before ++ packet ∷ []) ≡ count_by test before + more
count_push test before packet more is = sum_by_push (λ p. cond (test p) 1 0) before packet ∙ ap (λ n. count_by test before + n) is

counts_push : (before : List PacketData) (packet : PacketData) (counts new : Upgraded) (m : ℕ) → length before < m → m < 2 ^ 64
    → (is_old packet ≡ true) ⊎ (is_old packet ≡ false)
    → CountsUpgraded before counts → new ≡ counted_with counts packet → CountsUpgraded (before ++ packet ∷ []) new
counts_push before packet counts new m less few (inl is) are e =
    let now = e ∙ cond-true (is_old packet) _ _ is in
    record {
      packets_are =
          ap (λ (u : Upgraded). u.packets) now ∙ ap (λ n. capped (n + 1)) are.packets_are ∙ grows (count_by is_old before) m (below is_old before m less) few
          ∙ sym (count_push is_old before packet 1 (cond-true (is_old packet) 1 0 is));
      copied_are =
          ap (λ (u : Upgraded). u.copied) now ∙ are.copied_are ∙ plus_none (count_by is_copied before)
          ∙ sym (count_push is_copied before packet 0 (ap (λ b. cond (not b) 1 0) is));
    }
  where
    plus_none : (n : ℕ) → n ≡ n + 0
    plus_none n = omega arith
counts_push before packet counts new m less few (inr isnt) are e =
    let now = e ∙ cond-false (is_old packet) _ _ isnt in
    record {
      packets_are =
          ap (λ (u : Upgraded). u.packets) now ∙ are.packets_are ∙ plus_none (count_by is_old before)
          ∙ sym (count_push is_old before packet 0 (cond-false (is_old packet) 1 0 isnt));
      copied_are =
          ap (λ (u : Upgraded). u.copied) now ∙ ap (λ n. capped (n + 1)) are.copied_are
          ∙ grows (count_by is_copied before) m (below is_copied before m less) few
          ∙ sym (count_push is_copied before packet 1 (ap (λ b. cond (not b) 1 0) isnt));
    }
  where
    plus_none : (n : ℕ) → n ≡ n + 0
    plus_none n = omega arith

length-first : (items : List Packet) (n : ℕ) → n < length items → length (packets_data (take n items)) ≡ n
length-first items n within = length-map (take n items) packet_data ∙ length-take-le n items (omega (arith, within))

pub counts_more : (items : List Packet) (n : ℕ) (item : Packet) (counts new : Upgraded) → n < length items → length items < 2 ^ 64 → item ≡ get_or items n item
    → CountsUpgraded (packets_data (take n items)) counts → new ≡ counted_with counts (packet_data item)
    → CountsUpgraded (packets_data (take (n + 1) items)) new
counts_more items n item counts new within few is are e =
    subst (λ ps. CountsUpgraded ps new) (one_more_packet items n item within is)
    (counts_push (packets_data (take n items)) (packet_data item) counts new (length items) (omega (arith, within, length-first items n within)) few
    (cases_Bool (is_old (packet_data item))) are e)

-- ---- a failed output

one_of : (b : Bool) → cond b 1 0 + cond (not b) 1 0 ≡ 1
one_of true = refl
one_of false = refl

-- each packet is counted once
both_counts : (packets : List PacketData) → count_by is_old packets + count_by is_copied packets ≡ length packets
both_counts [] = refl
both_counts (p ∷ ps) =
    let olds : count_by is_old (p ∷ ps) ≡ cond (is_old p) 1 0 + count_by is_old ps = sum_by-cons (λ q. cond (is_old q) 1 0) p ps in
    let others : count_by is_copied (p ∷ ps) ≡ cond (not (is_old p)) 1 0 + count_by is_copied ps = sum_by-cons (λ q. cond (is_copied q) 1 0) p ps in
    omega (arith, olds, others, one_of (is_old p), both_counts ps)

whole_are : (packets : List PacketData) (counts : Upgraded) (m : ℕ) → length packets < m → m < 2 ^ 64 → CountsUpgraded packets counts
    → capped (counts.packets + counts.copied) ≡ length packets
whole_are packets counts m less few are =
    let packets_are = are.packets_are in
    let copied_are = are.copied_are in
    omega (arith, packets_are, copied_are, both_counts packets, less, few)

pub fails_in : (packets : List PacketData) (old held new : Option (List ℕ)) (items : List Packet) (n : ℕ) (item : Packet) (counts : Upgraded)
    (fault : UpgradeFault)
    → packets_data items ≡ packets → n < length items → length items < 2 ^ 64 → item ≡ get_or items n item
    → Appends old held (upgrade_bytes (packets_data (take n items))) → CountsUpgraded (packets_data (take n items)) counts
    → FailsAtPacket (packet_data item) counts held new fault
    → FailsIn packets old new fault
fails_in packets old held new items n item counts (Output whole bytes) all within few is before are at =
    let front = packets_data (take n items) in
    record {
      before = front;
      packet = packet_data item;
      after = packets_data (drop (n + 1) items);
      all =
          sym all ∙ first_and_rest items (n + 1) ∙ ap (λ l. l ++ packets_data (drop (n + 1) items)) (sym (one_more_packet items n item within is))
          ∙ append_assoc front (packet_data item ∷ []) (packets_data (drop (n + 1) items));
      whole_is = at.0 ∙ whole_are front counts (length items) (omega (arith, within, length-first items n within)) few are;
      fewer = at.1.0;
      taken = Appends-trans old held new (upgrade_bytes front) (take bytes (spelling_of (upgraded (packet_data item)))) before at.1.1;
    }

-- a fault, as it is passed on
pub fault_passed : (packets : List PacketData) (old new : Option (List ℕ)) (answer : Result Upgraded UpgradeFault) (fault : UpgradeFault)
    → IsErrAnd answer (λ e. e ≡ fault)
    → FailsIn packets old new fault → IfErr answer (FailsIn packets old new)
fault_passed packets old new (Ok counts) fault same fails = tt
fault_passed packets old new (Err e) fault same fails = subst (FailsIn packets old new) (sym same) fails
