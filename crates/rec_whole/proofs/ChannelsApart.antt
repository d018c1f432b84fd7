-- The channels that packets name stand in a list once each.
use Rattle.std.proofs.Common.{ℕ, zero, suc, ◌+◌, ◌≡◌, ◌≢◌, ◌≤◌, ◌<◌, ◌^◌, List, ◌∷◌, Bool, true, false, Option, None, Some, arith, refl, sym, ◌∙◌, ap, subst}
use Rattle.std.specs.Prelude.{cond, slice_get}
use Rattle.std.specs.Option.{option_map}
use Rattle.std.specs.List.{filter, range_with_len}
use Rattle.std.proofs.lemmas.Bool.{true≢false}
use Rattle.std.proofs.lemmas.Option.{none-some, same_Some, slice_get-map}
use Rattle.ch11_merge.specs.Merging.{ChannelLeft}
use Rattle.ch11_merge.specs.Kept.{AreNamedApart}
use Rattle.rec_reader.specs.Packets.{PacketData}
use Rattle.rec_pieces.specs.PieceListings.{is_named, named_channels}
use Rattle.rec_whole.specs.WholeRecordings.{channel_of_packets, channels_of_packets}

-- ---- an element of a filtered range

-- an element stands at some index
abbrev StandsIn : {X : Type 0} → List X → X → Type 0
StandsIn xs x = (at : ℕ) × (slice_get xs at ≡ Some x)

ahead_or_not : (b : Bool) (x v : ℕ) (xs : List ℕ) → StandsIn xs v → StandsIn (cond b (x ∷ xs) xs) v
ahead_or_not true x v xs stands = (suc stands.0, stands.1)
ahead_or_not false x v xs stands = stands

first_there : (b : Bool) (x : ℕ) (xs : List ℕ) → b ≡ true → StandsIn (cond b (x ∷ xs) xs) x
first_there true x xs is = (0, refl)
first_there false x xs is = absurd (true≢false (sym is))

here : (a : ℕ) → a + 0 ≡ a
here a = omega arith

behind : (a k : ℕ) → a + suc k ≡ a + 1 + k
behind a k = omega arith

stands : (p : ℕ → Bool) (a n k : ℕ) → k < n → p (a + k) ≡ true → StandsIn (filter p (range_with_len a n)) (a + k)
stands p a zero k less is = absurd (omega (arith, less))
stands p a (suc n) zero less is =
    subst (StandsIn (filter p (range_with_len a (suc n)))) (sym (here a))
    (first_there (p a) a (filter p (range_with_len (a + 1) n)) (ap p (sym (here a)) ∙ is))
stands p a (suc n) (suc k) less is =
    subst (StandsIn (filter p (range_with_len a (suc n)))) (sym (behind a k))
    (ahead_or_not (p a) a (a + 1 + k) (filter p (range_with_len (a + 1) n))
    (stands p (a + 1) n k (omega (arith, less)) (ap p (sym (behind a k)) ∙ is)))

-- ---- only once

abbrev IsFrom : ℕ → List ℕ → Type 0
IsFrom a xs = (at x : ℕ) → slice_get xs at ≡ Some x → a ≤ x

abbrev IsApart : List ℕ → Type 0
IsApart xs = (at other x : ℕ) → slice_get xs at ≡ Some x → slice_get xs other ≡ Some x → at ≡ other

low : (b : Bool) (a : ℕ) (xs : List ℕ) → IsFrom (a + 1) xs → IsFrom a (cond b (a ∷ xs) xs)
low true a xs from zero x is = omega (arith, same_Some a x is)
low true a xs from (suc at) x is = omega (arith, from at x is)
low false a xs from at x is = omega (arith, from at x is)

from_there : (p : ℕ → Bool) (a n : ℕ) → IsFrom a (filter p (range_with_len a n))
from_there p a zero at x is = absurd (none-some x is)
from_there p a (suc n) at x is = low (p a) a (filter p (range_with_len (a + 1) n)) (from_there p (a + 1) n) at x is

one_more_apart : (b : Bool) (a : ℕ) (xs : List ℕ) → IsFrom (a + 1) xs → IsApart xs → IsApart (cond b (a ∷ xs) xs)
one_more_apart true a xs from apart zero zero x is its = refl
one_more_apart true a xs from apart zero (suc other) x is its = absurd (omega (arith, same_Some a x is, from other x its))
one_more_apart true a xs from apart (suc at) zero x is its = absurd (omega (arith, same_Some a x its, from at x is))
one_more_apart true a xs from apart (suc at) (suc other) x is its = ap suc (apart at other x is its)
one_more_apart false a xs from apart at other x is its = apart at other x is its

apart_there : (p : ℕ → Bool) (a n : ℕ) → IsApart (filter p (range_with_len a n))
apart_there p a zero at other x is its = absurd (none-some x is)
apart_there p a (suc n) at other x is its =
    one_more_apart (p a) a (filter p (range_with_len (a + 1) n)) (from_there p (a + 1) n) (apart_there p (a + 1) n) at other x is its

-- ---- the channels of packets

id_of : (packets : List PacketData) (id : Option ℕ) (c : ChannelLeft) → option_map (channel_of_packets packets) id ≡ Some c
    → id ≡ Some c.channel
id_of packets None c is = absurd (none-some c is)
id_of packets (Some id) c is = ap (λ (d : ChannelLeft). Some d.channel) (same_Some (channel_of_packets packets id) c is)

id_at : (packets : List PacketData) (at : ℕ) (c : ChannelLeft) → slice_get (channels_of_packets packets) at ≡ Some c
    → slice_get (named_channels packets) at ≡ Some c.channel
id_at packets at c is =
    id_of packets (slice_get (named_channels packets) at) c
    (sym (slice_get-map (channel_of_packets packets) (named_channels packets) at) ∙ is)

named_apart : (packets : List PacketData) → IsApart (named_channels packets)
unfolding named_channels
named_apart packets = apart_there (is_named packets) 0 (2 ^ 16)

pub channels_apart : (packets : List PacketData) → AreNamedApart (channels_of_packets packets)
channels_apart packets = λ at other c d is its same.
    named_apart packets at other c.channel (id_at packets at c is) (id_at packets other d its ∙ ap Some (sym same))

from_none : (id : ℕ) → 0 + id ≡ id
from_none id = omega arith

named_there : (packets : List PacketData) (channel : ℕ) → channel < 2 ^ 16 → is_named packets channel ≡ true
    → StandsIn (named_channels packets) channel
unfolding named_channels
named_there packets channel less is =
    subst (StandsIn (filter (is_named packets) (range_with_len 0 (2 ^ 16)))) (from_none channel)
    (stands (is_named packets) 0 (2 ^ 16) channel less (ap (is_named packets) (from_none channel) ∙ is))

pub channel_there : (packets : List PacketData) (channel : ℕ) → channel < 2 ^ 16 → is_named packets channel ≡ true
    → (at : ℕ) × (slice_get (channels_of_packets packets) at ≡ Some (channel_of_packets packets channel))
channel_there packets channel less is =
    let there = named_there packets channel less is in
    (there.0, slice_get-map (channel_of_packets packets) (named_channels packets) there.0 ∙ ap (option_map (channel_of_packets packets)) there.1)

-- ---- no others

tested : (p : ℕ → Bool) (b : Bool) (a at v : ℕ) (xs : List ℕ) → p a ≡ b → ((k : ℕ) → slice_get xs k ≡ Some v → p v ≡ true)
    → slice_get (cond b (a ∷ xs) xs) at ≡ Some v → p v ≡ true
tested p true a zero v xs e rest is = ap p (sym (same_Some a v is)) ∙ e
tested p true a (suc at) v xs e rest is = rest at is
tested p false a at v xs e rest is = rest at is

all_tested : (p : ℕ → Bool) (a n at v : ℕ) → slice_get (filter p (range_with_len a n)) at ≡ Some v → p v ≡ true
all_tested p a zero at v is = absurd (none-some v is)
all_tested p a (suc n) at v is =
    tested p (p a) a at v (filter p (range_with_len (a + 1) n)) refl (λ k there. all_tested p (a + 1) n k v there) is

named_only : (packets : List PacketData) (at channel : ℕ) → slice_get (named_channels packets) at ≡ Some channel → is_named packets channel ≡ true
unfolding named_channels
named_only packets at channel is = all_tested (is_named packets) 0 (2 ^ 16) at channel is

pub channel_nowhere : (packets : List PacketData) (channel : ℕ) → is_named packets channel ≡ false
    → (at : ℕ) (c : ChannelLeft) → slice_get (channels_of_packets packets) at ≡ Some c → c.channel ≢ channel
channel_nowhere packets channel off at c is same =
    true≢false (sym (named_only packets at c.channel (id_at packets at c is)) ∙ (ap (is_named packets) same ∙ off))
