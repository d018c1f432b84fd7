-- Free channel IDs, and how many channels there are beside one.
use Rattle.std.proofs.Common.{ℕ, zero, suc, ◌+◌, ◌≡◌, ◌≤◌, ◌<◌, ◌^◌, List, ◌∷◌, Bool, true, false, length, arith, sym, ◌∙◌, ap, subst}
use Rattle.std.specs.Prelude.{cond}
use Rattle.std.specs.List.{filter, range_with_len}
use Rattle.std.proofs.lemmas.List.{length-map}
use Rattle.ch11_setup.specs.declared.setup.SetupChannel.{SetupChannel}
use Rattle.rec_reader.specs.Packets.{PacketData}
use Rattle.rec_pieces.specs.declared.listing.PieceListing.{PieceListing}
use Rattle.rec_pieces.specs.PieceListings.{ListsPackets, are_some, is_listed, is_named, listed_below, listed_channels, named_channels}
use Rattle.rec_pieces.proofs.ChannelsListed.{listed_are_named}
use Rattle.ch11_channels.specs.FreeIds.{IsLeastFree}
use Rattle.rec_whole.specs.NamedChannels.{AreNamed, name_of, name_said}

-- ---- fewer than all

one_at_most : (b : Bool) (x : ℕ) (xs : List ℕ) → length (cond b (x ∷ xs) xs) ≤ suc (length xs)
one_at_most true x xs = omega arith
one_at_most false x xs = omega arith

at_most : (p : ℕ → Bool) (a n : ℕ) → length (filter p (range_with_len a n)) ≤ n
at_most p a zero = omega arith
at_most p a (suc n) =
    omega (arith, one_at_most (p a) a (filter p (range_with_len (a + 1) n)), at_most p (a + 1) n)

none_here : (b : Bool) (x : ℕ) (xs : List ℕ) → b ≡ false → length (cond b (x ∷ xs) xs) ≡ length xs
none_here b x xs is = ap (λ c. length (cond c (x ∷ xs) xs)) is

here : (a : ℕ) → a + 0 ≡ a
here a = omega arith

behind : (a k : ℕ) → a + suc k ≡ a + 1 + k
behind a k = omega arith

pub fewer : (p : ℕ → Bool) (a n k : ℕ) → k < n → p (a + k) ≡ false → length (filter p (range_with_len a n)) < n
fewer p a zero k less not = absurd (omega (arith, less))
fewer p a (suc n) zero less not =
    omega (arith, none_here (p a) a (filter p (range_with_len (a + 1) n)) (ap p (sym (here a)) ∙ not), at_most p (a + 1) n)
fewer p a (suc n) (suc k) less not =
    omega (
      arith,
      one_at_most (p a) a (filter p (range_with_len (a + 1) n)),
      fewer p (a + 1) n k (omega (arith, less)) (ap p (sym (behind a k)) ∙ not),
    )

pub from_none : (id : ℕ) → 0 + id ≡ id
from_none id = omega arith

few_listed : (listing : PieceListing) (id : ℕ) → IsLeastFree (is_listed listing) id → length (listed_channels listing) < 2 ^ 16
unfolding listed_below
few_listed listing id free = fewer (is_listed listing) 0 (2 ^ 16) id free.is_id (ap (is_listed listing) (from_none id) ∙ free.free)

pub few_named : (listing : PieceListing) (id : ℕ) (names channels : List SetupChannel) → IsLeastFree (is_listed listing) id
    → AreNamed names (listed_channels listing) channels → length channels < 2 ^ 16
few_named listing id names channels free are =
    subst (λ n. n < 2 ^ 16)
    (sym (sym (length-map channels name_said) ∙ ap length are ∙ length-map (listed_channels listing) (name_of names)))
    (few_listed listing id free)

-- ---- packets

taken_same : (packets : List PacketData) (listing : PieceListing) → ListsPackets packets listing
    → (id : ℕ) → is_listed listing id ≡ is_named packets id
taken_same packets listing had id = ap are_some (had.entries id)

pub free_of_packets : (packets : List PacketData) (listing : PieceListing) (id : ℕ) → ListsPackets packets listing
    → IsLeastFree (is_listed listing) id → IsLeastFree (is_named packets) id
free_of_packets packets listing id had free = record {
  from_one = free.from_one;
  is_id = free.is_id;
  free = sym (taken_same packets listing had id) ∙ free.free;
  least = λ other from_one below. sym (taken_same packets listing had other) ∙ free.least other from_one below;
}

pub named_of_packets : (packets : List PacketData) (listing : PieceListing) (names channels : List SetupChannel)
    → ListsPackets packets listing → AreNamed names (listed_channels listing) channels → AreNamed names (named_channels packets) channels
named_of_packets packets listing names channels had are =
    subst (λ ids. AreNamed names ids channels) (listed_are_named packets listing had) are
