-- Which channels are listed.
use Rattle.std.proofs.Common.{ℕ, zero, suc, ◌+◌, ◌≡◌, ◌^◌, List, [], ◌∷◌, ◌++◌, Bool, true, false, length, arith, refl, sym, ◌∙◌, ap, append-nil}
use Rattle.std.specs.Prelude.{cond, ◌==◌}
use Rattle.std.specs.List.{filter, range_with_len}
use Rattle.std.proofs.lemmas.List.Elements.{filter-append}
use Rattle.rec_reader.specs.Packets.{PacketData}
use Rattle.rec_pieces.specs.declared.entry.PieceEntry.{PieceEntry}
use Rattle.rec_pieces.specs.declared.listing.PieceListing.{PieceListing}
use Rattle.rec_pieces.specs.PieceListings.{ListsPackets, are_some, is_listed, is_named, listed_below, listed_channels, named_channels}

range_suc : (a n : ℕ) → range_with_len a (suc n) ≡ range_with_len a n ++ (a + n) ∷ []
range_suc a zero = ap (λ k. k ∷ []) (omega arith)
range_suc a (suc n) = ap (λ l. a ∷ l) (range_suc (a + 1) n ∙ ap (λ k. range_with_len (a + 1) n ++ k ∷ []) (omega arith))

one_more : (n : ℕ) → n + 1 ≡ suc n
one_more n = omega arith

none_more : (n : ℕ) → 0 + n ≡ n
none_more n = omega arith

range_more : (n : ℕ) → range_with_len 0 (n + 1) ≡ range_with_len 0 n ++ n ∷ []
range_more n = ap (range_with_len 0) (one_more n) ∙ range_suc 0 n ∙ ap (λ k. range_with_len 0 n ++ k ∷ []) (none_more n)

pub more : (p : ℕ → Bool) (n : ℕ) → filter p (range_with_len 0 (n + 1)) ≡ filter p (range_with_len 0 n) ++ cond (p n) (n ∷ []) []
more p n = ap (filter p) (range_more n) ∙ filter-append p (range_with_len 0 n) (n ∷ [])

pub some_are : (entries : List PieceEntry) → (length entries == 0) ≡ false → are_some entries ≡ true
some_are [] is = sym is
some_are (entry ∷ entries) is = refl

pub none_are : (entries : List PieceEntry) → (length entries == 0) ≡ true → are_some entries ≡ false
none_are [] is = refl
none_are (entry ∷ entries) is = grind (arith, is)

pub listed_more : (listing : PieceListing) (n : ℕ) → is_listed listing n ≡ true
    → listed_below listing (n + 1) ≡ listed_below listing n ++ n ∷ []
unfolding listed_below
listed_more listing n is = more (is_listed listing) n ∙ ap (λ b. listed_below listing n ++ cond b (n ∷ []) []) is

pub listed_same : (listing : PieceListing) (n : ℕ) → is_listed listing n ≡ false
    → listed_below listing (n + 1) ≡ listed_below listing n
unfolding listed_below
listed_same listing n is =
    more (is_listed listing) n ∙ ap (λ b. listed_below listing n ++ cond b (n ∷ []) []) is ∙ append-nil (listed_below listing n)

filter_same : (p q : ℕ → Bool) → ((n : ℕ) → p n ≡ q n) → (xs : List ℕ) → filter p xs ≡ filter q xs
filter_same p q same [] = refl
filter_same p q same (x ∷ xs) =
    ap (λ b. cond b (x ∷ filter p xs) (filter p xs)) (same x) ∙ ap (λ l. cond (q x) (x ∷ l) l) (filter_same p q same xs)

pub listed_are_named : (packets : List PacketData) (listing : PieceListing) → ListsPackets packets listing
    → listed_channels listing ≡ named_channels packets
unfolding named_channels listed_below
listed_are_named packets listing had =
    filter_same (is_listed listing) (is_named packets) (λ channel. ap are_some (had.entries channel))
    (range_with_len 0 (2 ^ 16))

pub none_below : (listing : PieceListing) → listed_below listing 0 ≡ []
unfolding listed_below
none_below listing = refl
