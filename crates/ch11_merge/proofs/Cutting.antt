-- Frames are cut into pieces, in one way.
use Rattle.std.proofs.Common.{ℕ, ◌≡◌, inl, inr, List, [], ◌∷◌, ◌++◌, map, refl, sym, ◌∙◌, ap, subst}
use Rattle.std.specs.Prelude.{false}
use Rattle.std.specs.List.{AllByRecursion}
use Rattle.std.proofs.lemmas.Bool.{cases_Bool, both_ways}
use Rattle.ch11_packet.specs.FramesRead.{ReadFrameData}
use Rattle.ch11_merge.specs.declared.piece.PieceSoFar.{PieceSoFar}
use Rattle.ch11_merge.specs.Pieces.{with_frame, with_frames, begun, goes_on, GoOn, IsPiece, AreApart, AreCut, joined_frames}
use Rattle.ch11_merge.specs.Parts.{cut_behind, frames_pieces, frames_of_piece}

-- ---- one way

-- what follows doesn't go on
abbrev Stops : PieceSoFar → List ReadFrameData → Type 0
Stops piece [] = Unit {0}
Stops piece (f ∷ fs) = goes_on piece f ≡ false

same_front : (piece : PieceSoFar) (xs ys r s : List ReadFrameData) → GoOn piece xs → GoOn piece ys → Stops (with_frames piece xs) r
    → Stops (with_frames piece ys) s → xs ++ r ≡ ys ++ s → (ys ≡ xs) × (s ≡ r)
same_front piece [] [] r s p q u v e = (refl, sym e)
same_front piece [] (y ∷ ys) [] s p q u v e = cc
same_front piece [] (y ∷ ys) (c ∷ cs) s p q u v e =
    let same : c ≡ y = cc in
    absurd (both_ways (goes_on piece y) (subst (λ f. goes_on piece f ≡ false) same u) q.0)
same_front piece (x ∷ xs) [] r [] p q u v e = cc
same_front piece (x ∷ xs) [] r (c ∷ cs) p q u v e =
    let same : c ≡ x = cc in
    absurd (both_ways (goes_on piece x) (subst (λ f. goes_on piece f ≡ false) same v) p.0)
same_front piece (x ∷ xs) (y ∷ ys) r s p q u v e =
    let heads : y ≡ x = cc in
    let tails : xs ++ r ≡ ys ++ s = cc in
    let rest = same_front (with_frame piece x) xs ys r s p.1 (subst (λ f. GoOn (with_frame piece f) ys) heads q.1) u
    (subst (λ f. Stops (with_frames (with_frame piece f) ys) s) heads v) tails in
    (cc, rest.1)

stops_behind : (x : ReadFrameData) (xs : List ReadFrameData) (ps : List (List ReadFrameData)) → AllByRecursion IsPiece ps → AreApart ((x ∷ xs) ∷ ps)
    → Stops (with_frames (begun x) xs) (joined_frames ps)
stops_behind x xs [] p a = tt
stops_behind x xs ([] ∷ ps) p a = absurd p.0
stops_behind x xs ((c ∷ cs) ∷ ps) p a = a.0

apart_behind : (p : List ReadFrameData) (ps : List (List ReadFrameData)) → AreApart (p ∷ ps) → AreApart ps
apart_behind p [] a = tt
apart_behind p (q ∷ ps) a = a.1

one_cut : (a b : List (List ReadFrameData)) → joined_frames a ≡ joined_frames b → AllByRecursion IsPiece a → AllByRecursion IsPiece b → AreApart a
    → AreApart b → b ≡ a
one_cut [] [] e p q u v = refl
one_cut [] ([] ∷ b) e p q u v = absurd q.0
one_cut [] ((y ∷ ys) ∷ b) e p q u v = cc
one_cut ([] ∷ a) b e p q u v = absurd p.0
one_cut ((x ∷ xs) ∷ a) [] e p q u v = cc
one_cut ((x ∷ xs) ∷ a) ([] ∷ b) e p q u v = absurd q.0
one_cut ((x ∷ xs) ∷ a) ((y ∷ ys) ∷ b) e p q u v =
    let heads : y ≡ x = cc in
    let tails : xs ++ joined_frames a ≡ ys ++ joined_frames b = cc in
    let front = same_front (begun x) xs ys (joined_frames a) (joined_frames b) p.0 (subst (λ f. GoOn (begun f) ys) heads q.0) (stops_behind x xs a p.1 u)
    (subst (λ f. Stops (with_frames (begun f) ys) (joined_frames b)) heads (stops_behind y ys b q.1 v)) tails in
    let rest : b ≡ a = one_cut a b (sym front.1) p.1 q.1 (apart_behind (x ∷ xs) a u) (apart_behind (y ∷ ys) b v) in
    let same : ys ≡ xs = front.0 in
    cc

pub cut_in_one_way : (frames : List ReadFrameData) (pieces others : List (List ReadFrameData)) → AreCut frames pieces → AreCut frames others → others ≡ pieces
cut_in_one_way frames pieces others a b = one_cut pieces others (a.whole ∙ sym b.whole) a.each b.each a.apart b.apart

-- ---- some way

-- the pieces that follow don't go on
abbrev Follows : PieceSoFar → List (List ReadFrameData) → Type 0
Follows piece [] = Unit {0}
Follows piece ([] ∷ ps) = Unit {0}
Follows piece ((f ∷ fs) ∷ ps) = goes_on piece f ≡ false

apart_with : (x : ReadFrameData) (xs : List ReadFrameData) (ps : List (List ReadFrameData)) → Follows (with_frames (begun x) xs) ps → AreApart ps
    → AreApart ((x ∷ xs) ∷ ps)
apart_with x xs [] f a = tt
apart_with x xs ([] ∷ ps) f a = (tt, a)
apart_with x xs ((c ∷ cs) ∷ ps) f a = (f, a)

-- frames are cut behind a piece so far into the rest of it and further pieces
record IsBehind (piece : PieceSoFar) (all front : List ReadFrameData) (pieces : List (List ReadFrameData)) : Type 0 where
  pub whole : front ++ joined_frames pieces ≡ all
  pub goes : GoOn piece front
  pub each : AllByRecursion IsPiece pieces
  pub cut : Follows (with_frames piece front) pieces
  pub apart : AreApart pieces

is_behind : (place : ℕ) (piece : PieceSoFar) (frames : List ReadFrameData)
    → IsBehind piece frames (cut_behind place piece frames).0 (map frames_of_piece (cut_behind place piece frames).1)
is_behind place piece [] = record { whole = refl; goes = tt; each = tt; cut = tt; apart = tt }
is_behind place piece (f ∷ fs) = elim (cases_Bool (goes_on piece f))
    as (λ _. IsBehind piece (f ∷ fs) (cut_behind place piece (f ∷ fs)).0 (map frames_of_piece (cut_behind place piece (f ∷ fs)).1)) [
      | inl on ↦
          let b = is_behind place (with_frame piece f) fs in
          rw on (record { whole = ap (λ (xs : List ReadFrameData). f ∷ xs) b.whole; goes = (on, b.goes); each = b.each; cut = b.cut; apart = b.apart })
      | inr off ↦
          let b = is_behind place (begun f) fs in
          rw off (record {
            whole = ap (λ (xs : List ReadFrameData). f ∷ xs) b.whole;
            goes = tt;
            each = (b.goes, b.each);
            cut = off;
            apart = apart_with f (cut_behind place (begun f) fs).0 (map frames_of_piece (cut_behind place (begun f) fs).1) b.cut b.apart;
          })
    ]

pub pieces_cut : (place : ℕ) (frames : List ReadFrameData) → AreCut frames (map frames_of_piece (frames_pieces place frames))
pieces_cut place [] = record { whole = refl; each = tt; apart = tt }
pieces_cut place (f ∷ fs) =
    let b = is_behind place (begun f) fs in
    record {
      whole = ap (λ (xs : List ReadFrameData). f ∷ xs) b.whole;
      each = (b.goes, b.each);
      apart = apart_with f (cut_behind place (begun f) fs).0 (map frames_of_piece (cut_behind place (begun f) fs).1) b.cut b.apart;
    }

pub have_pieces : (frames : List ReadFrameData) → (pieces : List (List ReadFrameData)) × AreCut frames pieces
have_pieces frames = (map frames_of_piece (frames_pieces 0 frames), pieces_cut 0 frames)
