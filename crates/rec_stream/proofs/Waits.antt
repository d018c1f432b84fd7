-- Ends that wait.
use Rattle.std.proofs.Common.{ℕ, ◌≡◌, List, [], ◌∷◌, ◌++◌, map, refl, sym, ap, ◌∙◌}
use Rattle.std.specs.Prelude.{Bool, true, false, ◌==◌, ◌||◌}
use Rattle.std.specs.List.{AllByRecursion}
use Rattle.std.proofs.lemmas.Bool.{eq-eqb, eqb-true, true≢false, false≢true}
use Rattle.std.proofs.lemmas.List.{map-append}
use Rattle.rec_stream.specs.declared.waiting.WaitingEnd.{WaitingEnd}
use Rattle.ch11_merge.specs.Merging.{FilePiece}
use Rattle.ch11_file.specs.OwnedPieces.{owned_data}
use Rattle.rec_stream.specs.StreamPieces.{IsOfAnother}
use Rattle.rec_stream.specs.Sending.{MayWait, origin_pieces, waiting_piece, waits_in}

apart_here : (t : Bool) (e : WaitingEnd) (es : List WaitingEnd) (channel : ℕ) → (e.origin.channel == channel) ≡ t → (t || waits_in es channel) ≡ false
    → (waits_in es channel ≡ false → AllByRecursion (IsOfAnother channel) (map waiting_piece es))
    → AllByRecursion (IsOfAnother channel) (map waiting_piece (e ∷ es))
apart_here true e es channel is none rest = absurd (true≢false none)
apart_here false e es channel is none rest = (λ same. absurd (true≢false (sym (eq-eqb e.origin.channel channel same) ∙ is)), rest none)

pub apart_of : (ends : List WaitingEnd) (channel : ℕ) → waits_in ends channel ≡ false → AllByRecursion (IsOfAnother channel) (map waiting_piece ends)
apart_of [] channel none = tt
apart_of (e ∷ es) channel none = apart_here (e.origin.channel == channel) e es channel refl none (apart_of es channel)

together_here : (t : Bool) (e : WaitingEnd) (es : List WaitingEnd) (channel : ℕ) → (e.origin.channel == channel) ≡ t → (t || waits_in es channel) ≡ true
    → (waits_in es channel ≡ true → AllByRecursion (IsOfAnother channel) (map waiting_piece es) → ⊥)
    → AllByRecursion (IsOfAnother channel) (map waiting_piece (e ∷ es)) → ⊥
together_here true e es channel is some rest all = all.0 (eqb-true e.origin.channel channel is)
together_here false e es channel is some rest all = rest some all.1

pub together : (ends : List WaitingEnd) (channel : ℕ) → waits_in ends channel ≡ true → AllByRecursion (IsOfAnother channel) (map waiting_piece ends) → ⊥
together [] channel some all = absurd (false≢true some)
together (e ∷ es) channel some all = together_here (e.origin.channel == channel) e es channel refl some (together es channel) all

pub one_waits : (ends new : List WaitingEnd) (end : WaitingEnd) (pieces : List FilePiece) → new ≡ ends ++ end ∷ []
    → pieces ≡ owned_data end.piece ∷ [] → waits_in ends end.origin.channel ≡ false → MayWait ends (origin_pieces end.origin pieces) new
one_waits ends new end pieces is pieces_are none = rw pieces_are (
  ap (map waiting_piece) is ∙ map-append waiting_piece ends (end ∷ []),
  (apart_of ends end.origin.channel none, tt),
)
