-- What is read of a table's scale is what its text says.
use Rattle.std.proofs.Common.{ℕ, ◌≡◌, ◌⊎◌, inl, inr, Bool, true, false, Option, None, Some, option_map, Ok, Err, MatchResult}
use Rattle.std.proofs.Common.{List, refl, sym, ap, subst, ◌∙◌, codes, if◌then◌else◌}
use Rattle.std.specs.Prelude.{bytes_eq, unwrap_or}
use Rattle.std.proofs.lemmas.Option.{none-some}
use Rattle.std.proofs.lemmas.Slice.Eq.{bytes_eq-Decides}
use Rattle.toml.specs.Data.{Data, string, integer, float, boolean, datetime, array, table as table_data, Members, get_member}
use Rattle.rec_words.specs.Settings.{Fault, value, ◌>>=◌, most_of_8_bits}
use Rattle.rec_words.specs.SetupFile.{tai_offset_in, without_offset, ahead_of, ahead_told_in, ahead_in, unknown_scale}
use Rattle.rec_words.specs.SetupFormat.{IsUnset, IsSetToText, IsAhead, IsSaidOfUnknown}
use Rattle.rec_words.proofs.KeysRead.{then_says, outcome, number_required}

abbrev Whatever : Fault → Type 0
Whatever fault = Unit {0}

offset_says : {A : Type 0} (is : A) (m : Members) → MatchResult (without_offset is m) (λ a. (a ≡ is) × IsUnset m (codes "tai_offset")) Whatever
offset_says {A} is m = by (get_member (codes "tai_offset") m) refl
  where
    by : (found : Option Data) → get_member (codes "tai_offset") m ≡ found
        → MatchResult (unwrap_or (option_map (λ _. Err (value (codes "tai_offset"))) found) (Ok is)) (λ a. (a ≡ is) × IsUnset m (codes "tai_offset")) Whatever
    by None unset = (refl, unset)
    by (Some d) unset = tt

module _ (unknown : Option ℕ) (m : Members) where
  utc_says : (IsUnset m (codes "scale")) ⊎ (IsSetToText m (codes "scale") (codes "UTC")) → MatchResult (without_offset 0 m) (IsAhead unknown m) Whatever
  utc_says scale = outcome (without_offset 0 m) (λ ahead h. inl (scale, h.1, h.0)) (λ f _. tt) (offset_says 0 m)

  tai_says : IsSetToText m (codes "scale") (codes "TAI") → MatchResult (tai_offset_in m) (IsAhead unknown m) Whatever
  tai_says scale = outcome (tai_offset_in m) (λ ahead n. inr (inl (scale, n.1 ∙ ap (λ x. Some x) n.2.0, n.2.2))) (λ f _. tt)
      (number_required 0 most_of_8_bits (codes "tai_offset") m)

  unknown_says : IsSetToText m (codes "scale") (codes "unknown") → (said : Option ℕ) → unknown ≡ said
      → MatchResult (unwrap_or (option_map (λ ahead. without_offset ahead m) said) (Err (value (codes "scale")))) (IsAhead unknown m) Whatever
  unknown_says scale None is = tt
  unknown_says scale (Some n) is = outcome (without_offset n m) (λ ahead h. inr (inr (scale, h.1, is ∙ ap (λ x. Some x) (sym h.0)))) (λ f _. tt)
      (offset_says n m)

  named_says : (name : List ℕ) → IsSetToText m (codes "scale") name → MatchResult (ahead_of unknown name m) (IsAhead unknown m) Whatever
  named_says name is = by (bytes_eq name (codes "UTC")) (bytes_eq name (codes "TAI")) (bytes_eq name (codes "unknown")) refl refl refl
    where
      named : (text : List ℕ) → bytes_eq name text ≡ true → IsSetToText m (codes "scale") text
      named text e = is ∙ ap (λ (t : List ℕ). Some (string t)) ((bytes_eq-Decides name text).0 e)

      by : (utc tai other : Bool) → bytes_eq name (codes "UTC") ≡ utc → bytes_eq name (codes "TAI") ≡ tai → bytes_eq name (codes "unknown") ≡ other
          → MatchResult (if utc then without_offset 0 m else if tai then tai_offset_in m else if other then
          unwrap_or (option_map (λ ahead. without_offset ahead m) unknown) (Err (value (codes "scale"))) else Err (value (codes "scale")))
          (IsAhead unknown m) Whatever
      by true tai other e f g = utc_says (inr (named (codes "UTC") e))
      by false true other e f g = tai_says (named (codes "TAI") f)
      by false false true e f g = unknown_says (named (codes "unknown") g) unknown refl
      by false false false e f g = tt

  pub ahead_says : MatchResult (ahead_in unknown m) (IsAhead unknown m) Whatever
  ahead_says = by (get_member (codes "scale") m) refl
    where
      by : (found : Option Data) → get_member (codes "scale") m ≡ found
          → MatchResult (unwrap_or (option_map (ahead_told_in unknown m) found) (without_offset 0 m)) (IsAhead unknown m) Whatever
      by None is = utc_says (inl is)
      by (Some (string name)) is = named_says name is
      by (Some (integer n)) is = tt
      by (Some (float f)) is = tt
      by (Some (boolean b)) is = tt
      by (Some (datetime t)) is = tt
      by (Some (array items)) is = tt
      by (Some (table_data ms)) is = tt

pub scale_says : (m : Members) → MatchResult (unknown_scale m) (IsSaidOfUnknown m) Whatever
scale_says m = by (get_member (codes "scale") m) refl
  where
    by : (found : Option Data) → get_member (codes "scale") m ≡ found
        → MatchResult (unwrap_or (option_map (λ _. ahead_in None m >>= (λ ahead. Ok (Some ahead))) found) (without_offset None m)) (IsSaidOfUnknown m) Whatever
    by None is = outcome (without_offset None m) (λ said h. subst (IsSaidOfUnknown m) (sym h.0) (is, h.1)) (λ f _. tt) (offset_says None m)
    by (Some d) is = then_says (IsSaidOfUnknown m) (ahead_in None m) _ (ahead_says None m) (λ ahead a. (λ e. none-some d (sym e ∙ is), a)) (λ f _. tt)
