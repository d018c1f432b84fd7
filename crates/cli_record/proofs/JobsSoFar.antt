-- One job more, of one channel more.
use Rattle.std.proofs.Common.{List, [], ◌∷◌, ◌++◌, ◌≡◌, map, sym, ap, subst, ◌∙◌, append_assoc}
use Rattle.std.specs.List.{AllZip}
use Rattle.std.proofs.lemmas.List.{map-append}
use Rattle.std.proofs.lemmas.Slice.Zip.{all_zipped_more}

-- what is asked of all is what the jobs have so far, and then what is asked of the others
pub asked_more : {A B N : Type 0} (asked : A → N) (has : B → N) (all : List N) (jobs : List B) (job : B) (channel : A) (rest : List A)
    → all ≡ map has jobs ++ map asked (channel ∷ rest) → has job ≡ asked channel → all ≡ map has (jobs ++ job ∷ []) ++ map asked rest
asked_more asked has all jobs job channel rest whole same =
    whole ∙ sym (ap (λ l. l ++ map asked rest) (map-append has jobs (job ∷ [])) ∙ append_assoc (map has jobs) (has job ∷ []) (map asked rest)
    ∙ ap (λ n. map has jobs ++ n ∷ map asked rest) same)

-- the first channels, each with its job
pub record AreDone {A B : Type 0} (R : A → B → Type 0) (all rest : List A) (jobs : List B) : Type 0 where
  pub done : List A
  pub whole : all ≡ done ++ rest
  pub each : AllZip R done jobs

pub done_more : {A B : Type 0} (R : A → B → Type 0) (all rest left : List A) (jobs new : List B) (channel : A) (job : B) → AreDone R all rest jobs
    → rest ≡ channel ∷ left → new ≡ jobs ++ job ∷ [] → R channel job → AreDone R all left new
done_more R all rest left jobs new channel job so_far next pushed is = record {
  done = so_far.done ++ channel ∷ [];
  whole = so_far.whole ∙ (ap (λ l. so_far.done ++ l) next ∙ sym (append_assoc so_far.done (channel ∷ []) left));
  each = subst (AllZip R (so_far.done ++ channel ∷ [])) (sym pushed) (all_zipped_more R so_far.done jobs channel job so_far.each is);
}
