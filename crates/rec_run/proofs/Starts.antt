-- One more channel is prepared, and one more worker is started.
use Rattle.std.proofs.Common.{ℕ, ◌≡◌, List, [], ◌∷◌, ◌++◌, ◌∙◌, ap, sym, subst}
use Rattle.std.proofs.lemmas.List.{append_assoc, map-append}
use Rattle.std.proofs.lemmas.List.Elements.{All-push}
use Rattle.rec_run.specs.Threads.{job_in, jobs_in, job_at, jobs_of, IsUnread, AreUnread, IsSized, AreSized}
use Rattle.rec_run.specs.declared.job.Job.{Job}
use Rattle.rec_run.specs.declared.writer.line.WriterLine.{WriterLine}
use Rattle.rec_run.specs.declared.threads.prepared.PreparedChannel.{PreparedChannel}

module _ {S : Type 0} (ls ls' : List (WriterLine S)) (l : WriterLine S) (pushed : ls' ≡ ls ++ l ∷ []) where
  pub started : (p : PreparedChannel S) (now rest : List (PreparedChannel S)) (jobs : List (Job S)) → now ≡ p ∷ rest → job_at l ≡ p.job
      → jobs ≡ jobs_of ls ++ jobs_in now → jobs ≡ jobs_of ls' ++ jobs_in rest
  started p now rest jobs is same e =
      e
      ∙ ap (λ x. jobs_of ls ++ jobs_in x) is
      ∙ ap (λ x. jobs_of ls ++ x ∷ jobs_in rest) (sym same)
      ∙ sym (append_assoc (jobs_of ls) (job_at l ∷ []) (jobs_in rest))
      ∙ ap (λ x. x ++ jobs_in rest) (sym (map-append job_at ls (l ∷ [])))
      ∙ ap (λ x. jobs_of x ++ jobs_in rest) (sym pushed)

  pub unread_more : AreUnread ls → IsUnread l → AreUnread ls'
  unread_more all one = subst (λ x. AreUnread x) (sym pushed) (All-push IsUnread ls l all one)

-- one more channel is prepared
module _ {S : Type 0} (ps ps' : List (PreparedChannel S)) (p : PreparedChannel S) (pushed : ps' ≡ ps ++ p ∷ []) where
  pub prepared : (job : Job S) (now rest jobs : List (Job S)) → now ≡ job ∷ rest → p.job ≡ job → jobs ≡ jobs_in ps ++ now → jobs ≡ jobs_in ps' ++ rest
  prepared job now rest jobs is same e =
      e
      ∙ ap (λ x. jobs_in ps ++ x) is
      ∙ ap (λ x. jobs_in ps ++ x ∷ rest) (sym same)
      ∙ sym (append_assoc (jobs_in ps) (p.job ∷ []) rest)
      ∙ ap (λ x. x ++ rest) (sym (map-append job_in ps (p ∷ [])))
      ∙ ap (λ x. jobs_in x ++ rest) (sym pushed)

  pub sized_more : (ring : ℕ) → AreSized ring ps → IsSized ring p → AreSized ring ps'
  sized_more ring all one = subst (λ x. AreSized ring x) (sym pushed) (All-push (IsSized ring) ps p all one)
