-- One worker more has ended.
use Rattle.std.proofs.Common.{◌≡◌, ℕ, List, [], ◌∷◌, ◌++◌, Option, ◌∙◌, ap, sym, subst}
use Rattle.std.specs.List.{AllZip}
use Rattle.std.proofs.lemmas.List.{append_assoc}
use Rattle.std.proofs.lemmas.List.Elements.{All-rest, All-head}
use Rattle.eth_frame.specs.Source.{Left}
use Rattle.eth_frame.specs.declared.source.SourceEnding.{SourceEnding}
use Rattle.rec_lane.specs.Pieces.{PieceData}
use Rattle.rec_run.specs.Threads.{jobs_of, job_at}
use Rattle.rec_run.specs.Writer.{CameFrom, AllCame}
use Rattle.rec_run.specs.Threads.{JoinedOf}
use Rattle.rec_run.specs.declared.writer.line.WriterLine.{WriterLine}
use Rattle.rec_run.specs.declared.job.Job.{Job}
use Rattle.rec_run.specs.declared.threads.joins.Joined.{Joined}

module _ {S : Type 0} (l : WriterLine S) (rest now : List (WriterLine S)) (is : now ≡ l ∷ rest) where
  pub came_rest : (pieces : List PieceData) → AllCame pieces now → AllCame pieces rest
  came_rest pieces all = All-rest (λ x. CameFrom pieces x) l rest now is all

  pub came_head : (pieces : List PieceData) → AllCame pieces now → CameFrom pieces l
  came_head pieces all = All-head (λ x. CameFrom pieces x) l rest (let P : List (WriterLine S) → Type 0 = λ x. AllCame pieces x in subst P is all)

  pub jobs_step : (all : List (WriterLine S)) (js : List (Job S)) → jobs_of all ≡ js ++ jobs_of now → jobs_of all ≡ (js ++ job_at l ∷ []) ++ jobs_of rest
  jobs_step all js e = e ∙ ap (λ v. js ++ jobs_of v) is ∙ sym (append_assoc js (job_at l ∷ []) (jobs_of rest))

-- std's own is for two lists of one type
pub zip_push : {A B : Type 0} (R : A → B → Type 0) (xs : List A) (ys : List B) (x : A) (y : B) → AllZip R xs ys → R x y → AllZip R (xs ++ x ∷ []) (ys ++ y ∷ [])
zip_push R [] [] x y all one = (one, tt)
zip_push R [] (b ∷ ys) x y all one = absurd all
zip_push R (a ∷ xs) [] x y all one = absurd all
zip_push R (a ∷ xs) (b ∷ ys) x y all one = (all.0, zip_push R xs ys x y all.1 one)

pub joined_push : {S : Type 0} (left : S → Option Left) (failures : S → ℕ) (ended_as : S
    → Option SourceEnding) (pieces : List PieceData) (js : List (Job S)) (done done' : List (Joined S)) (job : Job S) (j : Joined S)
    → done' ≡ done ++ j ∷ [] → AllZip (JoinedOf left failures ended_as pieces) js done → JoinedOf left failures ended_as pieces job j
    → AllZip (JoinedOf left failures ended_as pieces) (js ++ job ∷ []) done'
joined_push left failures ended_as pieces js done done' job j e all one =
    subst (λ x. AllZip (JoinedOf left failures ended_as pieces) (js ++ job ∷ []) x) (sym e)
    (zip_push (JoinedOf left failures ended_as pieces) js done job j all one)
