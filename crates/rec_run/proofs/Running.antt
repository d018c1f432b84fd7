-- From the threads' start to their end.
use Rattle.std.proofs.Common.{◌≡◌, ℕ, false, List, [], ◌∷◌, ◌++◌, map, get_or, Option, All, arith, refl, ◌∙◌, ap, sym, subst}
use Rattle.std.specs.Prelude.{count_by, Contains}
use Rattle.std.specs.List.{AllZip}
use Rattle.rtrb.specs.Ring.{received}
use Rattle.eth_frame.specs.Source.{Left}
use Rattle.eth_frame.specs.declared.source.SourceEnding.{SourceEnding}
use Rattle.rec_lane.specs.Pieces.{PieceData, channel_of}
use Rattle.rec_lane.specs.Views.{pieces_data}
use Rattle.rec_writer.specs.Numbers.{numbered_channels, AreDistinctChannels}
use Rattle.rec_writer.specs.Writers.{WriterState, HasWritten}
use Rattle.rec_run.specs.Jobs.{channels_of_jobs}
use Rattle.rec_run.specs.Threads.{JoinedOf}
use Rattle.rec_run.specs.Threads.{WroteIn}
use Rattle.rec_run.specs.Threads.{jobs_of, job_at, AreUnread}
use Rattle.rec_run.specs.Writer.{channels, handles, has_buffer, IsReady, AllCame, Writes, WroteSo}
use Rattle.rec_run.specs.declared.job.Job.{Job}
use Rattle.rec_run.specs.declared.threads.joins.Joined.{Joined}
use Rattle.rec_run.specs.declared.writer.line.WriterLine.{WriterLine}
use Rattle.rec_run.specs.declared.writer.Wrote.{Wrote}
use Rattle.rec_run.specs.declared.writer.Wrote.TheVariants.{Nothing, Piece, Failed, Link}

module _ {S : Type 0} where
  -- a line's channel is its job's
  pub channels_are : (ls : List (WriterLine S)) → channels ls ≡ channels_of_jobs (jobs_of ls)
  channels_are [] = refl
  channels_are (l ∷ ls) = ap (λ c. c ∷ channels ls) l.named ∙ ap (λ cs. (job_at l).spec.channel ∷ cs) (channels_are ls)

  jobs_by_handles : (ls : List (WriterLine S)) → jobs_of ls ≡ map (λ h. h.promise.job.value) (handles ls)
  jobs_by_handles [] = refl
  jobs_by_handles (l ∷ ls) = ap (λ js. job_at l ∷ js) (jobs_by_handles ls)

  pub same_jobs : (ls ls' : List (WriterLine S)) → handles ls' ≡ handles ls → jobs_of ls' ≡ jobs_of ls
  same_jobs ls ls' e = jobs_by_handles ls' ∙ ap (λ hs. map (λ h. h.promise.job.value) hs) e ∙ sym (jobs_by_handles ls)

  pub lines_ready : (ls : List (WriterLine S)) (js : List (Job S)) (writer : WriterState) → jobs_of ls ≡ js → AreDistinctChannels (channels_of_jobs js)
      → numbered_channels writer.numbers ≡ 0 ∷ channels_of_jobs js → IsReady ls writer
  lines_ready ls js writer e distinct known =
      let same : channels ls ≡ channels_of_jobs js = channels_are ls ∙ ap (λ x. channels_of_jobs x) e in
      record { distinct = subst (λ cs. AreDistinctChannels cs) (sym same) distinct; known = known ∙ ap (λ cs. 0 ∷ cs) (sym same) }

  -- nothing is written yet
  pub writes_none : (first : Option (List ℕ)) (writer : WriterState) (bytes : ℕ) (ls : List (WriterLine S)) → writer.failed ≡ false
      → HasWritten first [] [] writer → bytes ≡ 0 → AreUnread ls → Writes first writer bytes ls
  writes_none first writer bytes ls works written none unread = record {
    pieces = [];
    works = works;
    written = written;
    counted = none;
    named = λ k d low. absurd (omega (arith, low));
    came = λ k d low. sym (ap (λ ps. pieces_data ps) (unread k d low).0);
    gave = λ k d low.
        let u = unread k d low in
        let n : count_by has_buffer (received (get_or ls k d).pieces) ≡ 0 = ap (λ ps. count_by has_buffer ps) u.0 in
        omega (arith, u.1, n);
  }

module _ {S : Type 0} (left : S → Option Left) (failures : S → ℕ) (ended_as : S
    → Option SourceEnding) (first : Option (List ℕ)) (ls : List (WriterLine S)) (js : List (Job S)) (joined : List (Joined S))
    (jobs_are : jobs_of ls ≡ js) (joins : (pieces : List PieceData) → AllCame pieces ls
    → AllZip (JoinedOf left failures ended_as pieces) (jobs_of ls) joined) where
  named_jobs : (pieces : List PieceData) → All (λ (p : PieceData). Contains (channels ls) (channel_of p)) pieces
      → All (λ (p : PieceData). Contains (channels_of_jobs js) (channel_of p)) pieces
  named_jobs pieces named = subst (λ cs. All (λ (p : PieceData). Contains cs (channel_of p)) pieces) (channels_are ls ∙ ap (λ x. channels_of_jobs x) jobs_are)
      named

  joined_jobs : (pieces : List PieceData) → AllCame pieces ls → AllZip (JoinedOf left failures ended_as pieces) js joined
  joined_jobs pieces came = subst (λ x. AllZip (JoinedOf left failures ended_as pieces) x joined) jobs_are (joins pieces came)

  pub outcome : (wrote : Wrote) (writer : WriterState) (bytes : ℕ) → WroteSo wrote first writer bytes ls
      → WroteIn left failures ended_as first wrote js joined writer bytes
  outcome Nothing writer bytes w = record {
    pieces = w.pieces;
    works = w.works;
    written = w.written;
    counted = w.counted;
    named = named_jobs w.pieces w.named;
    joined_are = joined_jobs w.pieces w.came;
  }
  outcome Piece writer bytes w = record {
    pieces = w.pieces;
    works = w.works;
    written = w.written;
    counted = w.counted;
    named = named_jobs w.pieces w.named;
    joined_are = joined_jobs w.pieces w.came;
  }
  outcome (Failed fault) writer bytes w =
      record {
        pieces = w.pieces;
        piece = w.piece;
        cut = w.cut;
        cut_is = w.cut_is;
        written = w.written;
        fault_is = w.fault_is;
        counted = w.counted;
        named = named_jobs (w.pieces ++ w.piece ∷ []) w.named;
        joined_are = joined_jobs (w.pieces ++ w.piece ∷ []) w.came;
      }
  outcome Link writer bytes w = tt
