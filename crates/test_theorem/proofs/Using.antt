-- From what `record` says to what is found.
use Rattle.std.proofs.Common.{ℕ, ◌≡◌, ◌++◌, Bool, List, Option, None, Some, ap, sym, subst}
use Rattle.std.specs.Prelude.{Result, Ok, Err, IfOk, IfErr}
use Rattle.std.specs.Io.KnownBytes.{Appends}
use Rattle.eth_frame.specs.Source.{Left}
use Rattle.eth_frame.specs.declared.source.SourceEnding.{SourceEnding}
use Rattle.rec_writer.specs.Encoding.{writer_output}
use Rattle.rec_writer.specs.declared.fault.WriteFault.{WriteFault}
use Rattle.rec_run.specs.Control.{Given, Answered}
use Rattle.rec_run.specs.Recorded.{IsRecorded, IsControlled}
use Rattle.rec_run.specs.Verdicts.{CutsShort}
use Rattle.rec_run.specs.declared.job.Job.{Job}
use Rattle.rec_run.specs.declared.report.Done.{Done}
use Rattle.rec_run.specs.declared.report.Report.{Report}
use Rattle.rec_run.specs.declared.report.RunFault.{RunFault}
use Rattle.rec_run.specs.declared.report.RunFault.TheVariants.{Memory, Write, Link, History}
use Rattle.rec_theorem.specs.Theorem.{HasRecorded, HasBeenCut, Finds, FindsCut}
use Rattle.test_theorem.specs.Used.{FindsAll, FindsPart}

-- an output that said what it held says what it holds
held_now : (before bytes : List ℕ) (first held : Option (List ℕ)) → first ≡ Some before → Appends first held bytes → held ≡ Some (before ++ bytes)
held_now before bytes None held was appends = cc
held_now before bytes (Some xs) None was appends = absurd appends
held_now before bytes (Some xs) (Some ys) was appends = subst (λ o. Appends o (Some ys) bytes
    → Some ys ≡ Some (before ++ bytes)) (sym was) (λ moved. ap (λ bs. Some bs) moved) appends

module _ {S C W : Type 0} (left : S → Option Left) (failures : S → ℕ) (ended_as : S → Option SourceEnding) (given : C → List Given) (answered : C
    → List Answered) (ended : C → Bool) (contents : W → Option (List ℕ))
    (jobs : List (Job S)) (version : ℕ) (control : C) (out : W) where
  pub finds_all : ((jobs : List (Job S)) (version : ℕ) (control : C) (out : W) (done : Done S C W) (before bytes : List ℕ)
      → (recorded : HasRecorded left failures ended_as given answered ended contents jobs version control out done before bytes)
      → Finds left jobs done.report.channels.items recorded.controlled.changes bytes)
      → (result : Result (Done S C W) (RunFault S C W))
      → IfOk result (λ done. IsRecorded left failures ended_as jobs version (contents out) (contents done.out) done.report)
      → IfOk result (λ done. IsControlled given answered ended control done.control jobs done.report.channels.items)
      → IfOk result (FindsAll left given contents jobs control out)
  finds_all law (Ok done) recorded controlled = λ before was.
      let held = held_now before recorded.bytes (contents out) (contents done.out) was recorded.written in (
        recorded.bytes,
        controlled.changes,
        held,
        controlled.given_is,
        law jobs version control out done before recorded.bytes (record {
          recorded = recorded;
          controlled = controlled;
          held_before = was;
          held_after = held;
        }),
      )
  finds_all law (Err fault) recorded controlled = tt

  pub finds_part : ((jobs : List (Job S)) (version : ℕ) (first last : W) (fault : WriteFault) (report : Report S) (before bytes : List ℕ)
      → HasBeenCut left failures ended_as contents jobs version first last fault report before bytes → FindsCut left jobs report.channels.items bytes)
      → (result : Result (Done S C W) (RunFault S C W)) → IfErr result (CutsShort left failures ended_as contents jobs version (contents out))
      → IfErr result (FindsPart left contents jobs out)
  finds_part law (Ok done) cut = tt
  finds_part law (Err Memory) cut = tt
  finds_part law (Err (Write fault report back last)) cut = λ before was.
      let bytes = writer_output version cut.pieces ++ cut.cut in
      let held = held_now before bytes (contents out) (contents last) was cut.written in
      (bytes, held, law jobs version out last fault report before bytes (record { cut = cut; held_before = was; held_after = held }))
  finds_part law (Err Link) cut = tt
  finds_part law (Err History) cut = tt
