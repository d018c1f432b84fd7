-- What a caller of `record` concludes of an output that says what it holds.
use Rattle.std.specs.Prelude.{ℕ, ◌≡◌, List, ◌++◌, Option, Some}
use Rattle.eth_frame.specs.Source.{Left}
use Rattle.rec_run.specs.Control.{Given}
use Rattle.rec_run.specs.declared.job.Job.{Job}
use Rattle.rec_run.specs.declared.report.Done.{Done}
use Rattle.rec_run.specs.declared.report.RunFault.{RunFault}
use Rattle.rec_run.specs.declared.report.RunFault.TheVariants.{Memory, Write, Link, History}
use Rattle.rec_theorem.specs.Theorem.{Finds, FindsCut}

module _ {S C W : Type 0}
    (left : S → Option Left) (given : C → List Given) (contents : W → Option (List ℕ)) where
  -- behind what it held, the output has bytes in which the accepted frames of each job are found,
  -- and no others; the programs in force are the jobs' and the changes that the control gave since
  abbrev pub FindsAll : List (Job S) → C → W → Done S C W → Type 0
  FindsAll jobs control out done =
      (before : List ℕ) → contents out ≡ Some before
      → (bytes : List ℕ) × (changes : List Given)
      × (contents done.out ≡ Some (before ++ bytes))
      × (given done.control ≡ given control ++ changes)
      × Finds left jobs done.report.channels.items changes bytes

module _ {S C W : Type 0} (left : S → Option Left) (contents : W → Option (List ℕ)) where
  -- where the output failed, it has bytes in which the first of these are found
  abbrev pub FindsPart : List (Job S) → W → RunFault S C W → Type 0
  FindsPart jobs out Memory = Unit {0}
  FindsPart jobs out (Write fault report control last) =
      (before : List ℕ) → contents out ≡ Some before
      → (bytes : List ℕ)
      × (contents last ≡ Some (before ++ bytes))
      × FindsCut left jobs report.channels.items bytes
  FindsPart jobs out Link = Unit {0}
  FindsPart jobs out History = Unit {0}
