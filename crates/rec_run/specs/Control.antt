-- What a control gave and was told, what its thread did, and what is answered to the changes of a
-- channel.
use Rattle.std.specs.Prelude.{ℕ, ◌≡◌, Bool, false, List, [], ◌∷◌, ◌++◌, length, true, map, ◌+◌}
use Rattle.std.specs.Prelude.{◌==◌, take, drop, ◌≤◌, Contains, MatchBool}
use Rattle.std.specs.Arc.{arc_value}
use Rattle.bpf_insn.specs.declared.insn.Insn.{Insn}
use Rattle.rec_run.specs.declared.control.change.Change.{Change}
use Rattle.rec_run.specs.declared.control.change.Answer.{Answer}
use Rattle.rec_run.specs.declared.control.change.Told.{Told}
use Rattle.rec_run.specs.declared.control.change.Logged.{Logged}
use Rattle.rec_run.specs.declared.control.thread.Controlled.{Controlled}
use Rattle.std.specs.List.{filter}
use Rattle.rec_channel.specs.History.{Version}
use Rattle.rec_channel.specs.Slots.{programs_in}
use Rattle.rec_channel.specs.declared.limits.TheConstants.{MAX_VERSIONS}
use Rattle.rec_run.specs.declared.control.change.Answer.TheVariants.{Installed, VersionsFull}
use Rattle.rec_run.specs.declared.control.change.Answer.TheVariants.{NoChannel}

-- a change: a channel and its new program
pub record Given : Type 0 where
  pub channel : ℕ
  pub program : List Insn

-- what was answered to a change, and the channel that it was for
pub record Answered : Type 0 where
  pub channel : ℕ
  pub answer : Answer

abbrev pub given_of : Change → Given
given_of change = record { channel = change.channel; program = arc_value change.program }

abbrev pub answered_of : Told → Answered
answered_of told = record { channel = told.channel; answer = told.answer }

-- a change as it was answered: the change, and the answer
abbrev pub logged_change : Logged → Given
logged_change entry =
    record { channel = entry.told.channel; program = arc_value entry.program }

abbrev pub logged_answer : Logged → Answered
logged_answer entry = answered_of entry.told

-- a control: the changes that it gave, the answers that it was told, and whether it has ended
pub record ControlState : Type 0 where
  pub given : List Given
  pub answered : List Answered
  pub ended : Bool

-- the last change that was given is for this channel
abbrev pub IsOfLast : List Given → ℕ → Type 0
IsOfLast changes channel =
    (earlier : List Given) × (last : Given)
    × (changes ≡ earlier ++ last ∷ []) × (last.channel ≡ channel)

module _ {C : Type 0} (given : C → List Given) (answered : C → List Answered) (ended : C
    → Bool) where
  -- it was told the answer of each change that it gave, and has not ended
  pub record MayBeAsked (control : C) : Type 0 where
    pub even : length (answered control) ≡ length (given control)
    pub goes_on : ended control ≡ false

-- ---- the control's thread

module _ {C : Type 0} (given : C → List Given) (answered : C → List Answered) where
  -- since then the control gave the changes of the log, and was told the answers in it
  pub record HasControlled (before after : C) (log : List Logged) : Type 0 where
    pub given_is : given after ≡ given before ++ map logged_change log
    pub told_is : answered after ≡ answered before ++ map logged_answer log

module _ {C : Type 0} (given : C → List Given) (answered : C → List Answered) (ended : C
    → Bool) where
  -- where the thread says that the control has ended, it has, and the log is all of it
  abbrev pub EndsControl : C → Controlled C → Type 0
  EndsControl before run =
      run.ended ≡ true
      → (ended run.control ≡ true) × HasControlled given answered before run.control run.log.items

-- ---- the answers

-- the changes for a channel, and the answers to them
abbrev pub given_for : ℕ → List Given → List Given
given_for channel changes = filter (λ (g : Given). g.channel == channel) changes

abbrev pub answered_for : ℕ → List Answered → List Answered
answered_for channel answers = filter (λ (a : Answered). a.channel == channel) answers

abbrev pub programs_given : List Given → List (List Insn)
programs_given changes = map (λ (g : Given). g.program) changes

abbrev pub answers_in : List Answered → List Answer
answers_in answers = map (λ (a : Answered). a.answer) answers

-- the answers to these changes of a channel, if these are the versions that come next: as long as
-- there are some, each is installed
abbrev pub answers_to : (version : ℕ) → List Version → List Given → List Answer
answers_to version versions [] = []
answers_to version [] (g ∷ gs) = VersionsFull ∷ answers_to (version + 1) [] gs
answers_to version (v ∷ vs) (g ∷ gs) = Installed version v.mark ∷ answers_to (version + 1) vs gs

-- the versions of a channel are its first program and then the first changes for it, as many as
-- there may be, and each change for it was told the version and the mark that it has there
pub record IsChanged
    (channel : ℕ) (program : List Insn) (history : List Version) (changes : List Given)
    (answers : List Answered) : Type 0 where
  pub programs_are : programs_in history
      ≡ take MAX_VERSIONS (program ∷ programs_given (given_for channel changes))
  pub answers_are : answers_in (answered_for channel answers)
      ≡ answers_to 1 (drop 1 history) (given_for channel changes)

-- ---- the log of the control's thread, beside a channel's history

-- the change is the first of these versions, whose number is this; where there are none, it was
-- refused, since there are as many as may be
abbrev pub IsNext : (version : ℕ) → List Version → Logged → Type 0
IsNext version [] entry = (entry.told.answer ≡ VersionsFull) × (MAX_VERSIONS ≤ version)
IsNext version (v ∷ vs) entry =
    (entry.told.answer ≡ Installed version v.mark) × (v.program ≡ arc_value entry.program)

-- the changes of a channel are these versions, one after the other, numbered from this one on
abbrev pub FollowsVersions : (channel version : ℕ) → List Version → List Logged → Type 0
FollowsVersions channel version versions [] = versions ≡ []
FollowsVersions channel version versions (entry ∷ entries) =
    MatchBool (entry.told.channel == channel)
    (IsNext version versions entry
    × FollowsVersions channel (version + 1) (drop 1 versions) entries)
    (FollowsVersions channel version versions entries)

-- the first version of a channel has its first program, and the changes are the others
abbrev pub AreAnswered : (channel : ℕ) → List Insn → List Version → List Logged → Type 0
AreAnswered channel program [] log = ⊥
AreAnswered channel program (v ∷ vs) log = (v.program ≡ program) × FollowsVersions channel 1 vs log

-- a change for none of these channels was told so
abbrev pub IsOfSome : List ℕ → Logged → Type 0
IsOfSome channels entry = ¬ Contains channels entry.told.channel → entry.told.answer ≡ NoChannel
