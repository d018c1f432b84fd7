-- From the log to what the control gave and was told.
use Rattle.std.proofs.Common.{◌≡◌, ℕ, zero, suc, ◌+◌, ◌≤◌, ◌==◌, Bool, true, false, List, [], ◌∷◌, length}
use Rattle.std.proofs.Common.{map, take, Option, All, arith, refl, ◌∙◌, ap, sym, subst, inl, inr}
use Rattle.std.specs.Prelude.{◌-◌, drop, Contains, MatchBool, if◌then◌else◌}
use Rattle.std.specs.Arc.{arc_value}
use Rattle.std.specs.List.{AllZip}
use Rattle.std.proofs.lemmas.Bool.{cases_Bool}
use Rattle.bpf_insn.specs.declared.insn.Insn.{Insn}
use Rattle.eth_frame.specs.Source.{Left}
use Rattle.eth_frame.specs.declared.source.SourceEnding.{SourceEnding}
use Rattle.rec_channel.specs.History.{Version}
use Rattle.rec_channel.specs.Slots.{programs_in}
use Rattle.rec_channel.specs.declared.limits.TheConstants.{MAX_VERSIONS}
use Rattle.rec_lane.specs.Pieces.{PieceData}
use Rattle.rec_run.specs.Control.{given_for, answered_for, programs_given, answers_in, answers_to, IsChanged}
use Rattle.rec_run.specs.Control.{Given, Answered, logged_change, logged_answer}
use Rattle.rec_run.specs.Control.{EndsControl}
use Rattle.rec_run.specs.Jobs.{channels_of_jobs}
use Rattle.rec_run.specs.Threads.{JoinedOf}
use Rattle.rec_run.specs.Control.{IsNext, FollowsVersions, AreAnswered, IsOfSome}
use Rattle.rec_run.specs.Recorded.{IsControlled}
use Rattle.rec_run.specs.Reports.{history_of}
use Rattle.rec_run.specs.Verdicts.{TellsOf}
use Rattle.rec_run.specs.declared.control.change.Answer.{Answer}
use Rattle.rec_run.specs.declared.control.change.Answer.TheVariants.{Installed, VersionsFull, NoChannel}
use Rattle.rec_run.specs.declared.control.change.Logged.{Logged}
use Rattle.rec_run.specs.declared.control.thread.Controlled.{Controlled}
use Rattle.rec_run.specs.declared.job.Job.{Job}
use Rattle.rec_run.specs.declared.threads.joins.Joined.{Joined}
use Rattle.rec_run.specs.declared.report.ChannelReport.{ChannelReport}

-- the programs given for a channel, and the answers to it, in a log
abbrev programs_for : ℕ → List Logged → List (List Insn)
programs_for c log = programs_given (given_for c (map logged_change log))

abbrev answers_for : ℕ → List Logged → List Answer
answers_for c log = answers_in (answered_for c (map logged_answer log))

take_none : {X : Type 0} (n : ℕ) → take {A = X} n [] ≡ []
take_none zero = refl
take_none (suc n) = refl

programs_here : (c : ℕ) (e : Logged) (es : List Logged) → (e.told.channel == c) ≡ true → programs_for c (e ∷ es) ≡ arc_value e.program ∷ programs_for c es
programs_here c e es on = ap (λ b. programs_given (if b then logged_change e ∷ given_for c (map logged_change es) else given_for c (map logged_change es))) on

programs_there : (c : ℕ) (e : Logged) (es : List Logged) → (e.told.channel == c) ≡ false → programs_for c (e ∷ es) ≡ programs_for c es
programs_there c e es off = ap (λ b. programs_given (if b then logged_change e ∷ given_for c (map logged_change es) else given_for c (map logged_change es)))
    off

next_program : (c version : ℕ) (e : Logged) (es : List Logged)
    → ((ws : List Version) → FollowsVersions c (version + 1) ws es → version + 1 + length ws ≤ MAX_VERSIONS
    → programs_in ws ≡ take (MAX_VERSIONS - (version + 1)) (programs_for c es))
    → (ws : List Version) → IsNext version ws e → FollowsVersions c (version + 1) (drop 1 ws) es → version + length ws ≤ MAX_VERSIONS
    → programs_in ws ≡ take (MAX_VERSIONS - version) (arc_value e.program ∷ programs_for c es)
next_program c version e es later [] next rest low =
    let n : MAX_VERSIONS - version ≡ 0 = (let m : MAX_VERSIONS ≤ version = next.1 in omega (arith, m)) in
    sym (ap (λ k. take k (arc_value e.program ∷ programs_for c es)) n)
next_program c version e es later (w ∷ ws) next rest low =
    let n : MAX_VERSIONS - version ≡ suc (MAX_VERSIONS - (version + 1)) = omega (arith, low) in
    let more : programs_in ws ≡ take (MAX_VERSIONS - (version + 1)) (programs_for c es) = later ws rest (omega (arith, low)) in
    ap (λ p. p ∷ programs_in ws) next.1 ∙ ap (λ ps. arc_value e.program ∷ ps) more ∙ sym (ap (λ k. take k (arc_value e.program ∷ programs_for c es)) n)

follows_programs : (c version : ℕ) (vs : List Version) (log : List Logged) → FollowsVersions c version vs log → version + length vs ≤ MAX_VERSIONS
    → programs_in vs ≡ take (MAX_VERSIONS - version) (programs_for c log)
follows_programs c version vs [] follows few = ap (λ x. programs_in x) follows ∙ sym (take_none (MAX_VERSIONS - version))
follows_programs c version vs (e ∷ es) follows few = elim (cases_Bool (e.told.channel == c))
    as (λ _. programs_in vs ≡ take (MAX_VERSIONS - version) (programs_for c (e ∷ es))) [
      | inl on ↦ (
          let here = subst (λ b. MatchBool b (IsNext version vs e × FollowsVersions c (version + 1) (drop 1 vs) es) (FollowsVersions c version vs es)) on
          follows in
          next_program c version e es (λ ws f low. follows_programs c (version + 1) ws es f low) vs here.0 here.1 few
          ∙ ap (λ ps. take (MAX_VERSIONS - version) ps) (sym (programs_here c e es on))
          )
      | inr off ↦ (
          let there = subst (λ b. MatchBool b (IsNext version vs e × FollowsVersions c (version + 1) (drop 1 vs) es) (FollowsVersions c version vs es)) off
          follows in
          follows_programs c version vs es there few ∙ ap (λ ps. take (MAX_VERSIONS - version) ps) (sym (programs_there c e es off))
          )
    ]

next_answer : (c version : ℕ) (e : Logged) (es : List Logged)
    → ((ws : List Version) → FollowsVersions c (version + 1) ws es → answers_for c es ≡ answers_to (version + 1) ws (given_for c (map logged_change es)))
    → (ws : List Version) → IsNext version ws e → FollowsVersions c (version + 1) (drop 1 ws) es
    → e.told.answer ∷ answers_for c es ≡ answers_to version ws (logged_change e ∷ given_for c (map logged_change es))
next_answer c version e es later [] next rest = ap (λ a. a ∷ answers_for c es) next.0 ∙ ap (λ xs. VersionsFull ∷ xs) (later [] rest)
next_answer c version e es later (w ∷ ws) next rest = ap (λ a. a ∷ answers_for c es) next.0 ∙ ap (λ xs. Installed version w.mark ∷ xs) (later ws rest)

follows_answers : (c version : ℕ) (vs : List Version) (log : List Logged) → FollowsVersions c version vs log
    → answers_for c log ≡ answers_to version vs (given_for c (map logged_change log))
follows_answers c version vs [] follows = refl
follows_answers c version vs (e ∷ es) follows = elim (cases_Bool (e.told.channel == c))
    as (λ _. answers_for c (e ∷ es) ≡ answers_to version vs (given_for c (map logged_change (e ∷ es)))) [
      | inl on ↦ (
          let here = subst (λ b. MatchBool b (IsNext version vs e × FollowsVersions c (version + 1) (drop 1 vs) es) (FollowsVersions c version vs es)) on
          follows in
          ap (λ b. answers_in (if b then logged_answer e ∷ answered_for c (map logged_answer es) else answered_for c (map logged_answer es))) on
          ∙ next_answer c version e es (λ ws f. follows_answers c (version + 1) ws es f) vs here.0 here.1
          ∙ ap (λ b. answers_to version vs (if b then logged_change e ∷ given_for c (map logged_change es) else given_for c (map logged_change es))) (sym on)
          )
      | inr off ↦ (
          let there = subst (λ b. MatchBool b (IsNext version vs e × FollowsVersions c (version + 1) (drop 1 vs) es) (FollowsVersions c version vs es)) off
          follows in
          ap (λ b. answers_in (if b then logged_answer e ∷ answered_for c (map logged_answer es) else answered_for c (map logged_answer es))) off
          ∙ follows_answers c version vs es there
          ∙ ap (λ b. answers_to version vs (if b then logged_change e ∷ given_for c (map logged_change es) else given_for c (map logged_change es))) (sym off)
          )
    ]

is_changed : (c : ℕ) (program : List Insn) (history : List Version) (log : List Logged) → AreAnswered c program history log → length history ≤ MAX_VERSIONS
    → IsChanged c program history (map logged_change log) (map logged_answer log)
is_changed c program [] log answered few = absurd answered
is_changed c program (v ∷ vs) log answered few = record {
  programs_are =
      let more = follows_programs c 1 vs log answered.1 (omega (arith, few)) in
      let n : MAX_VERSIONS ≡ suc (MAX_VERSIONS - 1) = omega (arith, few) in
      ap (λ p. p ∷ programs_in vs) answered.0 ∙ ap (λ ps. program ∷ ps) more ∙ sym (ap (λ k. take k (program ∷ programs_for c log)) n);
  answers_are = follows_answers c 1 vs log answered.1;
}

paired : (log : List Logged) → map (λ (g : Given). g.channel) (map logged_change log) ≡ map (λ (a : Answered). a.channel) (map logged_answer log)
paired [] = refl
paired (e ∷ es) = ap (λ cs. e.told.channel ∷ cs) (paired es)

module _ {S C : Type 0} (left : S → Option Left) (failures : S → ℕ) (ended_as : S → Option SourceEnding) (given : C → List Given) (answered : C
    → List Answered) (ended : C → Bool) where
  all_changed : (pieces : List PieceData) (log : List Logged) (jobs : List (Job S)) (js : List (Joined S)) (rs : List (ChannelReport S))
      → AllZip (JoinedOf left failures ended_as pieces) jobs js → AllZip (TellsOf log) js rs
      → AllZip (λ (j : Job S) (r : ChannelReport S). IsChanged j.spec.channel (arc_value j.program) (history_of r) (map logged_change log)
      (map logged_answer log)) jobs rs
  all_changed pieces log [] [] [] of tells = tt
  all_changed pieces log [] [] (r ∷ rs) of tells = absurd tells
  all_changed pieces log [] (j ∷ js) rs of tells = absurd of
  all_changed pieces log (job ∷ jobs) [] rs of tells = absurd of
  all_changed pieces log (job ∷ jobs) (j ∷ js) [] of tells = absurd tells
  all_changed pieces log (job ∷ jobs) (j ∷ js) (r ∷ rs) of tells =
      let t = tells.0 in
      let o = of.0 in
      let here : AreAnswered job.spec.channel (arc_value job.program) (history_of r) log =
      subst (λ c. AreAnswered c (arc_value job.program) (history_of r) log) (t.channel_is ∙ o.channel_is)
      (subst (λ p. AreAnswered r.channel (arc_value p) (history_of r) log) o.program_is t.answered)
      in
      (is_changed job.spec.channel (arc_value job.program) (history_of r) log here t.few, all_changed pieces log jobs js rs of.1 tells.1)

  pub controlled : (pieces : List PieceData) (jobs : List (Job S)) (js : List (Joined S)) (rs : List (ChannelReport S)) (before : C) (run : Controlled C)
      (channels : List ℕ)
      → AllZip (JoinedOf left failures ended_as pieces) jobs js → AllZip (TellsOf run.log.items) js rs → channels ≡ channels_of_jobs jobs
      → All (IsOfSome channels) run.log.items
      → run.ended ≡ true → EndsControl given answered ended before run → IsControlled given answered ended before run.control jobs rs
  controlled pieces jobs js rs before run channels of tells same others so ends =
      let e = ends so in
      let log = run.log.items in
      record {
        has_ended = e.0;
        changes = map logged_change log;
        answers = map logged_answer log;
        given_is = e.1.given_is;
        told_is = e.1.told_is;
        paired = paired log;
        changed = all_changed pieces log jobs js rs of tells;
        others = each log (subst (λ cs. All (IsOfSome cs) log) same others);
      }
    where
      each : (es : List Logged) → All (IsOfSome (channels_of_jobs jobs)) es
          → All (λ (a : Answered). ¬ Contains (channels_of_jobs jobs) a.channel → a.answer ≡ NoChannel) (map logged_answer es)
      each [] all k d low = absurd (omega (arith, low))
      each (e ∷ es) all zero d low = all 0 e (omega arith)
      each (e ∷ es) all (suc k) d low = each es (λ i x below. all (suc i) x (omega (arith, below))) k d (omega (arith, low))
