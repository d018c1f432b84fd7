-- The versions met beside histories: a frame more.
use Rattle.std.proofs.Common.{◌≡◌, ℕ, ◌+◌, ◌<◌, ◌≤◌, ◌==◌, true, false, List, [], ◌∷◌, ◌++◌, length}
use Rattle.std.proofs.Common.{Option, None, Some, refl, sym, ap, subst, ◌∙◌, arith, inl, inr}
use Rattle.std.specs.Prelude.{slice_get, if◌then◌else◌, ◌-◌}
use Rattle.std.proofs.lemmas.Bool.{cases_Bool, cases_lt, eqb-true}
use Rattle.std.proofs.lemmas.List.{length-append}
use Rattle.std.proofs.lemmas.Option.{slice_get-map}
use Rattle.std.specs.Option.{option_map}
use Rattle.bpf_insn.specs.declared.insn.Insn.{Insn}
use Rattle.bpf_machine.specs.Machine.{Runs}
use Rattle.eth_frame.specs.Frame.{FrameData, view}
use Rattle.rec_channel.specs.History.{Version, InForce}
use Rattle.rec_channel.specs.Slots.{programs_in}
use Rattle.rec_lane.specs.Offered.{OfferedFrame, Met, MetFrom}
use Rattle.rec_lane.specs.Lanes.{VersionProgram, is_current, running}
use Rattle.rec_run.specs.VersionsMet.{VersionMet, IsServed, AreServed}
use Rattle.rec_run.specs.VersionsMet.{is_last_met, was_met, met_after}
use Rattle.rec_run.specs.WorkerRuns.{IsLast, AreKnown}

-- ---- served up to a number, served up to each below

less_one : (history : List Version) (until less : ℕ) (m : VersionMet) → less ≤ until → IsServed history until m → IsServed history less m
less_one history until less m le s = record {
  entry = s.entry;
  stands = s.stands;
  program_is = s.program_is;
  begun = s.begun;
  ends = λ later v at after. let e : until ≤ v.mark = s.ends later v at after in omega (arith, e, le);
}

pub served_less : (history : List Version) (until less : ℕ) (met : List VersionMet) → less ≤ until → AreServed history until met → AreServed history less met
served_less history until less [] le s = tt
served_less history until less (m ∷ []) le s = (less_one history until less m le s.0, tt)
served_less history until less (m ∷ n ∷ ms) le s = (s.0, served_less history until less (n ∷ ms) le s.1)

-- the last one, and those before it
pub served_last : (history : List Version) (until : ℕ) (met : List VersionMet) (m : VersionMet) → AreServed history until (met ++ m ∷ [])
    → AreServed history m.first met × IsServed history until m
served_last history until [] m s = (tt, s.0)
served_last history until (x ∷ []) m s = ((s.0, tt), s.1.0)
served_last history until (x ∷ y ∷ ys) m s =
    let rest = served_last history until (y ∷ ys) m s.1 in
    ((s.0, rest.0), rest.1)

-- ---- in force

pub served_in_force : (history : List Version) (until number : ℕ) (m : VersionMet) → IsServed history until m → m.first ≤ number → number < until
    → InForce history number m.version
served_in_force history until number m s begun before = record {
  entry = s.entry;
  stands = s.stands;
  begun = let b : s.entry.mark ≤ m.first = s.begun in omega (arith, b, begun);
  last = λ other v at le. elim (cases_lt m.version other) as (λ _. other ≤ m.version) [
    | inl later ↦ absurd (let e : until ≤ v.mark = s.ends other v at later in omega (arith, e, le, before))
    | inr not_later ↦ not_later
  ];
}

pub served_program : (history : List Version) (until : ℕ) (m : VersionMet) → IsServed history until m
    → slice_get (programs_in history) m.version ≡ Some m.program
served_program history until m s =
    slice_get-map (λ (v : Version). v.program) history m.version
    ∙ ap (λ (o : Option Version). option_map (λ (v : Version). v.program) o) s.stands
    ∙ ap (λ p. Some p) s.program_is

-- ---- a frame more

met_push : (history : List Version) (number : ℕ) (offered : List OfferedFrame) (f : OfferedFrame) → MetFrom history number offered
    → f.number ≡ number + length offered → Met history f → MetFrom history number (offered ++ f ∷ [])
met_push history number [] f all at one = (let e : number + 0 ≡ number = omega arith in at ∙ e, one, tt)
met_push history number (x ∷ xs) f all at one =
    (all.0, all.1, met_push history (number + 1) xs f all.2 (let e : number + length (x ∷ xs) ≡ number + 1 + length xs = omega arith in at ∙ e) one)

get_push : {X : Type 0} (xs : List X) (x : X) → slice_get (xs ++ x ∷ []) (length xs) ≡ Some x
get_push [] x = refl
get_push (y ∷ ys) x = get_push ys x

-- whether the last version met is that of the lane
pub last_is_current : (current : Option VersionProgram) (number : ℕ) (met : List VersionMet) (version : ℕ) → IsLast current number met
    → is_last_met met version ≡ is_current current version
last_is_current None number met version last = rw last refl
last_is_current (Some c) number met version last =
    let m = last.1 in
    let at : slice_get (last.0 ++ m ∷ []) (length (last.0 ++ m ∷ []) - 1) ≡ Some m =
    let n : length (last.0 ++ m ∷ []) - 1 ≡ length last.0 = (let l : length (last.0 ++ m ∷ []) ≡ length last.0 + 1 = length-append last.0 (m ∷ []) in
    omega (arith, l)) in
    ap (λ i. slice_get (last.0 ++ m ∷ []) i) n ∙ get_push last.0 m
    in
    ap (λ ms. is_last_met ms version) last.2 ∙ ap (λ o. was_met o version) at ∙ ap (λ v. v == version) last.3

-- the frame meets what it says in each history that serves the versions met after it
one_more : (current : Option VersionProgram) (met : List VersionMet) (offered : List OfferedFrame) (frame : FrameData) (version value number : ℕ)
    (program : List Insn)
    → number ≡ length offered → IsLast current number met → ((steps : ℕ) × Runs (running current version program) (view frame) steps value)
    → (history : List Version) → AreServed history (number + 1) (met_after met version number program)
    → AreServed history number met × Met history (record {
      number = number;
      frame = frame;
      version = version;
      program = running current version program;
      value = value;
      times = [];
    })
one_more None met offered frame version value number program count last ran history served =
    let served_one : AreServed history (number + 1) (met ++ record { version = version; first = number; program = program } ∷ []) =
    subst (λ b. AreServed history (number + 1) (if b then met else met ++ record { version = version; first = number; program = program } ∷ []))
    (last_is_current None number met version last) served
    in
    let two = served_last history (number + 1) met (record { version = version; first = number; program = program }) served_one in (
      two.0,
      record {
        in_force = served_in_force history (number + 1) number (record { version = version; first = number; program = program }) two.1 (omega arith)
            (omega arith);
        program = served_program history (number + 1) (record { version = version; first = number; program = program }) two.1;
        ran = ran;
      },
    )
one_more (Some c) met offered frame version value number program count last ran history served = elim (cases_Bool (c.version == version)) [
  | inl same ↦ (
      let m = last.1 in
      let is : is_last_met met version ≡ true = last_is_current (Some c) number met version last ∙ same in
      let all : AreServed history (number + 1) met =
      subst (λ b. AreServed history (number + 1) (if b then met else met ++ record { version = version; first = number; program = program } ∷ [])) is served
      in
      let two = served_last history (number + 1) last.0 m (subst (λ ms. AreServed history (number + 1) ms) last.2 all) in
      let version_is : m.version ≡ version = last.3 ∙ eqb-true c.version version same in
      let program_is : m.program ≡ running (Some c) version program = last.4 ∙ sym (ap (λ b. if b then c.program else program) same) in (
        served_less history (number + 1) number met (omega arith) all,
        record {
          in_force = subst (λ v. InForce history number v) version_is (served_in_force history (number + 1) number m two.1 last.5 (omega arith));
          program = subst (λ v. slice_get (programs_in history) v ≡ Some (running (Some c) version program)) version_is
              (served_program history (number + 1) m two.1 ∙ ap (λ p. Some p) program_is);
          ran = ran;
        },
      )
      )
  | inr other ↦ (
      let e : VersionMet = record { version = version; first = number; program = program } in
      let is : is_last_met met version ≡ false = last_is_current (Some c) number met version last ∙ other in
      let all : AreServed history (number + 1) (met ++ e ∷ []) =
      subst (λ b. AreServed history (number + 1) (if b then met else met ++ e ∷ [])) is served
      in
      let two = served_last history (number + 1) met e all in
      let program_is : program ≡ running (Some c) version program = sym (ap (λ b. if b then c.program else program) other) in (
        two.0,
        record {
          in_force = served_in_force history (number + 1) number e two.1 (omega arith) (omega arith);
          program = served_program history (number + 1) e two.1 ∙ ap (λ p. Some p) program_is;
          ran = ran;
        },
      )
      )
]

pub known_more : (current : Option VersionProgram) (met : List VersionMet) (offered : List OfferedFrame) (frame : FrameData) (version value number : ℕ)
    (program : List Insn)
    → number ≡ length offered → IsLast current number met → ((steps : ℕ) × Runs (running current version program) (view frame) steps value)
    → AreKnown met offered
    → AreKnown (met_after met version number program) (offered ++ record {
      number = number;
      frame = frame;
      version = version;
      program = running current version program;
      value = value;
      times = [];
    } ∷ [])
known_more current met offered frame version value number program count last ran known = λ history served.
    let f : OfferedFrame = record { number = number; frame = frame; version = version; program = running current version program; value = value; times = [] } in
    let n : length (offered ++ f ∷ []) ≡ number + 1 = (let l : length (offered ++ f ∷ []) ≡ length offered + 1 = length-append offered (f ∷ []) in
    omega (arith, l, count)) in
    let one = one_more current met offered frame version value number program count last ran history
    (subst (λ k. AreServed history k (met_after met version number program)) n served) in
    met_push history 0 offered f (known history (subst (λ k. AreServed history k met) count one.0))
    (let z : 0 + length offered ≡ length offered = omega arith in count ∙ sym z) one.1

-- the version met last after the frame
pub last_more : (current : Option VersionProgram) (number : ℕ) (met : List VersionMet) (version : ℕ) (program : List Insn) → IsLast current number met
    → IsLast (Some (record { version = version; program = running current version program })) (number + 1) (met_after met version number program)
last_more None number met version program last =
    let e : VersionMet = record { version = version; first = number; program = program } in
    let is : is_last_met met version ≡ false = last_is_current None number met version last in
    (met, e, ap (λ b. if b then met else met ++ e ∷ []) is, refl, refl, omega arith)
last_more (Some c) number met version program last = elim (cases_Bool (c.version == version)) [
  | inl same ↦ (
      let is : is_last_met met version ≡ true = last_is_current (Some c) number met version last ∙ same in
      let program_is : last.1.program ≡ running (Some c) version program = last.4 ∙ sym (ap (λ b. if b then c.program else program) same) in
      let le : last.1.first ≤ number = last.5 in (
        last.0,
        last.1,
        ap (λ b. if b then met else met ++ record { version = version; first = number; program = program } ∷ []) is ∙ last.2,
        last.3 ∙ eqb-true c.version version same,
        program_is,
        omega (arith, le),
      )
      )
  | inr other ↦ (
      let e : VersionMet = record { version = version; first = number; program = program } in
      let is : is_last_met met version ≡ false = last_is_current (Some c) number met version last ∙ other in
      let program_is : program ≡ running (Some c) version program = sym (ap (λ b. if b then c.program else program) other) in
      (met, e, ap (λ b. if b then met else met ++ e ∷ []) is, refl, program_is, omega arith)
      )
]
