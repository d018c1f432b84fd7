-- What frames meet in a history: it is one list, and later versions leave it.
-- idea: frames are numbered, so each fact goes by recursion over the list from a number on; at one number one version
-- is in force and its program has one value, and versions that begin later are in force at none of the numbers before.
use Rattle.std.proofs.Common.{ℕ, suc, zero, ◌+◌, ◌≡◌, ◌≤◌, ◌<◌, inl, inr, List, [], ◌∷◌, ◌++◌, length}
use Rattle.std.proofs.Common.{drop, Option, Some, refl, sym, ◌∙◌, ap, subst, arith, All}
use Rattle.std.specs.List.{AllByRecursion}
use Rattle.std.specs.Prelude.{if◌then◌else◌, ◌==◌, slice_get, option_map, unwrap_or}
use Rattle.std.proofs.lemmas.Bool.{cases_Bool, eqb-true}
use Rattle.std.proofs.lemmas.List.{map-append, length-map}
use Rattle.std.proofs.lemmas.Option.{slice_get-map, slice_get_within, get_or_from_slice_get}
use Rattle.std.proofs.lemmas.List.Elements.{All-get_or}
use Rattle.bpf_insn.specs.declared.insn.Insn.{Insn}
use Rattle.bpf_verify.specs.Validity.{Valid}
use Rattle.bpf_machine.specs.Machine.{Runs}
use Rattle.eth_frame.specs.Frame.{FrameData, view}
use Rattle.rec_channel.specs.History.{Version, IsHistory, InForce, version_at}
use Rattle.rec_channel.specs.Slots.{programs_in}
use Rattle.rec_lane.specs.Offered.{OfferedFrame, Met, MetFrom, AllMet, frames_of, times_of, accepted, AreAccepted}
use Rattle.rec_lane.specs.Parts.{last_from}
use Rattle.rec_lane.specs.Pieces.{PieceData, has_group_version, last_group, pieces_so_far, channel_pieces}
use Rattle.rec_lane.specs.Lanes.{LaneState, HasMet, VersionProgram, version_of, running, offered_now, MarkedFrom, TakesFrame, EndsLane}
use Rattle.rec_lane.proofs.Packing.{accepted_more, dropped, taken}

-- ---- one list

same_offered : (f g : OfferedFrame) → f.number ≡ g.number → f.frame ≡ g.frame → f.version ≡ g.version → f.program ≡ g.program → f.value ≡ g.value
    → f.times ≡ g.times → f ≡ g
same_offered f g number frame version program value times =
    ap (λ n. record { number = n; frame = f.frame; version = f.version; program = f.program; value = f.value; times = f.times }) number
    ∙ (ap (λ x. record { number = g.number; frame = x; version = f.version; program = f.program; value = f.value; times = f.times }) frame
    ∙ (ap (λ v. record { number = g.number; frame = g.frame; version = v; program = f.program; value = f.value; times = f.times }) version
    ∙ (ap (λ p. record { number = g.number; frame = g.frame; version = g.version; program = p; value = f.value; times = f.times }) program
    ∙ (ap (λ v. record { number = g.number; frame = g.frame; version = g.version; program = g.program; value = v; times = f.times }) value
    ∙ ap (λ t. record { number = g.number; frame = g.frame; version = g.version; program = g.program; value = g.value; times = t }) times))))

pub some_is : {X : Type 0} (x y : X) → Some x ≡ Some y → x ≡ y
some_is x y e = ap (λ o. unwrap_or o x) e

-- at most one version is in force at a number, and a program returns one value at most
abbrev pub OneInForce : Type 0
OneInForce = (history : List Version) (number version other : ℕ) → InForce history number version → InForce history number other → version ≡ other

abbrev pub OneRun : Type 0
OneRun = (program : List Insn) (view : List ℕ) (steps value count other : ℕ) → Runs program view steps value → Runs program view count other
    → (steps ≡ count) × (value ≡ other)

-- what two frames of one number have in common
record Alike (f g : OfferedFrame) : Type 0 where
  version : f.version ≡ g.version
  program : f.program ≡ g.program
  value : f.value ≡ g.value

one_met : OneInForce → OneRun → (history : List Version) (f g : OfferedFrame) → f.number ≡ g.number → f.frame ≡ g.frame → Met history f → Met history g
    → Alike f g
one_met one run history f g number frame m n =
    let version : f.version ≡ g.version = one history f.number f.version g.version m.in_force
    (subst (λ k. InForce history k g.version) (sym number) n.in_force) in
    let program : f.program ≡ g.program = some_is f.program g.program (sym m.program ∙ (ap (slice_get (programs_in history)) version ∙ n.program)) in
    let ran : Runs f.program (view f.frame) n.ran.0 g.value = subst (λ p. Runs p (view f.frame) n.ran.0 g.value) (sym program)
    (subst (λ x. Runs g.program (view x) n.ran.0 g.value) (sym frame) n.ran.1) in
    record { version = version; program = program; value = (run f.program (view f.frame) m.ran.0 f.value n.ran.0 g.value m.ran.1 ran).1 }

pub heads : {X : Type 0} (x y : X) (xs ys : List X) → x ∷ xs ≡ y ∷ ys → x ≡ y
heads x y xs ys e = some_is x y (ap (λ zs. slice_get zs 0) e)

pub tails : {X : Type 0} (x y : X) (xs ys : List X) → x ∷ xs ≡ y ∷ ys → xs ≡ ys
tails x y xs ys e = ap (λ zs. drop 1 zs) e

one_from : OneInForce → OneRun → (history : List Version) (number : ℕ) (fs gs : List OfferedFrame) → MetFrom history number fs → MetFrom history number gs
    → frames_of fs ≡ frames_of gs → times_of fs ≡ times_of gs → fs ≡ gs
one_from one run history number [] [] m n same times = refl
one_from one run history number [] (g ∷ gs) m n same times = absurd (let e = ap (λ (xs : List FrameData). length xs) same in omega (arith, e))
one_from one run history number (f ∷ fs) [] m n same times = absurd (let e = ap (λ (xs : List FrameData). length xs) same in omega (arith, e))
one_from one run history number (f ∷ fs) (g ∷ gs) m n same times =
    let frame = heads f.frame g.frame (frames_of fs) (frames_of gs) same in
    let is = one_met one run history f g (m.0 ∙ sym n.0) frame m.1 n.1 in
    ap (λ x. x ∷ fs) (same_offered f g (m.0 ∙ sym n.0) frame is.version is.program is.value (heads f.times g.times (times_of fs) (times_of gs) times))
    ∙ ap (λ xs. g ∷ xs) (one_from one run history (number + 1) fs gs m.2 n.2 (tails f.frame g.frame (frames_of fs) (frames_of gs) same)
    (tails f.times g.times (times_of fs) (times_of gs) times))

pub one_list : OneInForce → OneRun → (history : List Version) (offered other : List OfferedFrame) → AllMet history offered → AllMet history other
    → frames_of offered ≡ frames_of other → times_of offered ≡ times_of other → offered ≡ other
one_list one run history offered other m n same times = one_from one run history 0 offered other m n same times

-- whatever time marks came, the accepted frames are the same
accepted_first : (f g : OfferedFrame) → f.frame ≡ g.frame → f.value ≡ g.value → accepted (f ∷ []) ≡ accepted (g ∷ [])
accepted_first f g frame value = elim (cases_Bool (f.value == 0)) as (λ _. accepted (f ∷ []) ≡ accepted (g ∷ [])) [
  | inl zero_value ↦ dropped f zero_value ∙ sym (dropped g (ap (λ v. v == 0) (sym value) ∙ zero_value))
  | inr some_value ↦ taken f some_value ∙ (ap (λ x. x ∷ []) frame ∙ sym (taken g (ap (λ v. v == 0) (sym value) ∙ some_value)))
]

accepted_from : OneInForce → OneRun → (history : List Version) (number : ℕ) (fs gs : List OfferedFrame) → MetFrom history number fs
    → MetFrom history number gs → frames_of fs ≡ frames_of gs → accepted fs ≡ accepted gs
accepted_from one run history number [] [] m n same = refl
accepted_from one run history number [] (g ∷ gs) m n same = absurd (let e = ap (λ (xs : List FrameData). length xs) same in omega (arith, e))
accepted_from one run history number (f ∷ fs) [] m n same = absurd (let e = ap (λ (xs : List FrameData). length xs) same in omega (arith, e))
accepted_from one run history number (f ∷ fs) (g ∷ gs) m n same =
    let frame = heads f.frame g.frame (frames_of fs) (frames_of gs) same in
    let is = one_met one run history f g (m.0 ∙ sym n.0) frame m.1 n.1 in
    accepted_more (f ∷ []) fs
    ∙ (ap (λ xs. xs ++ accepted fs) (accepted_first f g frame is.value)
    ∙ (ap (λ xs. accepted (g ∷ []) ++ xs) (accepted_from one run history (number + 1) fs gs m.2 n.2
    (tails f.frame g.frame (frames_of fs) (frames_of gs) same)) ∙ sym (accepted_more (g ∷ []) gs)))

-- ---- what stands at an index

all_at : {X : Type 0} (P : X → Type 0) (xs : List X) (k : ℕ) (x : X) → slice_get xs k ≡ Some x → All P xs → P x
all_at P xs k x is all = subst P (get_or_from_slice_get xs k x x is) (All-get_or P xs k x (slice_get_within xs k x is) all)

get_more : {X : Type 0} (xs ys : List X) (k : ℕ) (x : X) → slice_get xs k ≡ Some x → slice_get (xs ++ ys) k ≡ Some x
get_more [] ys k x is = absurd (let e = slice_get_within [] k x is in omega (arith, e))
get_more (z ∷ zs) ys zero x is = is
get_more (z ∷ zs) ys (suc k) x is = get_more zs ys k x is

program_more : (history more : List Version) (version : ℕ) (program : List Insn) → slice_get (programs_in history) version ≡ Some program
    → slice_get (programs_in (history ++ more)) version ≡ Some program
program_more history more version program is = ap (λ ps. slice_get ps version) (map-append (λ (v : Version). v.program) history more)
    ∙ get_more (programs_in history) (programs_in more) version program is

program_there : (history : List Version) (number version : ℕ) → (force : InForce history number version)
    → slice_get (programs_in history) version ≡ Some force.entry.program
program_there history number version force = slice_get-map (λ (v : Version). v.program) history version
    ∙ ap (option_map (λ (v : Version). v.program)) force.stands

-- ---- each list of frames has one

abbrev pub SomeInForce : Type 0
SomeInForce = (offered : ℕ) (history : List Version) (number : ℕ) → IsHistory offered history → InForce history number (version_at history number)

abbrev pub SomeRun : Type 0
SomeRun = (program : List Insn) (view : List ℕ) → Valid program → (steps : ℕ) × (value : ℕ) × Runs program view steps value × (steps ≤ length program)

some_from : SomeInForce → SomeRun → (count : ℕ) (history : List Version) → IsHistory count history → (number : ℕ) (frames : List FrameData)
    (times : List (List ℕ)) → length times ≡ length frames
    → (offered : List OfferedFrame) × MetFrom history number offered × (frames_of offered ≡ frames) × (times_of offered ≡ times)
some_from some run count history h number [] [] long = ([], tt, refl, refl)
some_from some run count history h number [] (t ∷ ts) long = absurd (omega (arith, long))
some_from some run count history h number (f ∷ fs) [] long = absurd (omega (arith, long))
some_from some run count history h number (f ∷ fs) (t ∷ ts) long =
    let force = some count history number h in
    let version = version_at history number in
    let valid : Valid force.entry.program = all_at (λ (v : Version). Valid v.program) history version force.entry force.stands h.valid in
    let ran = run force.entry.program (view f) valid in
    let rest = some_from some run count history h (number + 1) fs ts (omega (arith, long)) in
    let x : OfferedFrame = record { number = number; frame = f; version = version; program = force.entry.program; value = ran.1; times = t } in (
      x ∷ rest.0,
      (
        refl,
        record {
          in_force = force;
          program = program_there history number version force;
          ran = (ran.0, ran.2);
        },
        rest.1,
      ),
      ap (λ xs. f ∷ xs) rest.2,
      ap (λ xs. t ∷ xs) rest.3,
    )

pub some_list : SomeInForce → SomeRun → (count : ℕ) (history : List Version) (frames : List FrameData) (times : List (List ℕ)) → IsHistory count history
    → length times ≡ length frames
    → (offered : List OfferedFrame) × AllMet history offered × (frames_of offered ≡ frames) × (times_of offered ≡ times)
some_list some run count history frames times h long = some_from some run count history h 0 frames times long

-- ---- later versions

abbrev pub LeavesPast : Type 0
LeavesPast = (history more : List Version) (number version : ℕ) → All (λ (v : Version). number < v.mark) more → InForce history number version
    → InForce (history ++ more) number version

abbrev pub AddsNoPast : Type 0
AddsNoPast = (history more : List Version) (number version : ℕ) → All (λ (v : Version). number < v.mark) more → InForce (history ++ more) number version
    → InForce history number version

late_after : (from number : ℕ) (more : List Version) → number < from → MarkedFrom from more → All (λ (v : Version). number < v.mark) more
late_after from number more before marked = λ k d within. let e = marked k d within in omega (arith, e, before)

met_later : LeavesPast → (history more : List Version) (f : OfferedFrame) → All (λ (v : Version). f.number < v.mark) more → Met history f
    → Met (history ++ more) f
met_later leaves history more f late m = record {
  in_force = leaves history more f.number f.version late m.in_force;
  program = program_more history more f.version f.program m.program;
  ran = m.ran;
}

met_before : AddsNoPast → (history more : List Version) (f : OfferedFrame) → All (λ (v : Version). f.number < v.mark) more → Met (history ++ more) f
    → Met history f
met_before adds history more f late m =
    let force = adds history more f.number f.version late m.in_force in
    let there = program_there history f.number f.version force in
    record {
      in_force = force;
      program = there ∙ sym (program_more history more f.version force.entry.program there) ∙ m.program;
      ran = m.ran;
    }

later_from : LeavesPast → (history more : List Version) (number : ℕ) (fs : List OfferedFrame) → MarkedFrom (number + length fs) more
    → MetFrom history number fs → MetFrom (history ++ more) number fs
later_from leaves history more number [] marked m = tt
later_from leaves history more number (f ∷ fs) marked m = (
  m.0,
  met_later leaves history more f (late_after (number + length (f ∷ fs)) f.number more (let e = m.0 in omega (arith, e)) marked) m.1,
  later_from leaves history more (number + 1) fs (subst (λ n. MarkedFrom n more) (omega arith) marked) m.2,
)

before_from : AddsNoPast → (history more : List Version) (number : ℕ) (fs : List OfferedFrame) → MarkedFrom (number + length fs) more
    → MetFrom (history ++ more) number fs → MetFrom history number fs
before_from adds history more number [] marked m = tt
before_from adds history more number (f ∷ fs) marked m = (
  m.0,
  met_before adds history more f (late_after (number + length (f ∷ fs)) f.number more (let e = m.0 in omega (arith, e)) marked) m.1,
  before_from adds history more (number + 1) fs (subst (λ n. MarkedFrom n more) (omega arith) marked) m.2,
)

pub later_list : LeavesPast → (history more : List Version) (offered : List OfferedFrame) → MarkedFrom (length offered) more → AllMet history offered
    → AllMet (history ++ more) offered
later_list leaves history more offered marked m = later_from leaves history more 0 offered (subst (λ n. MarkedFrom n more) (omega arith) marked) m

pub before_list : AddsNoPast → (history more : List Version) (offered : List OfferedFrame) → MarkedFrom (length offered) more
    → AllMet (history ++ more) offered → AllMet history offered
before_list adds history more offered marked m = before_from adds history more 0 offered (subst (λ n. MarkedFrom n more) (omega arith) marked) m

-- ---- a frame more

from_append : (history : List Version) (number : ℕ) (fs gs : List OfferedFrame) → MetFrom history number fs → MetFrom history (number + length fs) gs
    → MetFrom history number (fs ++ gs)
from_append history number [] gs m n = subst (λ k. MetFrom history k gs) (omega arith) n
from_append history number (f ∷ fs) gs m n = (m.0, m.1, from_append history (number + 1) fs gs m.2 (subst (λ k. MetFrom history k gs) (omega arith) n))

pub from_front : (history : List Version) (number : ℕ) (fs gs : List OfferedFrame) → MetFrom history number (fs ++ gs) → MetFrom history number fs
from_front history number [] gs m = tt
from_front history number (f ∷ fs) gs m = (m.0, m.1, from_front history (number + 1) fs gs m.2)

-- each frame met what it says
abbrev Each : List Version → List OfferedFrame → Type 0
Each history fs = AllByRecursion (Met history) fs

each_met : (history : List Version) (number : ℕ) (fs : List OfferedFrame) → MetFrom history number fs → Each history fs
each_met history number [] m = tt
each_met history number (f ∷ fs) m = (m.1, each_met history (number + 1) fs m.2)

each_more : (history : List Version) (fs : List OfferedFrame) (x : OfferedFrame) → Each history fs → Met history x → Each history (fs ++ x ∷ [])
each_more history [] x m n = (n, tt)
each_more history (f ∷ fs) x m n = (m.0, each_more history fs x m.1 n)

-- and so did those of the last group
each_last : (history : List Version) (group fs : List OfferedFrame) → Each history group → Each history fs → Each history (last_from has_group_version group fs)
each_last history group [] m n = m
each_last history group (f ∷ fs) m n = elim (cases_Bool (has_group_version group f)) as (λ _. Each history (last_from has_group_version group (f ∷ fs))) [
  | inl on ↦ subst (λ b. Each history (if b then last_from has_group_version (group ++ f ∷ []) fs else last_from has_group_version (f ∷ []) fs)) (sym on)
      (each_last history (group ++ f ∷ []) fs (each_more history group f m n.0) n.1)
  | inr off ↦ subst (λ b. Each history (if b then last_from has_group_version (group ++ f ∷ []) fs else last_from has_group_version (f ∷ []) fs)) (sym off)
      (each_last history (f ∷ []) fs (n.0, tt) n.1)
]

-- within a version the program in force is the one that runs
version_program : (history : List Version) (group : List OfferedFrame) (current : Option VersionProgram) (version : ℕ) (program : List Insn)
    → current ≡ version_of group → Each history group → slice_get (programs_in history) version ≡ Some program
    → slice_get (programs_in history) version ≡ Some (running current version program)
version_program history [] current version program met each is = is ∙ ap (λ c. Some (running c version program)) (sym met)
version_program history (g ∷ gs) current version program met each is =
    elim (cases_Bool (g.version == version)) as (λ _. slice_get (programs_in history) version ≡ Some (running current version program)) [
      | inl same ↦
          ap (λ v. slice_get (programs_in history) v) (sym (eqb-true g.version version same)) ∙ (each.0.program
          ∙ (sym (ap (λ b. Some (if b then g.program else program)) same) ∙ ap (λ c. Some (running c version program)) (sym met)))
      | inr other ↦ is ∙ (sym (ap (λ b. Some (if b then g.program else program)) other) ∙ ap (λ c. Some (running c version program)) (sym met))
    ]

pub takes_frame : OneInForce → OneRun → LeavesPast
    → (old new : LaneState) (f : FrameData) (version : ℕ) (program : List Insn) (value : ℕ) (given : List PieceData)
    → ((steps : ℕ) × Runs (running old.current version program) (view f) steps value)
    → ((before : List OfferedFrame) → HasMet old before → HasMet new (before ++ offered_now old version program f value ∷ []))
    → ((before : List OfferedFrame) → HasMet old before → pieces_so_far old.settings (before ++ offered_now old version program f value ∷ [])
    ≡ pieces_so_far old.settings before ++ given)
    → TakesFrame old new f version program given
takes_frame one run leaves old new f version program value given ran met pieces frames times history more before stands marked drawn so_far =
    let offered = stands.0 in
    let x : OfferedFrame = offered_now old version program f value in
    let count : length frames ≡ length offered = ap (λ (fs : List FrameData). length fs) (sym stands.2) ∙ length-map offered (λ (o : OfferedFrame). o.frame) in
    let later : AllMet (history ++ more) offered = later_list leaves history more offered (subst (λ n. MarkedFrom n more) count marked) stands.1 in
    let number : old.offered ≡ length offered = stands.3.offered_is in
    let last_met : Met (history ++ more) x = record {
      in_force = subst (λ n. InForce (history ++ more) n version) (count ∙ sym number) drawn.in_force;
      program = version_program (history ++ more) (last_group offered) old.current version program stands.3.current_is
          (each_last (history ++ more) [] offered tt (each_met (history ++ more) 0 offered later)) drawn.program_is;
      ran = ran;
    } in
    let all : AllMet (history ++ more) (offered ++ x ∷ []) = from_append (history ++ more) 0 offered (x ∷ []) later (omega (arith, number), last_met, tt) in
    let framed : frames_of (offered ++ x ∷ []) ≡ frames ++ f ∷ [] =
    map-append (λ (o : OfferedFrame). o.frame) offered (x ∷ []) ∙ ap (λ fs. fs ++ f ∷ []) stands.2 in
    let timed : times_of (offered ++ x ∷ []) ≡ times ++ [] ∷ [] =
    map-append (λ (o : OfferedFrame). o.times) offered (x ∷ []) ∙ ap (λ ts. ts ++ [] ∷ []) stands.4 in
    let same : so_far.0 ≡ offered = one_list one run history so_far.0 offered so_far.1 stands.1 (so_far.2 ∙ sym stands.2) (so_far.4 ∙ sym stands.4) in (
      (offered ++ x ∷ [], all, framed, met offered stands.3, timed),
      (
        offered ++ x ∷ [],
        all,
        framed,
        pieces offered stands.3 ∙ ap (λ ps. ps ++ given) (ap (λ o. pieces_so_far old.settings o) (sym same) ∙ so_far.3),
        timed,
      ),
    )

pub ends : OneInForce → OneRun → (lane : LaneState) (given : List PieceData)
    → ((offered : List OfferedFrame) → HasMet lane offered → channel_pieces lane.settings offered ≡ pieces_so_far lane.settings offered ++ given)
    → EndsLane lane given
ends one run lane given pieces frames times history before stands so_far =
    let offered = stands.0 in
    let same : so_far.0 ≡ offered = one_list one run history so_far.0 offered so_far.1 stands.1 (so_far.2 ∙ sym stands.2) (so_far.4 ∙ sym stands.4) in (
      offered,
      stands.1,
      stands.2,
      pieces offered stands.3 ∙ ap (λ ps. ps ++ given) (ap (λ o. pieces_so_far lane.settings o) (sym same) ∙ so_far.3),
      stands.4,
    )

pub accepted_once : OneInForce → OneRun → (history : List Version) (frames kept other : List FrameData) → AreAccepted history frames kept
    → AreAccepted history frames other → kept ≡ other
accepted_once one run history frames kept other a b = sym a.3 ∙ (accepted_from one run history 0 a.0 b.0 a.1 b.1 (a.2 ∙ sym b.2) ∙ b.3)
