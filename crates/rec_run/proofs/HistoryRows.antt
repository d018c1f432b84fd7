-- Rows of programs and marks as a history.
use Rattle.std.proofs.Common.{◌≡◌, false, ℕ, zero, suc, ◌+◌, ◌<◌, ◌≤◌, List, [], ◌∷◌, length, Option}
use Rattle.std.proofs.Common.{None, Some, get_or, refl, sym, ap, subst, ◌∙◌, arith, inl, inr}
use Rattle.std.specs.Prelude.{slice_get, unwrap_or, MatchOption, is_some}
use Rattle.std.specs.Option.{option_map}
use Rattle.std.specs.Arc.{arc_value}
use Rattle.std.specs.declared.sync.Arc.{Arc}
use Rattle.std.specs.declared.alloc.Global.{Global}
use Rattle.std.proofs.lemmas.Bool.{both_ways, cases_eq}
use Rattle.std.proofs.lemmas.List.{length-map}
use Rattle.std.proofs.lemmas.Option.{slice_get_within, get_or_from_slice_get, slice_get-map, slice_get_read}
use Rattle.bpf_insn.specs.declared.insn.Insn.{Insn}
use Rattle.rec_channel.specs.History.{Version, IsHistory}
use Rattle.rec_channel.specs.Slots.{versions_of}
use Rattle.rec_run.specs.Reports.{programs_at, history_in}
use Rattle.rec_run.specs.VersionsMet.{VersionMet, IsServed, AreServed, first_met}
use Rattle.rec_run.specs.WorkerRuns.{met_data, versions_met}
use Rattle.rec_run.specs.declared.worker.versions.MetVersion.{MetVersion}

abbrev entry : List Insn → ℕ → Version
entry program mark = record { program = program; mark = mark }

both_options : {X : Type 0} (x : X) → None ≡ Some x → ⊥
both_options x is = absurd (both_ways false refl (ap (λ o. is_some o) is))

row : (programs : List (List Insn)) (marks : List ℕ) (i : ℕ) (p : List Insn) (m : ℕ) → slice_get programs i ≡ Some p → slice_get marks i ≡ Some m
    → slice_get (versions_of programs marks) i ≡ Some (entry p m)
row [] marks i p m is_p is_m = absurd (both_options p is_p)
row (q ∷ qs) [] i p m is_p is_m = absurd (both_options m is_m)
row (q ∷ qs) (n ∷ ns) zero p m is_p is_m = ap (λ (o : Option (List Insn)). Some (entry (unwrap_or o q) n)) is_p
    ∙ ap (λ (o : Option ℕ). Some (entry p (unwrap_or o n))) is_m
row (q ∷ qs) (n ∷ ns) (suc i) p m is_p is_m = row qs ns i p m is_p is_m

rows_length : (programs : List (List Insn)) (marks : List ℕ) → length programs ≡ length marks → length (versions_of programs marks) ≡ length marks
rows_length [] [] same = refl
rows_length [] (n ∷ ns) same = absurd (omega (arith, same))
rows_length (q ∷ qs) [] same = absurd (omega (arith, same))
rows_length (q ∷ qs) (n ∷ ns) same = let r = rows_length qs ns (omega (arith, same)) in omega (arith, r)

-- marks never fall
rises : (offered : ℕ) (history : List Version) (i j : ℕ) (v w : Version) → IsHistory offered history → i ≤ j → slice_get history i ≡ Some v
    → slice_get history j ≡ Some w → v.mark ≤ w.mark
rises offered history i j v w h before is_v is_w = elim (cases_eq i j) as (λ _. v.mark ≤ w.mark) [
  | inl same ↦ (
      let is : Some v ≡ Some w = sym is_v ∙ ap (λ k. slice_get history k) same ∙ is_w in
      let mark_is : v.mark ≡ w.mark = ap (λ (o : Option Version). (unwrap_or o v).mark) is in
      omega (arith, mark_is)
      )
  | inr other ↦ (
      let r = h.rise i j v (omega (arith, before, other)) (slice_get_within history j w is_w) in
      let at_i : get_or history i v ≡ v = get_or_from_slice_get history i v v is_v in
      let at_j : get_or history j v ≡ w = get_or_from_slice_get history j w v is_w in
      subst (λ x. v.mark ≤ x.mark) at_j (subst (λ x. x.mark ≤ (get_or history j v).mark) at_i r)
      )
]

pub served_rows : (programs : List (Arc (List Insn) Global)) (marks : List ℕ) (m : VersionMet) (until : ℕ) (p : Arc (List Insn) Global) (mark : ℕ)
    → length programs ≡ length marks → slice_get programs m.version ≡ Some p → slice_get marks m.version ≡ Some mark
    → arc_value p ≡ m.program → mark ≤ m.first
    → (next : Option ℕ) → slice_get marks (m.version + 1) ≡ next → MatchOption next (Unit {0}) (λ n. until ≤ n)
    → (offered : ℕ) → IsHistory offered (history_in programs marks) → IsServed (history_in programs marks) until m
served_rows programs marks m until p mark same is_p is_m program begun next is_next within offered h =
    let ps = programs_at programs in
    let len : length ps ≡ length marks = length-map programs arc_value ∙ same in
    let is_q : slice_get ps m.version ≡ Some (arc_value p) = slice_get-map arc_value programs m.version ∙ ap (λ o. option_map arc_value o) is_p in
    record {
      entry = entry (arc_value p) mark;
      stands = row ps marks m.version (arc_value p) mark is_q is_m;
      program_is = program;
      begun = begun;
      ends = λ later v is after.
          let w = slice_get_within (versions_of ps marks) later v is in
          let rows = rows_length ps marks len in
          let mark_at = nth marks (m.version + 1) (omega (arith, w, rows, after)) in
          let program_at = nth ps (m.version + 1) (omega (arith, w, rows, after, len)) in
          let least : until ≤ mark_at.0 = subst (λ o. MatchOption o (Unit {0}) (λ n. until ≤ n)) (sym is_next ∙ mark_at.1) within in
          let stands = row ps marks (m.version + 1) program_at.0 mark_at.0 program_at.1 mark_at.1 in
          let le : mark_at.0 ≤ v.mark = rises offered (versions_of ps marks) (m.version + 1) later (entry program_at.0 mark_at.0) v h (omega (arith, after))
          stands is in
          omega (arith, least, le);
    }
  where
    nth : {X : Type 0} (xs : List X) (i : ℕ) → i < length xs → (x : X) × (slice_get xs i ≡ Some x)
    nth [] i low = absurd (omega (arith, low))
    nth (x ∷ xs) zero low = (x, refl)
    nth (x ∷ xs) (suc i) low = nth xs i (omega (arith, low))

pub served_step : (history : List Version) (offered until : ℕ) (met later : List MetVersion) (one : MetVersion) → met ≡ one ∷ later
    → until ≡ first_met offered (versions_met later)
    → IsServed history until (met_data one) → AreServed history offered (versions_met later) → AreServed history offered (versions_met met)
served_step history offered until met later one is first served rest =
    subst (λ ms. AreServed history offered (versions_met ms)) (sym is) (subst (λ n. IsServed history n (met_data one)) first served, rest)

-- an item that was looked up
pub found : {X : Type 0} (xs : List X) (i : ℕ) (x : X) → x ≡ get_or xs i x → i < length xs → slice_get xs i ≡ Some x
found xs i x is low = slice_get_read xs (length xs) i x refl low is
