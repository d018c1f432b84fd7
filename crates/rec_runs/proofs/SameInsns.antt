-- Instructions that are the same.
use Rattle.std.proofs.Common.{◌≡◌, ◌↔◌, Bool, true, false, IsTrue, List, ap, ◌∙◌, refl}
use Rattle.std.specs.Prelude.{◌==◌, ◌&&◌}
use Rattle.std.specs.Bool.{Decides}
use Rattle.std.proofs.lemmas.Bool.{eqb-true}
use Rattle.std.proofs.Common.{eq-eqb}
use Rattle.std.proofs.lemmas.Slice.Eq.{slice_eq-Decides}
use Rattle.bpf_insn.specs.declared.insn.Insn.{Insn}
use Rattle.rec_runs.specs.ProgramMoves.{is_same_insn, have_same_insns}

both_true : (a b : Bool) → (a && b) ≡ true → (a ≡ true) × (b ≡ true)
both_true true b is = (refl, is)
both_true false b is = cc

both_are : (a b : Bool) → a ≡ true → b ≡ true → (a && b) ≡ true
both_are a b one other = ap (λ x. x && b) one ∙ other

same_insn : (one other : Insn) → Decides (is_same_insn one other) (one ≡ other)
same_insn one other = (
  λ is. (
      let k = both_true (one.code == other.code && one.jt == other.jt && one.jf == other.jf) (one.k == other.k) is in
      let jf = both_true (one.code == other.code && one.jt == other.jt) (one.jf == other.jf) k.0 in
      let jt = both_true (one.code == other.code) (one.jt == other.jt) jf.0 in
      ap (λ n. record one { code = n }) (eqb-true one.code other.code jt.0)
      ∙ ap (λ n. record one { code = other.code; jt = n }) (eqb-true one.jt other.jt jt.1)
      ∙ ap (λ n. record one { code = other.code; jt = other.jt; jf = n }) (eqb-true one.jf other.jf jf.1)
      ∙ ap (λ n. record other { k = n }) (eqb-true one.k other.k k.1)),
  λ same.
      both_are (one.code == other.code && one.jt == other.jt && one.jf == other.jf) (one.k == other.k)
      (both_are (one.code == other.code && one.jt == other.jt) (one.jf == other.jf)
      (both_are (one.code == other.code) (one.jt == other.jt) (eq-eqb one.code other.code (ap (λ (i : Insn). i.code) same))
      (eq-eqb one.jt other.jt (ap (λ (i : Insn). i.jt) same)))
      (eq-eqb one.jf other.jf (ap (λ (i : Insn). i.jf) same)))
      (eq-eqb one.k other.k (ap (λ (i : Insn). i.k) same)),
)

pub same_insns : (one other : List Insn) → IsTrue (have_same_insns one other) ↔ (one ≡ other)
same_insns one other = slice_eq-Decides same_insn one other (have_same_insns one other) refl
