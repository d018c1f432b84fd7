-- What holds of the instruction at a place, once the instruction and its form are known.
use Rattle.std.proofs.Common.{ℕ, ◌≡◌, List, Option, Some, sym, ◌∙◌, ap, subst, slice_get}
use Rattle.std.specs.Prelude.{unwrap_or}
use Rattle.bpf_insn.specs.declared.insn.Insn.{Insn}
use Rattle.bpf_insn.specs.declared.form.Form.{Form}
use Rattle.bpf_insn.specs.Forms.{form}
use Rattle.bpf_verify.specs.ByForm.{IsAt}

pub some_is : {X : Type 0} (x y : X) → Some x ≡ Some y → x ≡ y
some_is x y e = ap (λ o. unwrap_or o x) e

-- a fact on whatever instruction stands at a place is one on this instruction and its form
pub here : (P : Option Form → Insn → Type 0) (p : List Insn) (at : ℕ) (i : Insn) (f : Form) (j : Insn)
    → IsAt p at f i → slice_get p at ≡ Some j → P (form j.code) j → P (Some f) i
here P p at i f j stands other fact =
    let same : j ≡ i = some_is j i (sym other ∙ stands.0) in
    subst (λ o. P o i) stands.1 (subst (λ k. P (form k.code) k) same fact)

-- and the other way round
pub there : (P : Option Form → Insn → Type 0) (i : Insn) (f : Form) → form i.code ≡ Some f → P (Some f) i → P (form i.code) i
there P i f formed fact = subst (λ o. P o i) (sym formed) fact
