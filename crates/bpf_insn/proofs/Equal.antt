-- Equality of instructions, field by field.
use Rattle.std.proofs.Common.{◌≡◌, Bool, true, ◌&&◌, eqb, ap}
use Rattle.std.proofs.lemmas.Bool.{and_parts, and_from, eqb-true, eq-eqb}
use Rattle.bpf_insn.specs.declared.insn.Insn.{Insn}

abbrev pub same_fields : Insn → Insn → Bool
same_fields x y = eqb x.code y.code && (eqb x.jt y.jt && (eqb x.jf y.jf && eqb x.k y.k))

-- fields that are equal make instructions that are
pub insns_decide : (x y : Insn) → (same_fields x y ≡ true → x ≡ y) × (x ≡ y → same_fields x y ≡ true)
insns_decide x y = (
  λ h.
      let code = and_parts (eqb x.code y.code) (eqb x.jt y.jt && (eqb x.jf y.jf && eqb x.k y.k)) h in
      let jt = and_parts (eqb x.jt y.jt) (eqb x.jf y.jf && eqb x.k y.k) code.1 in
      let jf = and_parts (eqb x.jf y.jf) (eqb x.k y.k) jt.1 in
      let code_is = eqb-true x.code y.code code.0 in
      let jt_is = eqb-true x.jt y.jt jt.0 in
      let jf_is = eqb-true x.jf y.jf jf.0 in
      let k_is = eqb-true x.k y.k jf.1 in
      λ i. record { code = code_is i; jt = jt_is i; jf = jf_is i; k = k_is i },
  λ e.
      and_from _ _ (eq-eqb x.code y.code (ap (λ z. z.code) e)) (and_from _ _ (eq-eqb x.jt y.jt (ap (λ z. z.jt) e))
      (and_from _ _ (eq-eqb x.jf y.jf (ap (λ z. z.jf) e)) (eq-eqb x.k y.k (ap (λ z. z.k) e)))),
)
