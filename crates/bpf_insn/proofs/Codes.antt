-- The code of a form is the one that has it, row by row of the table.
use Rattle.std.proofs.Common.{ℕ, ◌≡◌, ◌⊎◌, ◌↔◌, inl, inr, true, false, cond, eqb, Option, None, Some, refl, ◌∙◌, ap}
use Rattle.std.proofs.lemmas.Bool.{cases_Bool, eqb-true}
use Rattle.bpf_insn.specs.declared.form.Form.{Form}
use Rattle.bpf_insn.specs.declared.form.Form.TheVariants.{LdImm, LdAbs, LdInd, LdMem, LdLen, LdxImm, LdxMem, LdxLen, LdxMsh}
use Rattle.bpf_insn.specs.declared.form.Form.TheVariants.{St, Stx, Alu, Neg, Ja, Test, RetK, RetA, Tax, Txa}
use Rattle.bpf_insn.specs.declared.form.Size.TheVariants.{W, H, B}
use Rattle.bpf_insn.specs.declared.form.Src.TheVariants.{K, X}
use Rattle.bpf_insn.specs.declared.form.Op.TheVariants.{Add, Sub, Mul, Div, Or, And, Lsh, Rsh, Mod, Xor}
use Rattle.bpf_insn.specs.declared.form.Cond.TheVariants.{Eq, Gt, Ge, Set}
use Rattle.bpf_insn.specs.Forms.{form, code_of}

same_form : (f g : Form) → Some f ≡ Some g → code_of f ≡ code_of g
same_form f g e = let same : f ≡ g = cc in ap code_of same

row_cases : (code c : ℕ) (f g : Form) (rest : Option Form) → c ≡ code_of f → (rest ≡ Some g → code ≡ code_of g) → (eqb code c ≡ true) ⊎ (eqb code c ≡ false)
    → cond (eqb code c) (Some f) rest ≡ Some g → code ≡ code_of g
row_cases code c f g rest is more (inl e) h =
    let one : Some f ≡ Some g = rw e at h in
    eqb-true code c e ∙ (is ∙ same_form f g one)
row_cases code c f g rest is more (inr e) h = let other : rest ≡ Some g = rw e at h in more other

-- one row of the table: the code is that row's, or the form is one of the rows after it
row : (code c : ℕ) (f g : Form) (rest : Option Form) → c ≡ code_of f → (rest ≡ Some g → code ≡ code_of g) → cond (eqb code c) (Some f) rest ≡ Some g
    → code ≡ code_of g
row code c f g rest is more h = row_cases code c f g rest is more (cases_Bool (eqb code c)) h

none_left : (code : ℕ) (g : Form) → None ≡ Some g → code ≡ code_of g
none_left code g h = cc

-- a form has one code
pub code_is : (code : ℕ) (g : Form) → form code ≡ Some g → code ≡ code_of g
code_is code g =
    row code 0x00 LdImm g _ refl (
    row code 0x20 (LdAbs W) g _ refl (
    row code 0x28 (LdAbs H) g _ refl (
    row code 0x30 (LdAbs B) g _ refl (
    row code 0x40 (LdInd W) g _ refl (
    row code 0x48 (LdInd H) g _ refl (
    row code 0x50 (LdInd B) g _ refl (
    row code 0x60 LdMem g _ refl (
    row code 0x80 LdLen g _ refl (
    row code 0x01 LdxImm g _ refl (
    row code 0x61 LdxMem g _ refl (
    row code 0x81 LdxLen g _ refl (
    row code 0xb1 LdxMsh g _ refl (
    row code 0x02 St g _ refl (
    row code 0x03 Stx g _ refl (
    row code 0x04 (Alu Add K) g _ refl (
    row code 0x0c (Alu Add X) g _ refl (
    row code 0x14 (Alu Sub K) g _ refl (
    row code 0x1c (Alu Sub X) g _ refl (
    row code 0x24 (Alu Mul K) g _ refl (
    row code 0x2c (Alu Mul X) g _ refl (
    row code 0x34 (Alu Div K) g _ refl (
    row code 0x3c (Alu Div X) g _ refl (
    row code 0x44 (Alu Or K) g _ refl (
    row code 0x4c (Alu Or X) g _ refl (
    row code 0x54 (Alu And K) g _ refl (
    row code 0x5c (Alu And X) g _ refl (
    row code 0x64 (Alu Lsh K) g _ refl (
    row code 0x6c (Alu Lsh X) g _ refl (
    row code 0x74 (Alu Rsh K) g _ refl (
    row code 0x7c (Alu Rsh X) g _ refl (
    row code 0x84 Neg g _ refl (
    row code 0x94 (Alu Mod K) g _ refl (
    row code 0x9c (Alu Mod X) g _ refl (
    row code 0xa4 (Alu Xor K) g _ refl (
    row code 0xac (Alu Xor X) g _ refl (
    row code 0x05 Ja g _ refl (
    row code 0x15 (Test Eq K) g _ refl (
    row code 0x1d (Test Eq X) g _ refl (
    row code 0x25 (Test Gt K) g _ refl (
    row code 0x2d (Test Gt X) g _ refl (
    row code 0x35 (Test Ge K) g _ refl (
    row code 0x3d (Test Ge X) g _ refl (
    row code 0x45 (Test Set K) g _ refl (
    row code 0x4d (Test Set X) g _ refl (
    row code 0x06 RetK g _ refl (
    row code 0x16 RetA g _ refl (
    row code 0x07 Tax g _ refl (
    row code 0x87 Txa g _ refl (
    none_left code g
    )))))))))))))))))))))))))))))))))))))))))))))))))

-- and the table has that form at its code
pub form_is : (f : Form) → form (code_of f) ≡ Some f
form_is LdImm = refl
form_is (LdAbs W) = refl
form_is (LdAbs H) = refl
form_is (LdAbs B) = refl
form_is (LdInd W) = refl
form_is (LdInd H) = refl
form_is (LdInd B) = refl
form_is LdMem = refl
form_is LdLen = refl
form_is LdxImm = refl
form_is LdxMem = refl
form_is LdxLen = refl
form_is LdxMsh = refl
form_is St = refl
form_is Stx = refl
form_is (Alu Add K) = refl
form_is (Alu Add X) = refl
form_is (Alu Sub K) = refl
form_is (Alu Sub X) = refl
form_is (Alu Mul K) = refl
form_is (Alu Mul X) = refl
form_is (Alu Div K) = refl
form_is (Alu Div X) = refl
form_is (Alu Or K) = refl
form_is (Alu Or X) = refl
form_is (Alu And K) = refl
form_is (Alu And X) = refl
form_is (Alu Lsh K) = refl
form_is (Alu Lsh X) = refl
form_is (Alu Rsh K) = refl
form_is (Alu Rsh X) = refl
form_is Neg = refl
form_is (Alu Mod K) = refl
form_is (Alu Mod X) = refl
form_is (Alu Xor K) = refl
form_is (Alu Xor X) = refl
form_is Ja = refl
form_is (Test Eq K) = refl
form_is (Test Eq X) = refl
form_is (Test Gt K) = refl
form_is (Test Gt X) = refl
form_is (Test Ge K) = refl
form_is (Test Ge X) = refl
form_is (Test Set K) = refl
form_is (Test Set X) = refl
form_is RetK = refl
form_is RetA = refl
form_is Tax = refl
form_is Txa = refl

pub one_code : (code : ℕ) (f : Form) → (form code ≡ Some f) ↔ (code ≡ code_of f)
one_code code f = (code_is code f, λ e. ap form e ∙ form_is f)
