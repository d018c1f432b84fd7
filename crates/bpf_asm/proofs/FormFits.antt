-- What a line says fits its instruction's form, row by row of the table of operands.
use Rattle.std.proofs.Common.{ℕ, ◌≡◌, ◌&&◌, Bool, true, false, cond, eqb, codes, List, Option, None, Some, refl, subst}
use Rattle.bpf_insn.specs.declared.form.Form.{Form}
use Rattle.bpf_insn.specs.declared.form.Form.TheVariants as form
use Rattle.bpf_insn.specs.declared.form.Src.{Src}
use Rattle.bpf_insn.specs.declared.form.Src.TheVariants.{K, X}
use Rattle.bpf_insn.specs.declared.form.Cond.{Cond}
use Rattle.bpf_insn.specs.Uses.{uses_k}
use Rattle.bpf_asm.specs.declared.mnemonic.Mnemonic.{Mnemonic}
use Rattle.bpf_asm.specs.declared.mnemonic.Mnemonic.TheVariants.{Ld, Ldi, Ldx, Ldxb, Jmp, Test, Inverted, Alu, Neg, Ret}
use Rattle.bpf_asm.specs.Tokens.{Token}
use Rattle.bpf_asm.specs.Operands.{Operand, is_name}
use Rattle.bpf_asm.specs.Operands.Operand.{Nothing, Absolute, Indexed, Scratch, Immediate, Bare, Word, HashWord}
use Rattle.bpf_asm.specs.Operands.Operand.{IndexRegister, Accumulator, Length, HeaderLength, Targets}
use Rattle.bpf_asm.specs.Templates.{Template, plain_template, test_template, meaning_of, with_operand, template_of, NamesOne, NamesLabels, FitsForm}
use Rattle.bpf_asm.specs.Templates.Jump.{NoJump, Always, Branch}
use Rattle.bpf_asm.specs.Grammar.{IsOperand, WritesInsn}

fits_so : (made template : Template) → Some made ≡ Some template → FitsForm made → FitsForm template
fits_so made template e h = let same : made ≡ template = cc in let P : Template → Type 0 = λ t. FitsForm t in subst P same h

plain : (f : Form) (k : ℕ) (template : Template) → plain_template f k ≡ Some template → NamesLabels f NoJump → (uses_k f ≡ false → k ≡ 0) → FitsForm template
plain f k template e labels unused = fits_so (record { form = f; k = k; jump = NoJump }) template e (record { labels = labels; unused = unused })

test_unused : (cond : Cond) (src : Src) (k : ℕ) → (src ≡ X → k ≡ 0) → uses_k (form.Test cond src) ≡ false → k ≡ 0
test_unused cond K k zero e = cc
test_unused cond X k zero e = zero refl

header_length : (is : Bool) (k : ℕ) (template : Template) → cond is (plain_template form.LdxMsh k) None ≡ Some template → FitsForm template
header_length true k template e = plain form.LdxMsh k template e refl (λ used. cc)
header_length false k template e = cc

one_named : (first : List ℕ) (second : Option (List ℕ)) → NamesOne (Some first) second
one_named first None = tt
one_named first (Some second) = tt

-- an operand that compares with the index register has no constant
abbrev ComparesRight : Operand → Type 0
ComparesRight (Targets src k first second) = src ≡ X → k ≡ 0
ComparesRight operand = Unit {0}

-- what a row makes, if it makes anything
abbrev MakesFitting : Option Template → Type 0
MakesFitting None = Unit {0}
MakesFitting (Some made) = FitsForm made

-- a form that uses its constant may have any
used : (k : ℕ) → true ≡ false → k ≡ 0
used k e = cc

header_fits : (is : Bool) (k : ℕ) → MakesFitting (cond is (plain_template form.LdxMsh k) None)
header_fits true k = record { labels = refl; unused = used k }
header_fits false k = tt

fitting_test : (test : Cond) (src : Src) (k : ℕ) (holds fails : Option (List ℕ)) → (src ≡ X → k ≡ 0) → NamesOne holds fails
    → MakesFitting (test_template test src k holds fails)
fitting_test test src k holds fails zero named = record { labels = (holds, fails, refl, named); unused = test_unused test src k zero }

-- the rows of the table by operand: each text is checked for each mnemonic
row : (mnemonic : Mnemonic) (operand : Operand) → ComparesRight operand → MakesFitting (with_operand mnemonic operand)
row (Test test) (Targets src k holds fails) right = fitting_test test src k (Some holds) fails right (one_named holds fails)
row (Inverted test) (Targets src k fails None) right = fitting_test test src k None (Some fails) right tt
row (Inverted test) (Targets src k fails (Some more)) right = tt
row Ldx (HeaderLength m k n) right = header_fits (eqb m 4 && eqb n 15) k
row Ldxb (HeaderLength m k n) right = header_fits (eqb m 4 && eqb n 15) k
row Neg Nothing right = search (used)
row mnemonic Nothing right = search (used)
row Ld (Absolute k) right = search (used)
row mnemonic (Absolute k) right = search (used)
row Ld (Indexed k) right = search (used)
row mnemonic (Indexed k) right = search (used)
row Ld (Scratch k) right = search (used)
row mnemonic (Scratch k) right = search (used)
row Ld (Immediate k) right = search (used)
row mnemonic (Immediate k) right = search (used)
row Ldi (Bare k) right = search (used)
row mnemonic (Bare k) right = search (used)
row Ld (Word name) right = tt
row mnemonic (Word name) right = search (used)
row Ld (HashWord name) right = tt
row mnemonic (HashWord name) right = search (used)
row (Alu op) IndexRegister right = search (used)
row mnemonic IndexRegister right = search (used)
row Ret Accumulator right = search (used)
row mnemonic Accumulator right = search (used)
row Ld Length right = search (used)
row mnemonic Length right = search (used)
row mnemonic (HeaderLength m k n) right = search (used)
row mnemonic (Targets src k holds fails) right = search (used)

fits_made : (made : Option Template) (template : Template) → made ≡ Some template → MakesFitting made → FitsForm template
fits_made None template e h = cc
fits_made (Some made) template e h = fits_so made template e h

either_right : (b : Bool) (x y : Operand) → ComparesRight x → ComparesRight y → ComparesRight (cond b x y)
either_right true x y hx hy = hx
either_right false x y hx hy = hy

-- the grammar's operands are so
meaning_right : (operand : Operand) (ts : List Token) → IsOperand operand ts → ComparesRight (meaning_of operand)
meaning_right (Word name) ts h =
    either_right (is_name name (codes "x")) IndexRegister _ tt
    (either_right (is_name name (codes "a")) Accumulator _ tt (either_right (is_name name (codes "len")) Length (Word name) tt tt))
meaning_right (HashWord name) ts h = either_right (is_name name (codes "len")) Length (HashWord name) tt tt
meaning_right (Targets K k first second) ts h = λ e. cc
meaning_right (Targets X k first second) ts h = λ e. h.1.0
meaning_right operand ts h = tt

template_fits : (mnemonic : Mnemonic) (operand : Operand) (ts : List Token) (template : Template) → IsOperand operand ts
    → template_of mnemonic operand ≡ Some template → FitsForm template
template_fits Jmp (Word name) ts template h e =
    fits_so (record { form = form.Ja; k = 0; jump = Always name }) template e (record { labels = (name, refl); unused = λ _. refl })
template_fits mnemonic operand ts template h e = fits_made (with_operand mnemonic (meaning_of operand)) template e
    (row mnemonic (meaning_of operand) (meaning_right operand ts h))

-- what the grammar has fits its form
pub insn_fits : (template : Template) (ts : List Token) → WritesInsn template ts → FitsForm template
insn_fits template ts h = template_fits h.mnemonic h.operand h.operand_tokens template h.written h.taken
