-- The instructions of all mnemonics but that of a jump to a label are those of the table of operands.
use Rattle.std.proofs.Common.{◌≡◌, refl}
use Rattle.bpf_asm.specs.declared.mnemonic.Mnemonic.{Mnemonic}
use Rattle.bpf_asm.specs.declared.mnemonic.Mnemonic.TheVariants.{Ld, Ldi, Ldh, Ldb, Ldx, Ldxi, Ldxb, St, Stx, Jmp, Test, Inverted, Alu, Neg, Tax, Txa, Ret}
use Rattle.bpf_asm.specs.Operands.{Operand}
use Rattle.bpf_asm.specs.Templates.{template_of, with_operand, meaning_of}

pub table_of_others : (mnemonic : Mnemonic) (operand : Operand) → (mnemonic ≡ Jmp → ⊥)
    → template_of mnemonic operand ≡ with_operand mnemonic (meaning_of operand)
table_of_others Jmp operand other = absurd (other refl)
table_of_others Ld operand other = refl
table_of_others Ldi operand other = refl
table_of_others Ldh operand other = refl
table_of_others Ldb operand other = refl
table_of_others Ldx operand other = refl
table_of_others Ldxi operand other = refl
table_of_others Ldxb operand other = refl
table_of_others St operand other = refl
table_of_others Stx operand other = refl
table_of_others (Test cond) operand other = refl
table_of_others (Inverted cond) operand other = refl
table_of_others (Alu op) operand other = refl
table_of_others Neg operand other = refl
table_of_others Tax operand other = refl
table_of_others Txa operand other = refl
table_of_others Ret operand other = refl
