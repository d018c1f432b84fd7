-- The text of the worked example denotes its program.
use Rattle.std.proofs.Common.{◌≡◌, [], ◌∷◌, codes, None, Some, refl, arith}
use Rattle.bpf_insn.specs.declared.form.Form.TheVariants.{LdAbs, Test, RetK}
use Rattle.bpf_insn.specs.declared.form.Size.TheVariants.{H}
use Rattle.bpf_insn.specs.declared.form.Src.TheVariants.{K}
use Rattle.bpf_insn.specs.declared.form.Cond.TheVariants.{Eq}
use Rattle.bpf_asm.specs.Operands.{targets}
use Rattle.bpf_asm.specs.Templates.Jump.{NoJump, Branch}
use Rattle.bpf_asm.specs.Grammar.{Shape}
use Rattle.bpf_asm.specs.Denotes.{Denotes}
use Rattle.bpf_asm.specs.Examples.{arp_text, arp_program}
use Rattle.bpf_asm.proofs.LineReadings.{shape_is}

pub arp_denoted : Denotes arp_text arp_program
unfolding targets
arp_denoted =
    let load_ : Shape = record { labels = []; insn = Some (record { form = LdAbs H; k = 12; jump = NoJump }) } in
    let test_ : Shape = record { labels = []; insn = Some (record { form = Test Eq K; k = 2054; jump = Branch None (Some (codes "drop")) }) } in
    let keep_ : Shape = record { labels = []; insn = Some (record { form = RetK; k = 4294967295; jump = NoJump }) } in
    let drop_ : Shape = record { labels = codes "drop" ∷ []; insn = Some (record { form = RetK; k = 0; jump = NoJump }) } in (
      load_ ∷ test_ ∷ keep_ ∷ drop_ ∷ [],
      (
        shape_is (codes "ldh [12]") load_ refl,
        (
          shape_is (codes "jne #0x806, drop") test_ refl,
          (shape_is (codes "ret #-1") keep_ refl, (shape_is (codes "drop: ret #0") drop_ refl, tt)),
        ),
      ),
      record {
        once = λ i j d below within. absurd (omega (arith, below, within));
        named = λ k d below. let first : k ≡ 0 = omega (arith, below) in rw first (omega arith);
        insns = (
          (refl, (refl, refl, refl)),
          (
            (refl, (refl, (omega arith, (0, omega arith, refl)), refl)),
            ((refl, (refl, refl, refl)), ((refl, (refl, refl, refl)), tt)),
          ),
        );
        size = omega arith;
      },
    )
