use Rattle.std.proofs.Common.{◌∙◌, ◌≡◌, ◌≤◌, ◌+◌, ◌*◌, ◌-◌, get_or, refl, ap, arith}
use Rattle.std.proofs.lemmas.List.{take_all}
use Rattle.std.specs.Str.Parse.{digits_value}
use Rattle.bpf_insn.proofs.Digits.{value_more, value_over}
use Rattle.bpf_insn.proofs.parse.value_of.Goals as goal

pub returns-in_err-checked_mul : goal.returns-in_err-checked_mul
returns-in_err-checked_mul c =
    let ds = c.args.digits.now in
    let i = c.digits.digit-index in
    let digit = get_or ds i 0 - 48 in
    let over : 4294967296 ≤ c.digits.value * 10 + digit = omega (arith, c.in_err-checked_mul.ensures) in
    rw c.from_residual.ensures (value_over ds i c.digits.value digit 4294967296 c.requires c.digits-test.true c.digits.invariant.0 refl over)

pub returns-in_err-value : goal.returns-in_err-value
returns-in_err-value c =
    let ds = c.args.digits.now in
    let i = c.digits.digit-index in
    let digit = get_or ds i 0 - 48 in
    let over : 4294967296 ≤ c.digits.value * 10 + digit = omega (arith, c.in_err-value.ensures, c.in_ok-checked_mul.ensures, c.from.ensures) in
    rw c.from_residual-in_err-value.ensures (value_over ds i c.digits.value digit 4294967296 c.requires c.digits-test.true c.digits.invariant.0 refl over)

pub digits-preserved : goal.digits-preserved
digits-preserved c =
    let ds = c.args.digits.now in
    let i = c.digits.digit-index in
    let more = value_more ds i c.digits.value (get_or ds i 0 - 48) c.requires c.digits-test.true c.digits.invariant.0 refl in
    (omega (arith, more, c.in_ok-value.ensures, c.in_ok-checked_mul.ensures, c.from.ensures), omega (arith, c.in_ok-value.ensures))

pub returns : goal.returns
returns c =
    let all : c.digits.value ≡ digits_value 10 c.args.digits.now =
    c.digits.invariant.0 ∙ ap (λ ds. digits_value 10 ds) (take_all c.digits.digit-index c.args.digits.now c.digits-test.false) in
    (omega (arith, all, c.digits.invariant.1), all)
