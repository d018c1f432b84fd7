use Rattle.std.proofs.Common.{◌∙◌, ◌≡◌, ◌<◌, ◌+◌, ◌*◌, get_or, true, ap, sym, arith}
use Rattle.std.specs.Char.{digit_value, is_digit}
use Rattle.std.proofs.lemmas.Bool.{and_from, lt-ltb}
use Rattle.std.proofs.lemmas.List.Folds.{list_all_more}
use Rattle.bpf_asm.proofs.Numerals.{value_more, too_large}
use Rattle.bpf_asm.proofs.number.value_of.Goals as goal

pub returns-in_err-checked_mul : goal.returns-in_err-checked_mul
returns-in_err-checked_mul c =
    let ds = c.args.digits.now in
    let i = c.digits.digit-index in
    let is : c.in_ok-digit.digit ≡ digit_value (get_or ds i 0) = c.in_ok-digit.ensures.value.1 ∙ ap digit_value c.from.ensures in
    let over : 4294967295 < c.digits.value * c.args.base + c.in_ok-digit.digit = omega (arith, c.in_err-checked_mul.ensures) in
    rw c.from_residual-in_err-checked_mul.ensures
    (sym (too_large c.args.base 4294967295 ds i c.digits.value c.in_ok-digit.digit c.requires.least c.digits-test.true c.digits.invariant.number is over))

pub returns-in_err-value : goal.returns-in_err-value
returns-in_err-value c =
    let ds = c.args.digits.now in
    let i = c.digits.digit-index in
    let is : c.in_ok-digit.digit ≡ digit_value (get_or ds i 0) = c.in_ok-digit.ensures.value.1 ∙ ap digit_value c.from.ensures in
    let over : 4294967295 < c.digits.value * c.args.base + c.in_ok-digit.digit = omega (arith, c.in_err-value.ensures, c.in_ok-checked_mul.ensures) in
    rw c.from_residual-in_err-value.ensures (sym
    (too_large c.args.base 4294967295 ds i c.digits.value c.in_ok-digit.digit c.requires.least c.digits-test.true c.digits.invariant.number is over))

pub digits-preserved : goal.digits-preserved
digits-preserved c =
    let ds = c.args.digits.now in
    let i = c.digits.digit-index in
    let is : c.in_ok-digit.digit ≡ digit_value (get_or ds i 0) = c.in_ok-digit.ensures.value.1 ∙ ap digit_value c.from.ensures in
    let more = value_more c.args.base ds i c.digits.value c.in_ok-digit.digit c.digits-test.true c.digits.invariant.number is in
    let digit : is_digit (get_or ds i 0) c.args.base ≡ true = lt-ltb _ _ (omega (arith, is, c.in_ok-digit.ensures.value)) in
    record {
      digits = list_all_more (λ d. is_digit d c.args.base) ds i 0 c.digits-test.true ∙ and_from _ _ c.digits.invariant.digits digit;
      number = omega (arith, more, c.in_ok-value.ensures, c.in_ok-checked_mul.ensures);
      fits = omega (arith, c.in_ok-value.ensures);
    }
