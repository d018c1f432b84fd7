use Rattle.std.proofs.Common.{◌∙◌, ◌≡◌, get_or, true, ap, arith, take}
use Rattle.std.specs.Char.{digit_value, is_digit}
use Rattle.std.proofs.lemmas.Bool.{and_from, lt-ltb}
use Rattle.std.proofs.lemmas.List.Folds.{list_all_more}
use Rattle.std.proofs.lemmas.Grind.{common_steps}
use Rattle.ch11_clock.proofs.DigitsRead.{value_more, below_so_far, below_power}
use Rattle.ch11_clock.proofs.origin_text.read_digits.Goals as goal

pub overflow_mul-value : goal.overflow_mul-value
overflow_mul-value c =
    let small = below_so_far c.args.digits.now c.digits.digit-index c.digits.value c.requires c.digits.invariant.digits c.digits.invariant.number in
    omega (arith, small)

pub overflow_add-value : goal.overflow_add-value
overflow_add-value c =
    let small = below_so_far c.args.digits.now c.digits.digit-index c.digits.value c.requires c.digits.invariant.digits c.digits.invariant.number in
    omega (arith, small, c.in_ok-digit.ensures.value)

pub digits-preserved : goal.digits-preserved
digits-preserved c =
    let ds = c.args.digits.now in
    let i = c.digits.digit-index in
    let is : c.in_ok-digit.digit ≡ digit_value (get_or ds i 0) = c.in_ok-digit.ensures.value.1 ∙ ap digit_value c.from.ensures in
    let more = value_more ds i c.digits.value c.in_ok-digit.digit c.digits-test.true c.digits.invariant.number is in
    let digit : is_digit (get_or ds i 0) 10 ≡ true = lt-ltb _ _ (omega (arith, is, c.in_ok-digit.ensures.value)) in
    record {
      digits = list_all_more (λ d. is_digit d 10) ds i 0 c.digits-test.true ∙ and_from _ _ c.digits.invariant.digits digit;
      number = omega (arith, more);
    }

pub returns-clause-small : goal.returns-clause-small
returns-clause-small c =
    let ds = c.args.digits.now in
    let all : take c.digits.digit-index ds ≡ ds = grind (arith, common_steps) in
    below_power ds c.digits.value (rw all at c.digits.invariant.digits) (rw all at c.digits.invariant.number)
