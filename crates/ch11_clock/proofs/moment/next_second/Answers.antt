use Rattle.std.proofs.Common.{◌≡◌, arith, rules, pos, ◌+ℤ◌, ◌*ℤ◌, to_z, of_z, to_z-of_z, w64, FitsSigned, ap, ◌∙◌, refl}
use Rattle.jiff_core.proofs.SignedLemmas.{signed_arith}
use Rattle.std.specs.Int.{int_div_euclid}
use Rattle.ch11_clock.proofs.TickOrder.{next_is}
use Rattle.ch11_clock.proofs.moment.next_second.Goals as goal

pub returns : goal.returns
returns c =
    let back : to_z w64 (of_z w64 c.args.moment) ≡ c.args.moment = to_z-of_z c.ranges.moment in
    let seconds : c.div_euclid.result ≡ int_div_euclid c.args.moment (pos 100) = c.div_euclid.ensures ∙ ap (λ z. int_div_euclid z (pos 100)) back in
    let fits : FitsSigned w64 c.div_euclid.result = search rules in
    let small : FitsSigned w64 (c.div_euclid.result +ℤ pos 1) = omega (arith, signed_arith) in
    let large : FitsSigned w64 ((c.div_euclid.result +ℤ pos 1) *ℤ pos 100) = omega (arith, signed_arith) in
    next_is c.args.moment c.div_euclid.result _ seconds (rw (to_z-of_z fits, to_z-of_z small, to_z-of_z large) refl)
