use Rattle.std.proofs.Common.{◌≡◌, ◌⊎◌, inl, inr, arith, rules, ℤ, pos, ◌+ℤ◌, ◌<ℤ◌, to_z-of_z, FitsSigned, ap, ◌∙◌, true, false}
use Rattle.std.specs.Int.{w128}
use Rattle.std.specs.Prelude.{int_lt, IsTrue, ◌↔◌}
use Rattle.std.proofs.lemmas.Bool.{cases_Bool}
use Rattle.jiff_core.proofs.SignedLemmas.{signed_arith}
use Rattle.ch11_clock.specs.Moments.{nanos_of}
use Rattle.ch11_clock.specs.TimePoints.{HasBegun}
use Rattle.ch11_clock.proofs.FirstMoments.{begun_by_time, time_of_begun}
use Rattle.ch11_clock.proofs.walk.has_begun.Goals as goal

less : (a b : ℤ) → IsTrue (int_lt a b) ↔ (a <ℤ b)
less a b = (λ t. omega (arith, signed_arith, t), back (cases_Bool (int_lt a b)))
  where
    back : (int_lt a b ≡ true) ⊎ (int_lt a b ≡ false) → a <ℤ b → IsTrue (int_lt a b)
    back (inl e) h = e
    back (inr e) h = absurd (omega (arith, signed_arith, e, h))

pub returns : goal.returns
returns c =
    let begins = c.time_under.result in
    let wide : FitsSigned w128 begins = search rules in
    let nanos : FitsSigned w128 c.nanos_of.result = search rules in
    let value : c.nanos_of.result ≡ nanos_of c.args.moment = c.nanos_of.ensures ∙ ap nanos_of (to_z-of_z c.ranges.moment) in
    let range = c.requires in
    let sum : FitsSigned w128 (c.nanos_of.result +ℤ pos 100) = rw value (omega (arith, signed_arith, range)) in
    let test = less begins (c.nanos_of.result +ℤ pos 100) in
    let begun : (begins <ℤ (c.nanos_of.result +ℤ pos 100)) ↔ HasBegun c.args.rule c.args.moment =
    rw (c.time_under.ensures, value) (begun_by_time c.args.rule c.args.moment, time_of_begun c.args.rule c.args.moment) in
    rw (to_z-of_z wide, to_z-of_z nanos, to_z-of_z sum) (λ t. begun.0 (test.0 t), λ has. test.1 (begun.1 has))
