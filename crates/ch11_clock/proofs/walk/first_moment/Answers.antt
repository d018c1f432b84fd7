use Rattle.std.proofs.Common.{◌≡◌, arith, rules, pos, ◌+ℤ◌, to_z, of_z, to_z-of_z, w64, FitsSigned, refl, sym, true, false, Bool}
use Rattle.std.specs.Int.{w128}
use Rattle.jiff_core.proofs.SignedLemmas.{signed_arith}
use Rattle.ch11_clock.specs.Clock.{time_under}
use Rattle.ch11_clock.specs.Moments.{IsLastAt}
use Rattle.ch11_clock.specs.TimePoints.{HasBegun}
use Rattle.ch11_clock.proofs.FirstMoments.{first_here, first_next, begun_next}
use Rattle.ch11_clock.proofs.walk.first_moment.Goals as goal

pub returns-then-has_begun-clause-first : goal.returns-then-has_begun-clause-first
returns-then-has_begun-clause-first c end within =
    let last = c.last_at-last.result in
    let back : to_z w64 (of_z w64 last) ≡ last = to_z-of_z (let f : FitsSigned w64 last = search rules in f) in
    let at : FitsSigned w128 c.time_under.result = search rules in
    let is : IsLastAt (time_under c.args.rule c.args.least) last = rw (sym c.time_under.ensures) (rw (to_z-of_z at) at c.last_at-last.ensures.is) in
    let begun : HasBegun c.args.rule last = rw back at (c.has_begun.ensures.0 c.if-has_begun.true) in
    rw back (first_here c.args.rule end c.args.least last is within begun)

pub returns-else-has_begun-clause-first : goal.returns-else-has_begun-clause-first
returns-else-has_begun-clause-first c end within =
    let last = c.last_at-last.result in
    let back : to_z w64 (of_z w64 last) ≡ last = to_z-of_z (let f : FitsSigned w64 last = search rules in f) in
    let at : FitsSigned w128 c.time_under.result = search rules in
    let is : IsLastAt (time_under c.args.rule c.args.least) last = rw (sym c.time_under.ensures) (rw (to_z-of_z at) at c.last_at-last.ensures.is) in
    let none : ¬ HasBegun c.args.rule last = λ has. clash c.if-has_begun.false (c.has_begun.ensures.1 (rw back has)) in
    let range = c.last_at-last.ensures.in_range in
    let more : FitsSigned w64 (last +ℤ pos 1) = omega (arith, signed_arith, range) in
    let next : to_z w64 (of_z w64 (to_z w64 (of_z w64 last) +ℤ pos 1)) ≡ last +ℤ pos 1 = rw (back, to_z-of_z more) refl in
    first_next c.args.rule end c.args.least last _ is none next
  where
    clash : {b : Bool} → b ≡ false → b ≡ true → ⊥
    clash e f = cc

pub returns-else-has_begun-clause-begun : goal.returns-else-has_begun-clause-begun
returns-else-has_begun-clause-begun c =
    let last = c.last_at-last.result in
    let back : to_z w64 (of_z w64 last) ≡ last = to_z-of_z (let f : FitsSigned w64 last = search rules in f) in
    let at : FitsSigned w128 c.time_under.result = search rules in
    let is : IsLastAt (time_under c.args.rule c.args.least) last = rw (sym c.time_under.ensures) (rw (to_z-of_z at) at c.last_at-last.ensures.is) in
    let range = c.last_at-last.ensures.in_range in
    let more : FitsSigned w64 (last +ℤ pos 1) = omega (arith, signed_arith, range) in
    let next : to_z w64 (of_z w64 (to_z w64 (of_z w64 last) +ℤ pos 1)) ≡ last +ℤ pos 1 = rw (back, to_z-of_z more) refl in
    begun_next c.args.rule c.args.least last _ c.requires.holds is next
