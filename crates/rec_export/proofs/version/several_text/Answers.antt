use Rattle.std.proofs.Common.{List, ℕ, ◌++◌, ap, length, arith}
use Rattle.rec_export.specs.declared.version.LaterVersions.TheVariants.{Several}
use Rattle.rec_export.specs.Versions.{later_text, version_with}
use Rattle.rec_export.proofs.Texts.{short_several}
use Rattle.rec_export.proofs.version.several_text.Goals as goal

pub returns-in-Ok-clause-short : goal.returns-in-Ok-clause-short
returns-in-Ok-clause-short c =
    let said = later_text (Several c.args.first (version_with c.args.last c.args.insns)) in
    let same = ap (λ (l : List ℕ). length l) c.in-Ok.ensures.bytes in
    let none = ap (λ (l : List ℕ). length (l ++ said)) c.new-text.ensures.items in
    let few = short_several c.args.first (version_with c.args.last c.args.insns) c.ranges.first.fits c.ranges.last.fits c.ranges.insns.fits in
    omega (arith, same, none, few)
