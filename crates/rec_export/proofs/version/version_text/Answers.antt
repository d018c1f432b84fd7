use Rattle.std.proofs.Common.{List, ℕ, ◌++◌, ap, length, arith}
use Rattle.rec_export.specs.Versions.{version_text, version_with}
use Rattle.rec_export.proofs.Texts.{short_version}
use Rattle.rec_export.proofs.version.version_text.Goals as goal

pub returns-in-Ok-clause-short : goal.returns-in-Ok-clause-short
returns-in-Ok-clause-short c =
    let same = ap (λ (l : List ℕ). length l) c.in-Ok.ensures.bytes in
    let none = ap (λ (l : List ℕ). length (l ++ version_text (version_with c.args.number c.args.insns))) c.new-text.ensures.items in
    let few = short_version (version_with c.args.number c.args.insns) c.ranges.number.fits c.ranges.insns.fits in
    omega (arith, same, none, few)
