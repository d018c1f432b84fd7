use Rattle.std.proofs.Common.{List, ℕ, ◌++◌, ap, length, arith}
use Rattle.rec_export.specs.Interfaces.{channel_name}
use Rattle.rec_export.proofs.Texts.{short_name}
use Rattle.rec_export.proofs.interface.channel_name.Goals as goal

pub returns-in-Ok-clause-short : goal.returns-in-Ok-clause-short
returns-in-Ok-clause-short c =
    let same = ap (λ (l : List ℕ). length l) c.in-Ok.ensures.bytes in
    let none = ap (λ (l : List ℕ). length (l ++ channel_name c.args.channel)) c.new-name.ensures.items in
    let few = short_name c.args.channel c.ranges.channel.fits in
    omega (arith, same, none, few)
