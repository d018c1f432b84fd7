-- The texts of comments and names are short.
use Rattle.std.proofs.Common.{ℕ, ◌^◌, ◌<◌, ◌≤◌, ◌++◌, length, arith}
use Rattle.std.specs.Prelude.{codes}
use Rattle.std.specs.Fmt.{decimal}
use Rattle.std.proofs.lemmas.Fmt.{length-decimal-le}
use Rattle.std.proofs.lemmas.List.{length-append}
use Rattle.rec_export.specs.declared.version.FilterVersion.{FilterVersion}
use Rattle.rec_export.specs.declared.version.LaterVersions.TheVariants.{Several}
use Rattle.rec_export.specs.Versions.{version_text, later_text}
use Rattle.rec_export.specs.Interfaces.{channel_name}

pub short_version : (version : FilterVersion) → version.number < 2 ^ 32 → version.insns < 2 ^ 16 → length (version_text version) ≤ 100
short_version version number insns =
    let first = length-decimal-le 10 version.number (omega arith) (omega (arith, number)) (omega (arith, number)) in
    let second = length-decimal-le 5 version.insns (omega arith) (omega (arith, insns)) (omega (arith, insns)) in
    let last = length-append (decimal version.insns) (codes " instructions") in
    let all = length-append (decimal version.number) (codes ", " ++ (decimal version.insns ++ codes " instructions")) in
    omega (arith, first, second, last, all)

pub short_several : (first : ℕ) (last : FilterVersion) → first < 2 ^ 32 → last.number < 2 ^ 32 → last.insns < 2 ^ 16
    → length (later_text (Several first last)) ≤ 100
short_several first last least number insns =
    let begin = length-decimal-le 10 first (omega arith) (omega (arith, least)) (omega (arith, least)) in
    let end = length-decimal-le 10 last.number (omega arith) (omega (arith, number)) (omega (arith, number)) in
    let count = length-decimal-le 5 last.insns (omega arith) (omega (arith, insns)) (omega (arith, insns)) in
    let tail = length-append (decimal last.insns) (codes " instructions") in
    let middle = length-append (decimal last.number) (codes ", the last of " ++ (decimal last.insns ++ codes " instructions")) in
    let all = length-append (decimal first) (codes " to " ++ (decimal last.number ++ (codes ", the last of " ++ (decimal last.insns
    ++ codes " instructions")))) in
    omega (arith, begin, end, count, tail, middle, all)

pub short_name : (channel : ℕ) → channel < 2 ^ 16 → length (channel_name channel) ≤ 100
short_name channel fits =
    let its = length-decimal-le 5 channel (omega arith) (omega (arith, fits)) (omega (arith, fits)) in
    omega (arith, its)
