-- The versions of a channel's filter, and what comments say of them.
use Rattle.std.specs.Prelude.{ℕ, codes, List, ◌++◌, length, Option, None, Some}
use Rattle.std.specs.Fmt.{decimal}
use Rattle.rec_reader.specs.declared.audits.channel.ChannelProgram.{ChannelProgram}
use Rattle.rec_export.specs.declared.version.FilterVersion.{FilterVersion}
use Rattle.rec_export.specs.declared.version.LaterVersions.{LaterVersions}
use Rattle.rec_export.specs.declared.version.LaterVersions.TheVariants.{One, Several}

-- the version with this number and as many instructions
abbrev pub version_with : (number insns : ℕ) → FilterVersion
version_with number insns = record { number = number; insns = insns }

-- the version of a filter, by its program
abbrev pub filter_version : ChannelProgram → FilterVersion
filter_version program = version_with program.version (length program.insns)

-- what is said of a filter's version
abbrev pub version_text : FilterVersion → List ℕ
version_text version =
    codes "filter version " ++ (decimal version.number
    ++ (codes ", " ++ (decimal version.insns ++ codes " instructions")))

-- later versions of a filter, with one more behind them
abbrev pub joined_by : Option LaterVersions → FilterVersion → LaterVersions
joined_by None version = One version
joined_by (Some (One first)) version = Several first.number version
joined_by (Some (Several first last)) version = Several first version

-- what is said of a filter's later versions: of one what it is; of several the numbers of the first
-- and the last, and as many instructions as the last has
abbrev pub later_text : LaterVersions → List ℕ
later_text (One version) = version_text version
later_text (Several first last) =
    codes "filter versions " ++ (decimal first ++ (codes " to " ++ (decimal last.number
    ++ (codes ", the last of " ++ (decimal last.insns ++ codes " instructions")))))
