use Rattle.std.proofs.Common.{take, drop}
use Rattle.std.specs.List.{flat_map}
use Rattle.std.specs.Io.KnownBytes.{Appends}
use Rattle.pcapng_blocks.specs.Options.{option_bytes, AreOptions}
use Rattle.pcapng_blocks.specs.Views.{options_data}
use Rattle.pcapng_blocks.proofs.output.write_options.Given as goal

-- the output took the options so far, and those that are left are options
abbrev pub invariant-options : goal.invariant-options
invariant-options g l =
    Appends (g.W.Write.contents l.initial.out) (g.W.Write.contents l.out) (flat_map option_bytes (options_data (take l.option-index l.options)))
    × AreOptions (options_data (drop l.option-index l.options))
