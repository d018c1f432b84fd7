use Rattle.std.proofs.Common.{◌≡◌, ◌+◌, length, take}
use Rattle.std.specs.List.{flat_map}
use Rattle.pcapng_blocks.specs.Options.{option_bytes}
use Rattle.pcapng_blocks.specs.Views.{options_data}
use Rattle.pcapng_blocks.proofs.output.options_len.Given as goal

-- the end of options and the options so far have this length
abbrev pub invariant-options : goal.invariant-options
invariant-options l = l.len ≡ 4 + length (flat_map option_bytes (options_data (take l.option-index l.options)))
