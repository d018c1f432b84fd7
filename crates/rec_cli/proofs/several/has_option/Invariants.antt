use Rattle.std.proofs.Common.{◌≡◌, drop, map, string_bytes}
use Rattle.std.specs.List.{list_any}
use Rattle.rec_cli.specs.Answered.{is_option}
use Rattle.rec_cli.proofs.several.has_option.Given as goal

-- the words so far are none
abbrev pub invariant-words : goal.invariant-words
invariant-words l =
    list_any is_option (map string_bytes l.words)
    ≡ list_any is_option (map string_bytes (drop l.word-index l.words))
