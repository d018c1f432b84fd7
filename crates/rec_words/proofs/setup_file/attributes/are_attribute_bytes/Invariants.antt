use Rattle.std.proofs.Common.{◌≡◌, drop}
use Rattle.std.specs.List.{list_all}
use Rattle.rec_words.specs.SetupFile.{is_attribute_byte}
use Rattle.rec_words.proofs.setup_file.attributes.are_attribute_bytes.Given as goal

-- the bytes so far may stand in an attribute
abbrev pub invariant-bytes : goal.invariant-bytes
invariant-bytes l = list_all is_attribute_byte l.bytes ≡ list_all is_attribute_byte (drop l.byte-index l.bytes)
