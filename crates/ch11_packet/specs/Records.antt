-- The bodies of the recording's own records, in packets of computer-generated data, Format 0 (the
-- format that IRIG 106-17 Chapter 11 leaves to the user): a program that was in force, and the end
-- of a channel.
use Rattle.std.specs.Prelude.{ℕ, ◌<◌, ◌^◌, List, ◌++◌, length, codes}
use Rattle.std.specs.Int.{w16, w32, w64, to_le_bytes}
use Rattle.std.specs.List.{flat_map}
use Rattle.ch11_packet.specs.declared.records.TheConstants.{PROGRAM_RECORD, END_RECORD}
use Rattle.bpf_insn.specs.declared.insn.Insn.{Insn}
use Rattle.bpf_insn.specs.Bytes.{insn_bytes}

-- what the record of a channel's end says: the channel, and the numbers of frames offered and kept
pub record EndData : Type 0 where
  pub channel : ℕ
  pub offered : ℕ
  pub kept : ℕ

-- its numbers have their widths, and the channel is not 0
pub record IsEndRecord (end : EndData) : Type 0 where
  pub named : 0 < end.channel
  pub channel_fits : end.channel < 2 ^ 16
  pub offered_fits : end.offered < 2 ^ 64
  pub kept_fits : end.kept < 2 ^ 64

-- ---- with any value where nothing is said

-- the 12 bytes that each record begins with: a word, a tag, the kind and the channel
abbrev pub record_head : (word kind channel : ℕ) → List ℕ
record_head word kind channel =
    to_le_bytes w32 word ++ codes "CBPR" ++ to_le_bytes w16 kind ++ to_le_bytes w16 channel

-- the record of a program: its version, the number of the first frame that met it, how many
-- instructions it has, two bytes, and the instructions
abbrev pub program_spelling : (word unused channel version first : ℕ) → List Insn → List ℕ
program_spelling word unused channel version first insns =
    record_head word PROGRAM_RECORD channel ++ to_le_bytes w32 version ++ to_le_bytes w64 first
    ++ to_le_bytes w16 (length insns) ++ to_le_bytes w16 unused ++ flat_map insn_bytes insns

-- the record of a channel's end: how many frames were offered, and how many of them were kept
abbrev pub end_spelling : (word : ℕ) → EndData → List ℕ
end_spelling word end =
    record_head word END_RECORD end.channel
    ++ to_le_bytes w64 end.offered ++ to_le_bytes w64 end.kept

-- ---- as they are written: with zeros there

unfoldable pub program_bytes : (channel version first : ℕ) → List Insn → List ℕ
program_bytes channel version first insns = program_spelling 0 0 channel version first insns

unfoldable pub end_bytes : EndData → List ℕ
end_bytes end = end_spelling 0 end
