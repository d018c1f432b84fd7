-- The recording's own records as they are read: some bytes may have any value.
use Rattle.std.specs.Prelude.{ℕ, zero, suc, List, [], ◌∷◌, drop, slice_index, ◌≡◌, ◌≢◌, ◌+◌, ◌*◌}
use Rattle.std.specs.Prelude.{◌^◌, ◌<◌, ◌≤◌, ◌⊎◌, ◌++◌, length, take, codes}
use Rattle.bpf_insn.specs.declared.insn.Insn.{Insn}
use Rattle.ch11_packet.specs.declared.records.TheConstants.{INSN_LEN, RECORD_HEAD_LEN}
use Rattle.ch11_packet.specs.declared.records.TheConstants.{PROGRAM_HEAD_LEN, PROGRAM_RECORD}
use Rattle.ch11_packet.specs.declared.records.TheConstants.{END_RECORD}
use Rattle.ch11_packet.specs.declared.records.encode.TheConstants.{END_RECORD_LEN}
use Rattle.eth_frame.specs.Bytes.{u16_at, u32_at}
use Rattle.std.specs.Int.{w16, to_le_bytes}
use Rattle.bpf_insn.specs.Bytes.{AreInRange}
use Rattle.ch11_packet.specs.declared.records.decode.RecordFault.{RecordFault}
use Rattle.ch11_packet.specs.declared.records.decode.RecordFault.TheVariants.{Kind, Channel, Length}
use Rattle.ch11_packet.specs.Records.{EndData, IsEndRecord, program_spelling, end_spelling}

-- ---- stored instructions

-- the instruction that is stored in the 8 bytes at the front
abbrev pub first_insn : List ℕ → Insn
first_insn bytes = record {
  code = u16_at bytes 0;
  jt = slice_index bytes 2;
  jf = slice_index bytes 3;
  k = u32_at bytes 4;
}

-- the first `count` instructions of these bytes
unfoldable pub stored_insns : ℕ → List ℕ → List Insn
stored_insns zero bytes = []
stored_insns (suc count) bytes = first_insn bytes ∷ stored_insns count (drop INSN_LEN bytes)

-- ---- what a record is

-- what a record says: a program that came into force on a channel as this version, from the frame
-- with this number on; or a channel's end
pub data RecordData : Type 0 where
  OfProgram : (channel version first : ℕ) (insns : List Insn) → RecordData
  OfEnd : EndData → RecordData

-- the numbers of a program's record have their widths, and the channel is not 0
pub record IsProgramRecord (channel version first : ℕ) (insns : List Insn) : Type 0 where
  pub named : 0 < channel
  pub channel_fits : channel < 2 ^ 16
  pub version_fits : version < 2 ^ 32
  pub first_fits : first < 2 ^ 64
  pub few : length insns < 2 ^ 16
  pub insns_fit : AreInRange insns

-- the bytes are this record, with any word before the tag, and in a program's record with any two
-- bytes before the instructions
abbrev pub SpellsRecord : RecordData → List ℕ → Type 0
SpellsRecord (OfProgram channel version first insns) bytes =
    IsProgramRecord channel version first insns
    × (word : ℕ) × (unused : ℕ) × (bytes ≡ program_spelling word unused channel version first insns)
SpellsRecord (OfEnd end) bytes =
    IsEndRecord end × (word : ℕ) × (bytes ≡ end_spelling word end)

-- the bytes of a program's record with this number in the two bytes before the instructions
abbrev pub with_unused : ℕ → List ℕ → List ℕ
with_unused unused bytes = take 26 bytes ++ to_le_bytes w16 unused ++ drop 28 bytes

-- ---- what is wrong with other bytes

-- the bytes 4 to 7 are the tag
abbrev pub IsTagged : List ℕ → Type 0
IsTagged bytes = take 4 (drop 4 bytes) ≡ codes "CBPR"

-- the kind, the channel and the number of instructions that the bytes say
abbrev pub kind_in : List ℕ → ℕ
kind_in bytes = u16_at bytes 8

abbrev pub record_channel_in : List ℕ → ℕ
record_channel_in bytes = u16_at bytes 10

abbrev pub insn_count_in : List ℕ → ℕ
insn_count_in bytes = u16_at bytes 24

-- the kind is that of a program or of an end
abbrev pub IsKind : ℕ → Type 0
IsKind kind = (kind ≡ PROGRAM_RECORD) ⊎ (kind ≡ END_RECORD)

-- as many bytes as a record of the kind has
pub record HasRecordLength (bytes : List ℕ) : Type 0 where
  pub program : kind_in bytes ≡ PROGRAM_RECORD
      → length bytes ≡ PROGRAM_HEAD_LEN + INSN_LEN * insn_count_in bytes
  pub ending : kind_in bytes ≡ END_RECORD → length bytes ≡ END_RECORD_LEN

-- a tag with a kind and a channel behind it
pub record HasRecordHead (bytes : List ℕ) : Type 0 where
  pub tagged : IsTagged bytes
  pub whole : RECORD_HEAD_LEN ≤ length bytes

-- the tag with this kind and this channel, both of them right
pub record HasRecordFields (kind channel : ℕ) (bytes : List ℕ) : Type 0 where
  pub head : HasRecordHead bytes
  pub kind_is : kind ≡ kind_in bytes
  pub channel_is : channel ≡ record_channel_in bytes
  pub known : IsKind kind
  pub named : channel ≢ 0

-- what is wrong with bytes that have the tag and are no record: they end before the kind and the
-- channel; else the kind, else the channel, else the length
abbrev pub HasRecordFault : List ℕ → RecordFault → Type 0
HasRecordFault bytes Kind = HasRecordHead bytes × ¬ IsKind (kind_in bytes)
HasRecordFault bytes Channel =
    HasRecordHead bytes × IsKind (kind_in bytes) × (record_channel_in bytes ≡ 0)
HasRecordFault bytes Length =
    (IsTagged bytes × (length bytes < RECORD_HEAD_LEN))
    ⊎ (HasRecordHead bytes × IsKind (kind_in bytes) × (record_channel_in bytes ≢ 0)
    × ¬ HasRecordLength bytes)
