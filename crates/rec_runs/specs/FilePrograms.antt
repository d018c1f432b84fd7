-- The programs of a channel in a file of recordings that follow one another.
use Rattle.std.specs.Prelude.{ℕ, ◌+◌, ◌^◌, min, nat_le, Bool, true, if◌then◌else◌, List, [], ◌∷◌}
use Rattle.std.specs.Prelude.{Option, None, Some}
use Rattle.bpf_insn.specs.declared.insn.Insn.{Insn}
use Rattle.rec_reader.specs.declared.audits.channel.ChannelProgram.{ChannelProgram}

-- a program of a channel in the file: its version there, and its instructions
pub record FileProgram : Type 0 where
  pub version : ℕ
  pub insns : List Insn

-- a version in the file: from 2^32 on, where none fits, it stays there
abbrev pub file_version : ℕ → ℕ
file_version version = min version (2 ^ 32)

-- a recording's program, to whose version so much is added
abbrev pub program_in_file : (added : ℕ) → ChannelProgram → FileProgram
program_in_file added program = record {
  version = file_version (added + program.version);
  insns = program.insns;
}

-- none of the programs, of which this is the one of the greatest version, has a greater version
-- than this
abbrev pub is_greatest_behind : (earlier : Option FileProgram) → (version : ℕ) → Bool
is_greatest_behind None version = true
is_greatest_behind (Some earlier) version = nat_le earlier.version version

-- of a program and one behind it that of the greater version, of one version the one behind
abbrev pub greater_program : (earlier : Option FileProgram) → FileProgram → Option FileProgram
greater_program earlier program =
    if is_greatest_behind earlier program.version then Some program else earlier

-- the one of the greatest version, of an earlier one and these; of several of that version the last
abbrev pub greatest_behind : (earlier : Option FileProgram) → List FileProgram → Option FileProgram
greatest_behind earlier [] = earlier
greatest_behind earlier (program ∷ programs) =
    greatest_behind (greater_program earlier program) programs

abbrev pub greatest_program : List FileProgram → Option FileProgram
greatest_program programs = greatest_behind None programs
