-- The programs of one channel, from which frame on each was in force, and which one is in force at
-- a frame. Frames are numbered from 0 in the order in which they were drawn.
use Rattle.std.specs.Prelude.{ℕ, ◌≡◌, ◌<◌, ◌≤◌, ◌-◌, nat_le, List, length, Some, slice_get}
use Rattle.std.specs.Prelude.{count_by, All, AllPairs}
use Rattle.bpf_insn.specs.declared.insn.Insn.{Insn}
use Rattle.bpf_insn.specs.Bytes.{AreInRange}
use Rattle.bpf_verify.specs.Validity.{Valid}

-- a version of a channel's filter: a program, and its mark, the number of the first frame that it
-- may meet
pub record Version : Type 0 where
  pub program : List Insn
  pub mark : ℕ

-- the versions are the history of a channel of which `offered` frames were drawn
pub record IsHistory (offered : ℕ) (history : List Version) : Type 0 where
  pub some : 0 < length history
  pub valid : All (λ (v : Version). Valid v.program) history
  pub in_range : All (λ (v : Version). AreInRange v.program) history
  -- the first version is in force from the first frame on
  pub first : (v : Version) → slice_get history 0 ≡ Some v → v.mark ≡ 0
  -- marks never fall
  pub rise : AllPairs (λ (v w : Version). v.mark ≤ w.mark) history
  -- no version was installed after a frame that is not drawn yet
  pub past : All (λ (v : Version). v.mark ≤ offered) history

-- the version is in force at a frame's number: the last one whose mark is at most that number
pub record InForce (history : List Version) (number version : ℕ) : Type 0 where
  pub entry : Version
  pub stands : slice_get history version ≡ Some entry
  pub begun : entry.mark ≤ number
  pub last : (other : ℕ) (v : Version) →
      slice_get history other ≡ Some v → v.mark ≤ number → other ≤ version

-- that version of a history: as many versions as have begun by then, less one, since marks never
-- fall
abbrev pub version_at : List Version → ℕ → ℕ
version_at history number = count_by (λ (v : Version). nat_le v.mark number) history - 1
