-- Which channel IDs are free.
use Rattle.std.specs.Prelude.{ℕ, ◌≡◌, ◌≤◌, ◌<◌, ◌^◌, Bool, true, false}

-- the least channel ID from 1 on that isn't taken
pub record IsLeastFree (is_taken : ℕ → Bool) (id : ℕ) : Type 0 where
  pub from_one : 1 ≤ id
  pub is_id : id < 2 ^ 16
  pub free : is_taken id ≡ false
  pub least : (other : ℕ) → 1 ≤ other → other < id → is_taken other ≡ true

-- all channel IDs from 1 on are taken
abbrev pub AreAllTaken : (ℕ → Bool) → Type 0
AreAllTaken is_taken = (id : ℕ) → 1 ≤ id → id < 2 ^ 16 → is_taken id ≡ true
