-- The moves of all channels of a recording.
use Rattle.std.proofs.Common.{ℕ, ◌≡◌, List, [], ◌∷◌, ◌++◌, map, Bool, true, false, cond, inl, inr}
use Rattle.std.proofs.Common.{Option, None, Some, refl, sym, ap, subst, ◌∙◌, is_some, eq-eqb, ne_eqb, append-nil}
use Rattle.std.specs.Prelude.{unwrap_or, ◌||◌, ◌==◌}
use Rattle.std.specs.List.{find, list_any}
use Rattle.std.specs.List.Sorted.{IsStrictlyIncreasing}
use Rattle.std.specs.Map.{keys_of, lookup}
use Rattle.std.specs.Option.{option_map}
use Rattle.std.specs.Ordering.{nat_cmp}
use Rattle.std.specs.BTreeMap.{get, is_at, keys, IsOrdered}
use Rattle.std.proofs.lemmas.Bool.{cases_eq, eqb-true}
use Rattle.std.specs.Cmp.{unsigned_tied}
use Rattle.std.proofs.lemmas.List.{append_assoc}
use Rattle.std.proofs.lemmas.Map.Keys.{IsStrictlyIncreasing-from_sorted}
use Rattle.rec_reader.specs.Packets.{PacketData}
use Rattle.rec_runs.specs.declared.channel.ChannelRun.{ChannelRun}
use Rattle.rec_runs.specs.declared.record_moves.RecordMoves.{RecordMoves}
use Rattle.rec_runs.specs.declared.records.RunRecords.{RunRecords}
use Rattle.rec_runs.specs.Moves.{moved_channel, moves_channel, no_moves, moves_for, moves_in_state, AreRecordMoves}
use Rattle.rec_runs.specs.RunStates.{run_data}
use Rattle.rec_runs.specs.RunsRead.{state_held, RunStandsFor}

-- the moves of a channel of which this is kept
abbrev pub entry_moves : ℕ × ChannelRun → RecordMoves
entry_moves entry = moves_in_state entry.0 (run_data entry.1)

-- ---- one channel among them

same_both_ways : (a b : ℕ) → (a == b) ≡ (b == a)
same_both_ways a b = elim (cases_eq a b) [
  | inl same ↦ eq-eqb a b same ∙ sym (eq-eqb b a (sym same))
  | inr apart ↦ ne_eqb a b apart ∙ sym (ne_eqb b a (λ same. apart (sym same)))
]

is_its : (channel key : ℕ) → (key == channel) ≡ is_at (nat_cmp channel) key
is_its channel key = same_both_ways key channel ∙ sym (unsigned_tied channel key)

moves_held : (channel : ℕ) → ChannelRun → RecordMoves
moves_held channel run = moves_in_state channel (run_data run)

found_if : (b : Bool) (channel key : ℕ) (run : ChannelRun) (rest : Option RecordMoves) (others : Option ChannelRun) → (b ≡ true → key ≡ channel)
    → rest ≡ option_map (moves_held channel) others
    → cond b (Some (entry_moves (key, run))) rest ≡ option_map (moves_held channel) (cond b (Some run) others)
unfolding moves_held
found_if true channel key run rest others same is = ap (λ (k : ℕ). Some (moves_in_state k (run_data run))) (same refl)
found_if false channel key run rest others same is = is

found_among : (channel : ℕ) (entries : List (ℕ × ChannelRun))
    → find (moves_channel channel) (map entry_moves entries) ≡ option_map (moves_held channel) (lookup (is_at (nat_cmp channel)) entries)
found_among channel [] = refl
found_among channel (entry ∷ entries) =
    found_if (entry.0 == channel) channel entry.0 entry.1 (find (moves_channel channel) (map entry_moves entries))
    (lookup (is_at (nat_cmp channel)) entries) (eqb-true entry.0 channel) (found_among channel entries)
    ∙ ap (λ b. option_map (moves_held channel) (cond b (Some entry.1) (lookup (is_at (nat_cmp channel)) entries))) (is_its channel entry.0)

any_if : (b : Bool) (run : ChannelRun) (others : Option ChannelRun) → is_some (cond b (Some run) others) ≡ (b || is_some others)
any_if true run others = refl
any_if false run others = refl

any_among : (channel : ℕ) (entries : List (ℕ × ChannelRun))
    → list_any (moves_channel channel) (map entry_moves entries) ≡ is_some (lookup (is_at (nat_cmp channel)) entries)
any_among channel [] = refl
any_among channel (entry ∷ entries) =
    ap (λ b. (entry.0 == channel) || b) (any_among channel entries)
    ∙ ap (λ b. b || is_some (lookup (is_at (nat_cmp channel)) entries)) (is_its channel entry.0)
    ∙ sym (any_if (is_at (nat_cmp channel) entry.0) entry.1 (lookup (is_at (nat_cmp channel)) entries))

-- ---- all of them

channels_among : (entries : List (ℕ × ChannelRun)) → map moved_channel (map entry_moves entries) ≡ keys_of entries
channels_among [] = refl
channels_among (entry ∷ entries) = ap (λ l. entry.0 ∷ l) (channels_among entries)

moves_of_held : (channel : ℕ) (held : Option ChannelRun)
    → unwrap_or (option_map (moves_held channel) held) (no_moves channel) ≡ moves_in_state channel (state_held held)
unfolding moves_held
moves_of_held channel None = refl
moves_of_held channel (Some run) = refl

pub all_moves : (records : RunRecords) (moves : List RecordMoves) → moves ≡ map entry_moves records.channels.entries → IsOrdered nat_cmp records.channels
    → (earlier : List (List PacketData)) (own : List PacketData) → RunStandsFor records earlier own → AreRecordMoves earlier own moves
all_moves records moves are ordered earlier own had = record {
  each = λ channel. ap (moves_for channel) are
      ∙ ap (λ (found : Option RecordMoves). unwrap_or found (no_moves channel)) (found_among channel records.channels.entries)
      ∙ moves_of_held channel (get nat_cmp records.channels channel)
      ∙ ap (moves_in_state channel) (had.states channel);
  has = λ channel. ap (list_any (moves_channel channel)) are ∙ any_among channel records.channels.entries ∙ had.has channel;
  ascending = subst (λ channels. IsStrictlyIncreasing channels) (sym (ap (map moved_channel) are ∙ channels_among records.channels.entries))
      (IsStrictlyIncreasing-from_sorted (keys records.channels) ordered);
}

-- ---- one by one

pub one_more_listed : (listed : List RecordMoves) (entry : ℕ × ChannelRun) (left rest entries : List (ℕ × ChannelRun)) (moves : RecordMoves)
    → listed ++ map entry_moves left ≡ map entry_moves entries → left ≡ entry ∷ rest → moves ≡ entry_moves entry
    → (listed ++ moves ∷ []) ++ map entry_moves rest ≡ map entry_moves entries
one_more_listed listed entry left rest entries moves is next are =
    append_assoc listed (moves ∷ []) (map entry_moves rest)
    ∙ ap (λ (m : RecordMoves). listed ++ m ∷ map entry_moves rest) are
    ∙ sym (ap (λ l. listed ++ map entry_moves l) next) ∙ is

pub all_listed : (listed : List RecordMoves) (left entries : List (ℕ × ChannelRun))
    → listed ++ map entry_moves left ≡ map entry_moves entries → left ≡ []
    → listed ≡ map entry_moves entries
all_listed listed left entries is none = sym (append-nil listed) ∙ sym (ap (λ l. listed ++ map entry_moves l) none) ∙ is
