-- The recordings that are kept of a run, packet by packet and recording by recording.
use Rattle.std.proofs.Common.{ℕ, ◌≡◌, ◌≢◌, inl, inr, List, [], ◌∷◌, ◌++◌, Bool, true, false}
use Rattle.std.proofs.Common.{Option, None, Some, refl, sym, ap, subst, ◌∙◌, is_some, ne_eqb, eq-eqb}
use Rattle.std.specs.Prelude.{map, ◌||◌, Result, Ok, Err, OnOk}
use Rattle.std.specs.List.{list_any}
use Rattle.std.specs.Map.{lookup}
use Rattle.std.specs.Option.{option_map}
use Rattle.std.specs.Ordering.{nat_cmp}
use Rattle.std.specs.BTreeMap.{get, is_at}
use Rattle.std.proofs.lemmas.Bool.{cases_eq}
use Rattle.std.proofs.lemmas.List.Folds.{list_any-append}
use Rattle.std.proofs.lemmas.Map.Made.{lookup-map_values}
use Rattle.rec_reader.specs.Packets.{PacketData}
use Rattle.rec_reader.specs.Channels.{Saying, saying_of}
use Rattle.rec_runs.specs.declared.channel.ChannelRun.{ChannelRun}
use Rattle.rec_runs.specs.declared.records.RunRecords.{RunRecords}
use Rattle.rec_runs.specs.FilePrograms.{FileProgram}
use Rattle.rec_runs.specs.ProgramMoves.{ProgramMoves, moves_behind}
use Rattle.rec_runs.specs.RunSayings.{without_frames, is_said_of, tells_of, recording_has, run_has}
use Rattle.rec_runs.specs.RunStates.{run_data, run_after, next_run, state_of_run}
use Rattle.rec_runs.specs.RunsRead.{state_held, state_in, SetsRun, TakesPacketOfRun, BeginsNext}
use Rattle.rec_runs.proofs.RunSteps.{run_on, run_stays, next_state, run_next}

or_none : (b : Bool) → (b || false) ≡ b
or_none true = refl
or_none false = refl

or_one : (b : Bool) → (b || true) ≡ true
or_one true = refl
or_one false = refl

any_more : {A : Type 0} (p : A → Bool) (xs : List A) (x : A) → list_any p (xs ++ x ∷ []) ≡ (list_any p xs || p x)
any_more p xs x = list_any-append p xs (x ∷ []) ∙ ap (λ b. list_any p xs || b) (or_none (p x))

pub if_taken : {T E A B : Type 0} (result : Result T E) → (A → B) → OnOk result A → OnOk result B
if_taken (Ok value) f a = f a
if_taken (Err fault) f a = tt

-- ---- which recordings have a channel

has_now : (channel : ℕ) (earlier : List (List PacketData)) (own : List PacketData) (packet : PacketData) → tells_of channel packet ≡ true
    → run_has channel (earlier ++ (own ++ packet ∷ []) ∷ []) ≡ true
has_now channel earlier own packet told =
    any_more (recording_has channel) earlier (own ++ packet ∷ [])
    ∙ ap (λ b. run_has channel earlier || b) (any_more (tells_of channel) own packet ∙ ap (λ b. recording_has channel own || b) told
    ∙ or_one (recording_has channel own))
    ∙ or_one (run_has channel earlier)

has_as_before : (channel : ℕ) (earlier : List (List PacketData)) (own : List PacketData) (packet : PacketData) → tells_of channel packet ≡ false
    → run_has channel (earlier ++ (own ++ packet ∷ []) ∷ []) ≡ run_has channel (earlier ++ own ∷ [])
has_as_before channel earlier own packet untold =
    any_more (recording_has channel) earlier (own ++ packet ∷ [])
    ∙ ap (λ b. run_has channel earlier || b) (any_more (tells_of channel) own packet ∙ ap (λ b. recording_has channel own || b) untold
    ∙ or_none (recording_has channel own))
    ∙ sym (any_more (recording_has channel) earlier own)

has_next : (channel : ℕ) (recordings : List (List PacketData)) → run_has channel (recordings ++ [] ∷ []) ≡ run_has channel recordings
has_next channel recordings = any_more (recording_has channel) recordings [] ∙ or_none (run_has channel recordings)

-- ---- a packet more

module _ (old new : RunRecords) (packet : PacketData) (channel : ℕ) (saying : Saying)
    (says : without_frames (saying_of packet) ≡ Some (channel, saying))
    (sets : SetsRun old.channels channel (run_after packet.at saying (state_in old.channels channel)) new.channels) where
  told_here : tells_of channel packet ≡ true
  told_here = ap (is_said_of channel) says ∙ eq-eqb channel channel refl

  told_elsewhere : (other : ℕ) → channel ≢ other → tells_of other packet ≡ false
  told_elsewhere other apart = ap (is_said_of other) says ∙ ne_eqb channel other apart

  pub takes_told : TakesPacketOfRun old packet new
  takes_told earlier own had = record {
    states = λ other. elim (cases_eq channel other) [
      | inl e ↦ subst (λ c. state_in new.channels c ≡ state_of_run c earlier (own ++ packet ∷ [])) e
          (sets.here ∙ ap (run_after packet.at saying) (had.states channel) ∙ sym (run_on channel earlier own packet saying says))
      | inr apart ↦ ap state_held (sets.others other apart) ∙ had.states other ∙ sym (run_stays other earlier own packet (told_elsewhere other apart))
    ];
    has = λ other. elim (cases_eq channel other) [
      | inl e ↦ subst (λ c. is_some (get nat_cmp new.channels c) ≡ run_has c (earlier ++ (own ++ packet ∷ []) ∷ [])) e
          (sets.there ∙ sym (has_now channel earlier own packet told_here))
      | inr apart ↦ ap is_some (sets.others other apart) ∙ had.has other ∙ sym (has_as_before other earlier own packet (told_elsewhere other apart))
    ];
  }

-- a packet that says nothing of any channel but frames
pub takes_none : (records : RunRecords) (packet : PacketData) → without_frames (saying_of packet) ≡ None → TakesPacketOfRun records packet records
takes_none records packet none earlier own had =
    let untold = λ (channel : ℕ). ap (is_said_of channel) none in
    record {
      states = λ channel. had.states channel ∙ sym (run_stays channel earlier own packet (untold channel));
      has = λ channel. had.has channel ∙ sym (has_as_before channel earlier own packet (untold channel));
    }

-- ---- the next recording

next_as_data : (last : Option FileProgram) → record { versions = (moves_behind last []).versions; same = None } ≡ moves_behind last []
next_as_data None = refl
next_as_data (Some last) = refl

next_data : (run : ChannelRun) → run_data (next_run run) ≡ next_state (run_data run)
next_data run = ap (λ (moves : ProgramMoves). record (next_state (run_data run)) { moves = moves }) (next_as_data (run_data run).last)

next_held : (held : Option ChannelRun) → state_held (option_map next_run held) ≡ next_state (state_held held)
next_held None = refl
next_held (Some run) = next_data run

some_next : (held : Option ChannelRun) → is_some (option_map next_run held) ≡ is_some held
some_next None = refl
some_next (Some run) = refl

pub begins_next : (old new : RunRecords) → new.channels.entries ≡ map (λ (e : ℕ × ChannelRun). (e.0, next_run e.1)) old.channels.entries
    → BeginsNext old new
begins_next old new are earlier own had =
    let found = λ (channel : ℕ). ap (lookup (is_at (nat_cmp channel))) are ∙ lookup-map_values next_run (is_at (nat_cmp channel)) old.channels.entries in
    record {
      states = λ channel. ap state_held (found channel) ∙ next_held (get nat_cmp old.channels channel) ∙ ap next_state (had.states channel)
          ∙ sym (run_next channel earlier own);
      has = λ channel. ap is_some (found channel) ∙ some_next (get nat_cmp old.channels channel) ∙ had.has channel
          ∙ sym (has_next channel (earlier ++ own ∷ []));
    }
